-- Events that are taken, one after another.
use Rattle.std.proofs.Common.{◌≡◌, ◌≤◌, ◌<◌, ◌+◌, ◌++◌, ℕ, List, [], ◌∷◌, Option, length, length-append, refl}
use Rattle.std.proofs.Common.{ap, sym, ◌∙◌, append-nil, arith, inl, inr, ◌==◌, false, true}
use Rattle.std.proofs.lemmas.Bool.{cases_Bool}
use Rattle.event_loop.proofs.Due.{bytes_on}
use Rattle.gathered_out.specs.Pieces.{bytes_of, piece}
use Rattle.gathered_out.specs.Puts.{BreaksPut, Holding, IsPut}
use Rattle.gpu_taps.specs.Tally.{Reading}
use Rattle.gpu_capture.specs.Capture.{head_of, limit}
use Rattle.gpu_capture.specs.Draft.{end_at, head_at}
use Rattle.gpu_capture.specs.Written.{spell, spelled_end}
use Rattle.gpu_capture.specs.declared.event.Event.{Event}
use Rattle.gpu_capture.specs.declared.event.Stop.TheVariants.{End}
use Rattle.event_play.specs.Replay.{Replay, Played, from_state, next_number, played_events, raised}
use Rattle.event_play.specs.RigState.{RigState, StandsFor}
use Rattle.event_play.specs.Streams.{without_sink}
use Rattle.event_play.proofs.BoxCosts.{event_cost-small}
use Rattle.event_play.proofs.Firsts.{IsFirst, from_first, raised_first, raised_played}
use Rattle.event_play.proofs.Grows.{after-event, replay_on}
use Rattle.event_play.proofs.Reaching.{both_small, spent_on}
use Rattle.event_play.specs.Step.{event_box_cost, event_cost}
use Rattle.capture_flat.specs.Flat.{flat_events}
use Rattle.capture_flat.specs.OneEvent.{PlaysFlat, end_due}
use Rattle.capture_flat.specs.Out.{begun, due_at, flat_file, flat_version, head_due}
use Rattle.capture_flat.specs.Passing.{Follows}
use Rattle.capture_flat.specs.Taking.{FitsBefore, FlatAt, FlatBegins, FlatBreaks, FlatKnows, FlatPlays, FlatStands}
use Rattle.capture_flat.specs.Taking.{FlatStart, first_of}
use Rattle.capture_flat.specs.Taking.{flat_at, flat_closing, flat_due, flat_number, replay_after}
use Rattle.gpu_capture.specs.declared.draft.CaptureFile.{CaptureFile}
use Rattle.capture_flat.proofs.Following.{all_flat, follows_none, follows_on}
use Rattle.event_play.proofs.Reaching.{heard_on}
use Rattle.capture_flat.proofs.Output.{begun_on, written_fits, written_length}
use Rattle.event_loop.specs.Puts.{ArePut, BreakPut}

-- the replay after events is the one to which they lead
pub after_is : (start : FlatStart) (version : ℕ) (events : List Event) (replay : Replay) (flat : List Event)
    → Follows (first_of start version) events replay flat → replay_after start version events ≡ replay
after_is start version events replay flat follows =
    ap (λ es. (played_events (first_of start version) es End []).replay) (sym (append-nil events))
    ∙ ap (λ (r : Played). r.replay) (follows.replays [] End [])

pub number_is : (start : FlatStart) (version : ℕ) (events : List Event) (at : FlatAt)
    → FlatStands start version events at → (played number : ℕ) → played ≡ at.rig.played
    → number ≡ next_number played → number ≡ flat_number start version events
number_is start version events at st played number was is =
    is ∙ ap next_number (was ∙ sym st.plays.rig.played
    ∙ ap (λ (t : Replay). t.played)
    (sym (after_is start version events st.plays.replay st.plays.flat st.plays.follows)))

-- ---- the beginning

pub first_stands : (start : FlatStart) (version written : ℕ) (at : FlatAt) (rig : RigState) → FlatBegins start at
    → version ≤ 3 → written ≡ flat_version version
    → ((t : Replay) → StandsFor at.rig t → StandsFor rig (raised t version))
    → FlatStands start version [] (flat_at (record { version = written; size = 0 }) rig at.heard at.steps)
first_stands start version written at rig begins low same raises =
    let first = first_of start version in
    let none : IsFirst first = raised_first (from_state start.machine 0) version (from_first start.machine 0) in
    let unplayed : first.played ≡ 0 = raised_played (from_state start.machine 0) version in
    let nothing : begun version first.played [] ≡ [] = rw unplayed refl in
    record {
      plays = record {
        replay = first;
        flat = [];
        follows = follows_none first;
        rig = raises (from_state start.machine 0) (record { state = begins.rig; played = sym begins.played });
        heard = rw none.notes begins.heard;
        cost = let steps = begins.steps in omega (arith, steps);
        small = omega (arith, none.cost);
        counts = λ some. absurd (omega (arith, some));
      };
      written = sym nothing;
      version_is = same;
      low = low;
      size_is = ap length (sym nothing);
      fits = omega arith;
    }

-- the file header is still to be written if no event was played
pub head_is : (start : FlatStart) (version : ℕ) (events : List Event) (at : FlatAt)
    → FlatStands start version events at → head_at at.file ≡ head_due version at.rig.played
head_is start version events at st =
    let head = head_of (flat_version version) in
    let size = st.size_is in
    rw (← st.plays.rig.played)
    (elim (cases_Bool (st.plays.replay.played == 0)) [
      | inl none ↦
          let bytes : length (begun version st.plays.replay.played st.plays.flat) ≡ 0 = rw none refl in
          let empty : (at.file.size == 0) ≡ true = grind (arith, size, bytes) in
          rw (none, empty) (ap head_of st.version_is)
      | inr some ↦
          let long = length-append head (spell st.plays.flat) in
          let bytes : length (begun version st.plays.replay.played st.plays.flat) ≡ length (head ++ spell st.plays.flat)
          = rw some refl in
          let full : (at.file.size == 0) ≡ false = grind (arith, size, bytes, long) in
          rw (some, full) refl
    ])

-- the same by an equal machine
pub same_stands : (start : FlatStart) (version : ℕ) (events : List Event) (file : CaptureFile) (rig now : RigState)
    (heard : List Reading) (steps : ℕ) → now ≡ rig → FlatStands start version events (flat_at file rig heard steps)
    → FlatStands start version events (flat_at file now heard steps)
same_stands start version events file rig now heard steps same st = rw same st

pub all_stands : (start : FlatStart) (version : ℕ) (events : List Event) (file : CaptureFile) (rig now : RigState)
    (heard told : List Reading) (steps spent : ℕ) → now ≡ rig → told ≡ heard → spent ≡ steps
    → FlatStands start version events (flat_at file rig heard steps)
    → FlatStands start version events (flat_at file now told spent)
all_stands start version events file rig now heard told steps spent same untold free st =
    rw (same, untold, free) st

-- ---- an event

module _ (start : FlatStart) (version : ℕ) (events : List Event) (event : Event) (at now : FlatAt)
    (st : FlatStands start version events at)
    (plays : PlaysFlat st.plays.replay event (without_sink at.heard at.steps)
    (without_sink now.heard now.steps) now.rig)
  where
    abbrev t : Replay
    t = st.plays.replay

    abbrev next : Replay
    next = replay_on t event plays.step.machine plays.shown plays.step.notes

    abbrev more : List Event
    more = flat_events t.state event

    abbrev first : Replay
    first = first_of start version

    follows : Follows first (events ++ event ∷ []) next (st.plays.flat ++ more)
    follows = follows_on first t next events st.plays.flat event st.plays.follows
        (after-event t event plays.step.machine plays.shown plays.step.notes plays.step.is) refl plays.allowed

    pub plays_more : FlatPlays start version (events ++ event ∷ []) now
    plays_more = record {
      replay = next;
      flat = st.plays.flat ++ more;
      follows = follows;
      rig = record { state = plays.step.stands; played = sym plays.played };
      heard = heard_on start.heard at.heard now.heard t.notes plays.step.notes st.plays.heard plays.step.heard;
      cost = spent_on start.steps at.steps now.steps t.cost (event_cost t.state event) st.plays.cost plays.step.cost;
      small = both_small t.cost (event_cost t.state event) t.box_cost (event_box_cost t.state event) st.plays.small
          (event_cost-small t.state event);
      counts = λ some. omega arith;
    }

    after_it : length (begun version next.played (st.plays.flat ++ more))
        ≡ length (begun version t.played st.plays.flat) + length (due_at version t event)
    after_it =
        let e = ap length (begun_on version t.played st.plays.flat more st.plays.follows.fresh) in
        let long = length-append (begun version t.played st.plays.flat) (due_at version t event) in
        omega (arith, e, long)

    pub file_length : length (flat_file first version (events ++ event ∷ []))
        ≡ at.file.size + length (due_at version t event) + 4
    file_length =
        let a = written_length version t.played (st.plays.flat ++ more) in
        let size = st.size_is in
        let both = after_it in
        rw (all_flat first next (events ++ event ∷ []) (st.plays.flat ++ more) follows)
        (omega (arith, a, size, both))

    pub stands_more : now.file.version ≡ at.file.version
        → now.file.size ≡ at.file.size + length (due_at version t event) → now.file.size + 4 ≤ limit
        → FlatStands start version (events ++ event ∷ []) now
    unfolding plays_more
    stands_more same size fits = record {
      plays = plays_more;
      written = bytes_on (flat_due start version) events event
          ∙ ap (λ bs. bs ++ bytes_of (flat_due start version events event)) st.written
          ∙ ap (λ bs. begun version t.played st.plays.flat ++ bs)
          (append-nil (due_at version (replay_after start version events) event)
          ∙ ap (λ (u : Replay). due_at version u event)
          (after_is start version events t st.plays.flat st.plays.follows))
          ∙ sym (begun_on version t.played st.plays.flat more st.plays.follows.fresh);
      version_is = same ∙ st.version_is;
      low = st.low;
      size_is = let was = st.size_is in let both = after_it in omega (arith, size, was, both);
      fits = fits;
    }

    pub breaks_more : at.file.size + length (due_at version t event) + 4 ≤ limit
        → FlatBreaks start version (events ++ event ∷ []) now
    breaks_more fits = record {
      plays = plays_more;
      fits = let long = file_length in omega (arith, long, fits);
    }

    pub knows_here : at.file.size + length (due_at version t event) + 4 ≤ limit
        → FlatKnows start version events event
    knows_here fits = record {
      replay = t;
      flat = st.plays.flat;
      follows = st.plays.follows;
      written = st.written;
      fits = let long = file_length in omega (arith, long, fits);
    }

    pub too_much : limit < at.file.size + length (due_at version t event) + 4
        → limit < length (flat_file first version (events ++ event ∷ []))
    too_much long = let e = file_length in omega (arith, e, long)

pub fits_before : (start : FlatStart) (version : ℕ) (events : List Event) (at : FlatAt)
    → FlatStands start version events at → FitsBefore start version events
fits_before start version events at st =
    let first = first_of start version in
    let size = st.size_is in
    let fits = st.fits in
    record {
      replay = st.plays.replay;
      flat = st.plays.flat;
      follows = st.plays.follows;
      written = st.written;
      fits = rw (all_flat first st.plays.replay events st.plays.flat st.plays.follows)
          (written_fits version st.plays.replay.played st.plays.flat st.plays.follows.fresh
          (omega (arith, size, fits)));
    }

-- the output of an event, by the replay before it
pub due_put : (start : FlatStart) (version : ℕ) (events : List Event) (event : Event) (at : FlatAt)
    → FlatStands start version events at → (replay : Replay) → replay_after start version events ≡ replay
    → (before now : Holding) → IsPut (piece (next_number replay.played) (due_at version replay event)) before now
    → ArePut (flat_due start version events event) before now
due_put start version events event at st replay is before now put = rw is (now, put, λ base ps out. out)

pub due_breaks : (start : FlatStart) (version : ℕ) (events : List Event) (event : Event) (replay : Replay)
    → replay_after start version events ≡ replay → (before : Holding) (now : Option (List ℕ)) (lacking : ℕ)
    → BreaksPut (piece (next_number replay.played) (due_at version replay event)) before now lacking
    → BreakPut (flat_due start version events event) before now lacking
due_breaks start version events event replay is before now lacking breaks = rw is (inl breaks)

-- ---- the end

module _ (start : FlatStart) (version : ℕ) (events : List Event) (at : FlatAt) (st : FlatStands start version events at)
    (played : ℕ) (counted : played ≡ at.rig.played) where
  played_is : played ≡ (replay_after start version events).played
  played_is = counted ∙ sym st.plays.rig.played
      ∙ ap (λ (t : Replay). t.played)
      (sym (after_is start version events st.plays.replay st.plays.flat st.plays.follows))

  end_is : end_at at.file ≡ end_due version played
  end_is = ap (λ bs. bs ++ spelled_end)
      (head_is start version events at st ∙ ap (head_due version) (sym counted))

  pub close_put : (before now : Holding)
      → IsPut (piece (next_number played) (end_at at.file)) before now
      → ArePut (flat_closing start version events End) before now
  close_put before now put = rw (← played_is, ← end_is) (now, put, λ base ps out. out)

  pub close_breaks : (before : Holding) (now : Option (List ℕ)) (lacking : ℕ)
      → BreaksPut (piece (next_number played) (end_at at.file)) before now lacking
      → BreakPut (flat_closing start version events End) before now lacking
  close_breaks before now lacking breaks = rw (← played_is, ← end_is) (inl breaks)
