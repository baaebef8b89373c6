-- The state of playing a capture.
use Rattle.std.proofs.Common.{◌≡◌, ◌≤◌, inl, inr, ℕ, ◌+◌, ◌++◌, List, [], ◌∷◌, Option, Result, Ok, Err, OnOk, IfOk}
use Rattle.std.proofs.Common.{IfErr, Bool, cond, nat_lt, replicate, refl, ap, sym, subst, ◌∙◌, append_assoc, append-nil}
use Rattle.std.proofs.Common.{◌<◌, ◌⊎◌, length, length-append, arith}
use Rattle.dev_io.specs.Device.{prepended, IsAtEnd}
use Rattle.dev_io.proofs.Appended.{appended-nil}
use Rattle.dev_io.proofs.Parts.{taken_on}
use Rattle.gathered_out.specs.Pieces.{Piece}
use Rattle.gathered_out.specs.Puts.{IsWritten, holding}
use Rattle.gathered_out.proofs.Buffers.{Buffers, buffers_more, buffers_none, buffers_written}
use Rattle.gpu_capture.specs.Capture.{Captured, ended, then_events, records, capture}
use Rattle.gpu_capture.proofs.Needed.{says_on}
use Rattle.gpu_capture.proofs.Steps.{split}
use Rattle.gpu_capture.proofs.Taken.{few_between}
use Rattle.gpu_capture.proofs.Versions.{version_from}
use Rattle.gpu_capture.specs.Reader.{AreNeeded, Takes, StopsAt, SaysStop, capture_from, IsStart}
use Rattle.gpu_capture.specs.Reader.{reader_input}
use Rattle.gpu_capture.specs.declared.event.Event.{Event}
use Rattle.gpu_capture.specs.declared.event.Stop.{Stop}
use Rattle.gpu_capture.specs.declared.event.Stop.TheVariants.{End, NotCapture, Truncated, BadRecord, TooLong, ReadFault}
use Rattle.gpu_capture.specs.declared.progress.Progress.{Progress}
use Rattle.gpu_taps.specs.Tally.{Reading}
use Rattle.event_play.specs.Lines.{IsBuffered, MayBuffer, lines_cost}
use Rattle.event_play.specs.Out.{lines_of, replay_cost}
use Rattle.event_loop.specs.Pausing.{Pauses, most_after}
use Rattle.event_play.specs.Playing.{AreAllNeeded, plays}
use Rattle.event_play.specs.Replay.{Replay, Played, Script, from_state, replayed, raised, played_from}
use Rattle.event_play.specs.Replay.{played_after, script_after, script_from, script_of}
use Rattle.event_play.specs.Replay.{next_number, ending_of}
use Rattle.event_play.specs.RigState.{RigState, StandsFor}
use Rattle.event_play.specs.Step.{Machine}
use Rattle.event_play.specs.Streams.{Streams, streams}
use Rattle.event_play.specs.Told.{told_notes}
use Rattle.event_play.specs.declared.ending.Mode.{Mode}
use Rattle.event_play.proofs.Grows.{lines-none, lines_cost-none, cost_grows}
use Rattle.event_loop.proofs.Awaiting.{LiesAfter}
use Rattle.event_play.proofs.Following.{ReadsAll, ReadsTo, read_first, read_on, reads_all, reads_further}
use Rattle.event_play.proofs.Firsts.{IsFirst, raised_first, from_first}
use Rattle.event_play.proofs.Lacking.{WasDue, due_more}

-- The first bytes of the source were read. The output so far was written or buffered, and the notes sent. `flushed`:
-- the bytes read at the last flush; `after`: the bytes after them. What the bytes say of the replay is the argument
-- `Says`.
pub record Reaches (mode : Mode) (script : List ℕ → Script) (before now : Streams) (buffered : List Piece)
    (rig : RigState) (Says : Replay → (taken after : List ℕ) → List Event → Type 0) : Type 0 where
  pub taken : List ℕ
  pub bytes : before.left ≡ prepended taken now.left
  pub needed : AreAllNeeded (plays script) taken
  pub events : List Event
  pub replay : Replay
  pub flushed : List ℕ
  pub after : List ℕ
  pub taken_is : taken ≡ flushed ++ after
  pub says : Says replay taken after events
  pub stands : StandsFor rig replay
  pub buffers : Buffers (WasDue mode script events flushed taken) before.held (lines_of mode replay) now.held buffered
  pub free : MayBuffer mode buffered
  pub heard : now.heard ≡ told_notes replay.notes before.heard
  pub cost : now.steps ≤ before.steps + replay_cost mode replay

-- Whatever bytes follow, playing continues from the replay at the reader's offset.
abbrev pub PlaysOn : (List ℕ → Script) → Progress → Replay → List ℕ → Type 0
PlaysOn script p t taken = (rest : List ℕ) → plays script (taken ++ rest) ≡ replayed t (capture_from p rest)

-- at most 4,112 of them, if the mode buffers lines
abbrev pub AreFew : Mode → List ℕ → Type 0
AreFew mode after = IsBuffered mode → length after ≤ most_after

-- These events were read and played, and playing continues after them.
pub record GoesOn (mode : Mode) (script : List ℕ → Script) (since : ℕ) (p : Progress) (t : Replay)
    (taken after : List ℕ) (events : List Event) : Type 0 where
  pub plays_on : PlaysOn script p t taken
  pub read : ReadsTo script p t taken events []
  pub lies : LiesAfter since p after
  pub few : AreFew mode after

-- a replay that stops after `t`
abbrev pub stopped : Replay → Stop → List ℕ → Played
stopped t stop rest = record { replay = t; ending = ending_of (next_number t.played) stop; rest = rest }

-- what the bytes say after the reader has returned an event, not played yet, or a stop
abbrev pub SaysNext : (List ℕ → Script) → Progress → Option (List ℕ) → Result Event Stop → Replay → List ℕ → Type 0
SaysNext script p left (Ok event) t taken = (rest : List ℕ)
    → plays script (taken ++ rest) ≡ replayed t (then_events (event ∷ []) (capture_from p rest))
SaysNext script p left (Err (ReadFault byte)) t taken = plays script taken ≡ stopped t (Truncated byte) []
SaysNext script p left (Err (Truncated byte)) t taken =
    (plays script taken ≡ stopped t (Truncated byte) []) × IsAtEnd left
SaysNext script p left (Err stop) t taken = (rest : List ℕ) → plays script (taken ++ rest) ≡ stopped t stop rest

-- An event that is not played yet was read after these events. If the reader stopped, the bytes read say these events,
-- unless there are none.
abbrev pub ReadsNext : (List ℕ → Script) → Progress → Result Event Stop → Replay → List ℕ → List Event → Type 0
ReadsNext script p (Ok event) t taken events = ReadsTo script p t taken events (event ∷ [])
ReadsNext script p (Err stop) t taken events = (events ≡ []) ⊎ ReadsAll script t taken events

abbrev pub LiesNext : (since : ℕ) → Progress → Result Event Stop → (after : List ℕ) → Type 0
LiesNext since p (Ok event) after = LiesAfter since p after
LiesNext since p (Err stop) after = Unit {0}

pub record Answers (mode : Mode) (script : List ℕ → Script) (since : ℕ) (p : Progress) (left : Option (List ℕ))
    (next : Result Event Stop) (t : Replay) (taken after : List ℕ) (events : List Event) : Type 0 where
  pub says : SaysNext script p left next t taken
  pub read : ReadsNext script p next t taken events
  pub costs : (rest : List ℕ) → replay_cost mode t ≤ replay_cost mode (plays script (taken ++ rest)).replay
  pub lies : LiesNext since p next after
  pub few : AreFew mode after

abbrev pub Awaits : Mode → (List ℕ → Script) → (before now : Streams) → (buffered : List Piece) → (since : ℕ) → RigState
    → Progress → Result Event Stop → Type 0
Awaits mode script before now buffered since rig p next =
    Reaches mode script before now buffered rig (Answers mode script since p now.left next)

-- ---- the start

-- None of the bytes up to the reader's first result is unnecessary.
first_needed : (first : Replay) (start : Progress) (taken : List ℕ) → AreNeeded start taken
    → AreAllNeeded (played_after first start) taken
first_needed first start taken needed part more splits some =
    let short = needed part more splits some in rw (ap (played_from first) short.is) tt

-- what the bytes of the first event say, in a capture of this version
says_first : (first : Replay) (start new : Progress) (event : Event) (taken : List ℕ) → 1 ≤ new.version
    → ((rest : List ℕ) → capture_from start (taken ++ rest) ≡ then_events (event ∷ []) (capture_from new rest))
    → (rest : List ℕ) → played_after first start (taken ++ rest) ≡ replayed (raised first new.version)
    (then_events (event ∷ []) (capture_from new rest))
says_first first start new event taken known says rest =
    let c = then_events (event ∷ []) (capture_from new rest) in
    ap (played_from first) (says rest)
    ∙ ap (λ version. replayed (raised first version) c) (version_from new rest known)

stops_first : (first : Replay) (start new : Progress) (stop : Stop) (taken : List ℕ) (left : Option (List ℕ))
    → SaysStop stop start new.version taken left
    → SaysNext (script_after first start) new left (Err stop) (raised first new.version) taken
stops_first first start new (ReadFault byte) taken left says = ap (played_from first) says
stops_first first start new (Truncated byte) taken left says = (ap (played_from first) says.0, says.1)
stops_first first start new End taken left says = λ rest. ap (played_from first) (says rest)
stops_first first start new (NotCapture byte) taken left says = λ rest. ap (played_from first) (says rest)
stops_first first start new (BadRecord byte word) taken left says = λ rest. ap (played_from first) (says rest)
stops_first first start new (TooLong byte) taken left says = λ rest. ap (played_from first) (says rest)

module _ (mode : Mode) (s : Machine) (played : ℕ) (left left_now held : Option (List ℕ)) (heard : List Reading)
    (steps : ℕ) (rig : RigState)
    (start new : Progress) (buffered : List Piece) (since : ℕ) (empty : buffered ≡ []) (offset : since ≡ new.offset)
    (stands : StandsFor rig (raised (from_state s played) new.version))
  where
    abbrev begun : Replay
    begun = from_state s played

    abbrev profiled : Replay
    profiled = raised begun new.version

    none : IsFirst profiled
    none = raised_first begun new.version (from_first s played)

    -- nothing was written, noted or spent yet
    reached : (next : Result Event Stop) (taken : List ℕ) → left ≡ prepended taken left_now → AreNeeded start taken
        → SaysNext (script_after begun start) new left_now next profiled taken
        → ReadsNext (script_after begun start) new next profiled taken [] → LiesNext since new next []
        → Awaits mode (script_after begun start) (streams left held heard steps) (streams left_now held heard steps)
        buffered since rig new next
    reached next taken bytes needed says read lies = record {
      taken = taken;
      bytes = bytes;
      needed = first_needed begun start taken needed;
      events = [];
      replay = profiled;
      flushed = taken;
      after = [];
      taken_is = sym (append-nil taken);
      says = record {
        says = says;
        read = read;
        lies = lies;
        few = λ is. omega arith;
        costs = λ rest.
            let e = ap (λ frames. lines_cost mode frames profiled.changes) none.frames
            ∙ ap (lines_cost mode []) none.changes ∙ lines_cost-none mode in
            omega (arith, none.cost, e);
      };
      stands = stands;
      buffers = rw empty
          (buffers_none (WasDue mode (script_after begun start) [] taken taken) held (lines_of mode profiled) held
          (rw (none.shown, none.frames, none.notes, none.changes, lines-none mode, appended-nil held) refl));
      free = inr empty;
      heard = rw none.notes refl;
      cost = omega arith;
    }

    first_read : (event : Event) (taken : List ℕ) → 1 ≤ new.version → AreNeeded start taken
        → ((rest : List ℕ) → capture_from start (taken ++ rest) ≡ then_events (event ∷ []) (capture_from new rest))
        → ReadsTo (script_after begun start) new profiled taken [] (event ∷ [])
    first_read event taken known needed says =
        read_first (script_after begun start) start new profiled taken event new.version (λ bytes. refl)
        (λ rest. ap (λ (c : Captured). raised begun c.version) (says rest)
        ∙ ap (raised begun) (version_from new rest known))
        needed says (λ rest. version_from new rest known)

    pub starts : (next : Result Event Stop)
        → IfOk next (λ event. Takes (reader_input start left) (reader_input new left_now) (event ∷ []))
        → OnOk next (1 ≤ new.version)
        → IfErr next (λ stop. StopsAt (reader_input start left) (reader_input new left_now) stop)
        → Awaits mode (script_after begun start) (streams left held heard steps) (streams left_now held heard steps)
        buffered since rig new next
    starts (Ok event) takes known stops =
        reached (Ok event) takes.taken takes.bytes takes.needed
        (says_first begun start new event takes.taken known takes.says)
        (first_read event takes.taken known takes.needed takes.says)
        (record { at = new; known = known; offset = sym offset; events = []; says = λ rest. refl })
    starts (Err stop) takes known stops =
        reached (Err stop) stops.taken stops.bytes stops.needed
        (stops_first begun start new stop stops.taken left_now stops.says) (inl refl) tt

-- A new reader has a whole capture to read.
pub after_start : (t : Replay) (p : Progress) → IsStart p → script_after t p ≡ script_of t
after_start t p start =
    let by : Bool → List ℕ → Script = λ is bytes. script_from t
    (cond is (then_events (replicate p.left p.repeated) (records p.version p.expected p.offset bytes))
    (capture bytes)) in
    ap by (ap (nat_lt 0) start.version)

-- ---- what the reader returns next

-- None of the bytes so far and of those of one more step is unnecessary.
all_needed : (script : List ℕ → Script) (t : Replay) (old : Progress) (xs ys : List ℕ) → PlaysOn script old t xs
    → AreAllNeeded (plays script) xs → AreNeeded old ys → AreAllNeeded (plays script) (xs ++ ys)
all_needed script t old xs ys goes was next part more is some =
    elim (split xs ys part more is) [
      | inl after ↦
          let short = next after.0 more after.2 some in
          let e : plays script part ≡ replayed t (ended short.version (Truncated short.byte) []) =
          ap (plays script) after.1 ∙ goes after.0 ∙ ap (replayed t) short.is in
          rw e tt
      | inr inside ↦ was part inside.0 inside.1 inside.2
    ]

-- what the bytes so far and those of one more step say
pub goes_past : (script : List ℕ → Script) (t : Replay) (old : Progress) (xs ys rest : List ℕ) (c : Captured)
    → PlaysOn script old t xs
    → capture_from old (ys ++ rest) ≡ c → plays script ((xs ++ ys) ++ rest) ≡ replayed t c
goes_past script t old xs ys rest c goes says =
    rw (append_assoc xs ys rest) (goes (ys ++ rest) ∙ ap (replayed t) says)

stops_next : (script : List ℕ → Script) (t : Replay) (old new : Progress) (xs ys : List ℕ) (left : Option (List ℕ))
    (stop : Stop) → PlaysOn script old t xs
    → SaysStop stop old new.version ys left → SaysNext script new left (Err stop) t (xs ++ ys)
stops_next script t old new xs ys left (ReadFault byte) goes says = goes ys ∙ ap (replayed t) says
stops_next script t old new xs ys left (Truncated byte) goes says = (goes ys ∙ ap (replayed t) says.0, says.1)
stops_next script t old new xs ys left End goes says = λ rest. goes_past script t old xs ys rest
    (ended new.version End rest) goes (says rest)
stops_next script t old new xs ys left (NotCapture byte) goes says =
    λ rest. goes_past script t old xs ys rest (ended new.version (NotCapture byte) rest) goes (says rest)
stops_next script t old new xs ys left (BadRecord byte word) goes says =
    λ rest. goes_past script t old xs ys rest (ended new.version (BadRecord byte word) rest) goes (says rest)
stops_next script t old new xs ys left (TooLong byte) goes says =
    λ rest. goes_past script t old xs ys rest (ended new.version (TooLong byte) rest) goes (says rest)

module _ (mode : Mode) (script : List ℕ → Script) (before now : Streams) (buffered : List Piece) (since : ℕ)
    (rig : RigState) (old new : Progress) (left : Option (List ℕ))
    (reached : Reaches mode script before now buffered rig (GoesOn mode script since old)) where
  abbrev read : Streams
  read = record now { left = left }

  costs_past : (ys rest : List ℕ)
      → replay_cost mode reached.replay ≤ replay_cost mode (plays script ((reached.taken ++ ys) ++ rest)).replay
  costs_past ys rest =
      let c = capture_from old (ys ++ rest) in
      rw (goes_past script reached.replay old reached.taken ys rest c reached.says.plays_on refl)
      (cost_grows mode reached.replay c.events c.ending c.rest)

  lies_on : (event : Event) (ys : List ℕ)
      → ((rest : List ℕ) → capture_from old (ys ++ rest) ≡ then_events (event ∷ []) (capture_from new rest))
      → LiesAfter since new (reached.after ++ ys)
  lies_on event ys says =
      let lies = reached.says.lies in
      record {
        at = lies.at;
        known = lies.known;
        offset = lies.offset;
        events = lies.events ++ event ∷ [];
        says = says_on (capture_from lies.at) old new lies.events (event ∷ []) reached.after ys lies.says says;
      }

  answered : (next : Result Event Stop) (taken : List ℕ) → now.left ≡ prepended taken left → AreNeeded old taken
      → SaysNext script new left next reached.replay (reached.taken ++ taken)
      → ReadsNext script new next reached.replay (reached.taken ++ taken) reached.events
      → LiesNext since new next (reached.after ++ taken) → AreFew mode (reached.after ++ taken)
      → Awaits mode script before read buffered since rig new next
  answered next taken bytes needed says read lies few = record {
    taken = reached.taken ++ taken;
    bytes = taken_on before.left now.left left reached.taken taken reached.bytes bytes;
    needed = all_needed script reached.replay old reached.taken taken reached.says.plays_on reached.needed needed;
    events = reached.events;
    replay = reached.replay;
    flushed = reached.flushed;
    after = reached.after ++ taken;
    taken_is = ap (λ bs. bs ++ taken) reached.taken_is ∙ append_assoc reached.flushed reached.after taken;
    says = record { says = says; read = read; costs = costs_past taken; lies = lies; few = few };
    stands = reached.stands;
    buffers = buffers_more (WasDue mode script reached.events reached.flushed reached.taken)
        (WasDue mode script reached.events reached.flushed (reached.taken ++ taken)) before.held
        (lines_of mode reached.replay) now.held buffered
        (due_more mode script reached.events [] reached.events reached.flushed reached.taken taken
        (sym (append-nil reached.events)))
        reached.buffers;
    free = reached.free;
    heard = reached.heard;
    cost = reached.cost;
  }

  -- the reader stopped
  pub stops : (stop : Stop) (at : StopsAt (reader_input old now.left) (reader_input new left) stop)
      → AreFew mode (reached.after ++ at.taken)
      → Awaits mode script before read buffered since rig new (Err stop)
  stops stop at few =
      answered (Err stop) at.taken at.bytes at.needed
      (stops_next script reached.replay old new reached.taken at.taken left stop reached.says.plays_on at.says)
      (inr (reads_further script reached.replay reached.taken at.taken reached.events
      (reads_all script old reached.replay reached.taken reached.events reached.says.read)))
      tt few

  module _ (started : 1 ≤ old.version) (near : old.offset < since + 4096) where
    pub few_more : (ys : List ℕ) → AreNeeded old ys → AreFew mode (reached.after ++ ys)
    few_more ys needed is =
        let lies = reached.says.lies in
        let all = length-append reached.after ys in
        let offset = lies.offset in
        let few = few_between lies.at old lies.events reached.after ys lies.known started lies.says
        (omega (arith, near, offset)) needed in
        omega (arith, all, few)

    pub reads : (next : Result Event Stop)
        → IfOk next (λ event. Takes (reader_input old now.left) (reader_input new left) (event ∷ []))
        → IfErr next (λ stop. StopsAt (reader_input old now.left) (reader_input new left) stop)
        → Awaits mode script before read buffered since rig new next
    reads (Ok event) takes stops_at =
        answered (Ok event) takes.taken takes.bytes takes.needed
        (λ rest. goes_past script reached.replay old reached.taken takes.taken rest
        (then_events (event ∷ []) (capture_from new rest)) reached.says.plays_on (takes.says rest))
        (read_on script old new reached.replay reached.taken takes.taken reached.events event reached.says.read
        takes.needed takes.says)
        (lies_on event takes.taken takes.says) (few_more takes.taken takes.needed)
    reads (Err stop) takes stops_at = stops stop stops_at (few_more stops_at.taken stops_at.needed)

-- ---- a pause

-- before the next read: the reader is less than 4,096 bytes after the last flush
pub record Paused (mode : Mode) (script : List ℕ → Script) (before now : Streams) (buffered : List Piece) (since : ℕ)
    (rig : RigState) (p : Progress) : Type 0 where
  pub reached : Reaches mode script before now buffered rig (GoesOn mode script since p)
  pub near : p.offset < since + 4096

-- All that was buffered was written.
flushed_now : (mode : Mode) (script : List ℕ → Script) (before now : Streams) (buffered : List Piece) (rig : RigState)
    (Says Said : Replay → List ℕ → List ℕ → List Event → Type 0) (held : Option (List ℕ))
    (was : Reaches mode script before now buffered rig Says)
    → IsWritten now.held held buffered → Said was.replay was.taken [] was.events
    → Reaches mode script before (record now { held = held }) [] rig Said
flushed_now mode script before now buffered rig Says Said held was written says =
    let all = lines_of mode was.replay in
    record {
      taken = was.taken;
      bytes = was.bytes;
      needed = was.needed;
      events = was.events;
      replay = was.replay;
      flushed = was.taken;
      after = [];
      taken_is = sym (append-nil was.taken);
      says = says;
      stands = was.stands;
      buffers = buffers_none (WasDue mode script was.events was.taken was.taken) before.held all held
          (buffers_written (WasDue mode script was.events was.flushed was.taken) before.held all now.held held buffered
          was.buffers written);
      free = inr refl;
      heard = was.heard;
      cost = was.cost;
    }

-- The reader has read nothing since the flush.
lies_here : (p : Progress) → 1 ≤ p.version → LiesAfter p.offset p []
lies_here p started = record { at = p; known = started; offset = refl; events = []; says = λ rest. refl }

pub pauses_on : (mode : Mode) (script : List ℕ → Script) (before now : Streams) (buffered new : List Piece)
    (since at : ℕ) (rig : RigState) (p : Progress) (held : Option (List ℕ))
    → Reaches mode script before now buffered rig (GoesOn mode script since p) → 1 ≤ p.version
    → Pauses p.offset since (holding now.held buffered) (holding held new) at
    → Paused mode script before (record now { held = held }) new at rig p
pauses_on mode script before now buffered new since at rig p held was started (inl on) = record {
  reached = rw (on.0, on.2, on.3) was;
  near = let e = on.0 in let lt = on.1 in omega (arith, e, lt);
}
pauses_on mode script before now buffered new since at rig p held was started (inr written) = record {
  reached = rw (written.0, written.1)
      (flushed_now mode script before now buffered rig (GoesOn mode script since p) (GoesOn mode script p.offset p) held
      was written.2 (record {
        plays_on = was.says.plays_on;
        read = was.says.read;
        lies = lies_here p started;
        few = λ is. omega arith;
      }));
  near = let e = written.0 in omega (arith, e);
}

-- the same if an event was read that is not played yet
pub event_pauses : (mode : Mode) (script : List ℕ → Script) (before now : Streams) (buffered new : List Piece)
    (since at : ℕ) (rig : RigState) (p : Progress) (event : Event) (held : Option (List ℕ))
    → Awaits mode script before now buffered since rig p (Ok event) → 1 ≤ p.version
    → Pauses p.offset since (holding now.held buffered) (holding held new) at
    → Awaits mode script before (record now { held = held }) new at rig p (Ok event)
event_pauses mode script before now buffered new since at rig p event held was started (inl on) =
    rw (on.0, on.2, on.3) was
event_pauses mode script before now buffered new since at rig p event held was started (inr written) =
    rw (written.0, written.1)
    (flushed_now mode script before now buffered rig (Answers mode script since p now.left (Ok event))
    (Answers mode script p.offset p now.left (Ok event)) held was written.2 (record {
      says = was.says.says;
      read = was.says.read;
      costs = was.says.costs;
      lies = lies_here p started;
      few = λ is. omega arith;
    }))

-- the same for an equal result of the reader
pub awaits_is : (mode : Mode) (script : List ℕ → Script) (before now : Streams) (buffered : List Piece) (since : ℕ)
    (rig : RigState) (p : Progress) (next other : Result Event Stop)
    → next ≡ other → Awaits mode script before now buffered since rig p next
    → Awaits mode script before now buffered since rig p other
awaits_is mode script before now buffered since rig p next other is awaits =
    let P : Result Event Stop → Type 0 = λ next. Awaits mode script before now buffered since rig p next in
    subst P is awaits
