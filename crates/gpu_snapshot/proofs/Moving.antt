-- The ending of playing if bytes that lead to it were read before.
use Rattle.std.proofs.Common.{◌≡◌, ◌≤◌, ◌++◌, List, [], ◌∷◌, ℕ, Option, refl, ap, sym, ◌∙◌, arith, inl, inr}
use Rattle.std.proofs.Common.{append_assoc}
use Rattle.dev_io.specs.Device.{prepended}
use Rattle.dev_io.proofs.Parts.{taken_on}
use Rattle.gpu_capture.specs.Capture.{Captured, ended}
use Rattle.gpu_capture.specs.Reading.{AreNeeded, IsCutShort}
use Rattle.gpu_capture.specs.declared.event.Event.{Event}
use Rattle.gpu_capture.specs.declared.event.Stop.TheVariants.{End, NotCapture, BadRecord, TooLong, Truncated, ReadFault}
use Rattle.gpu_capture.proofs.Steps.{split}
use Rattle.gpu_taps.specs.Tally.{Reading}
use Rattle.event_play.specs.Out.{out_bytes}
use Rattle.event_play.specs.Playing.{AreAllNeeded, IsShort, IsReadTo, IsReadPast, DueAtEvent, DueAtEnd}
use Rattle.event_play.specs.Playing.{DueWhileBuffered, LacksBytes, SaysEnding}
use Rattle.event_play.specs.Playing.{EndsPlay, plays, reads}
use Rattle.event_play.specs.Replay.{Replay, Played, Script, played_script}
use Rattle.event_play.specs.RigState.{RigState}
use Rattle.event_play.specs.Streams.{Streams, streams}
use Rattle.event_play.specs.declared.ending.Ending.{Ending}
use Rattle.event_play.specs.declared.ending.Ending.TheVariants.{Done, Stopped, Faulted, NoPicture, WriteFailed}
use Rattle.event_play.specs.declared.ending.Mode.{Mode}
use Rattle.event_play.specs.PlayInput.{among, at_end, after_replay, play_input, replay_pair}

abbrev captured_of : Script → Captured
captured_of script = script.captured

-- these bytes give no event, and are cut short
pub record SaysNothing (script : List ℕ → Script) (bytes : List ℕ) : Type 0 where
  pub version : ℕ
  pub byte : ℕ
  pub is : reads script bytes ≡ ended version (Truncated byte) []

-- a proper part of these bytes gives no event, and is cut short
abbrev pub StopsShort : (List ℕ → Script) → List ℕ → Type 0
StopsShort script front =
    (part more : List ℕ) → front ≡ part ++ more → (more ≡ [] → ⊥) → SaysNothing script part

-- an ending of playing, in which these bytes were read first
pub record EndsAfter (mode : Mode) (script : List ℕ → Script) (front : List ℕ) (before now : Streams)
    (rig : RigState) (ending : Ending) : Type 0 where
  pub plays : EndsPlay mode script before (at_end now rig) ending
  pub more : List ℕ
  pub taken_is : plays.taken ≡ front ++ more

module _ (mode : Mode) (script inner : List ℕ → Script) (front : List ℕ)
    (leads : (bytes : List ℕ) → script (front ++ bytes) ≡ inner bytes)
    (left mid held : Option (List ℕ)) (heard : List Reading) (steps steps_mid : ℕ) (now : Streams) where
  abbrev old : Streams
  old = streams mid held heard steps_mid

  abbrev new : Streams
  new = streams left held heard steps

  same : (taken rest : List ℕ) → script ((front ++ taken) ++ rest) ≡ inner (taken ++ rest)
  same taken rest = ap script (append_assoc front taken rest) ∙ leads (taken ++ rest)

  move : (taken rest : List ℕ) → plays script ((front ++ taken) ++ rest) ≡ plays inner (taken ++ rest)
  move taken rest = ap played_script (same taken rest)

  -- a proper part of the first bytes is short of every event
  read_needed : (events : List Event) (event : Event) (taken : List ℕ) → StopsShort script front
      → AreNeeded (reads inner) (events ++ event ∷ []) taken
      → AreNeeded (reads script) (events ++ event ∷ []) (front ++ taken)
  read_needed events event taken first next part more is some =
      elim (split front taken part more is) [
        | inl after ↦
            let short = next after.0 more after.2 some in (
              short.0,
              short.1,
              record {
                version = short.2.version;
                byte = short.2.byte;
                fewer = short.2.fewer;
                are = short.2.are;
                is = ap (reads script) after.1 ∙ ap captured_of (leads after.0) ∙ short.2.is;
              },
            )
        | inr inside ↦ none_of events event part (first part inside.0 inside.1 inside.2)
      ]
    where
      none_of : (events : List Event) (event : Event) (part : List ℕ) → SaysNothing script part
          → (event_more : Event) × (missing : List Event)
          × IsCutShort (reads script) (events ++ event ∷ []) part (event_more ∷ missing)
      none_of [] event part none = (
        event,
        [],
        record { version = none.version; byte = none.byte; fewer = []; are = refl; is = none.is },
      )
      none_of (e ∷ es) event part none = (
        e,
        es ++ event ∷ [],
        record { version = none.version; byte = none.byte; fewer = []; are = refl; is = none.is },
      )

  read_moved : (t : Replay) (taken : List ℕ) (events : List Event) (event : Event) → StopsShort script front
      → IsReadTo inner t taken events event → IsReadTo script t (front ++ taken) events event
  read_moved t taken events event first was = record {
    first = was.first;
    version = was.version;
    begins = λ rest. ap (λ (s : Script). s.first) (same taken rest) ∙ was.begins rest;
    says = λ rest. let come = was.says rest in (come.0, ap captured_of (same taken rest) ∙ come.1, come.2);
    needed = read_needed events event taken first was.needed;
    follows = was.follows;
  }

  event_moved : (t start last : Replay) (taken due : List ℕ) → StopsShort script front
      → DueAtEvent (play_input mode inner taken) (replay_pair t last) (after_replay start due)
      → DueAtEvent (play_input mode script (front ++ taken)) (replay_pair t last) (after_replay start due)
  event_moved t start last taken due first was = record {
    before = was.before;
    event = was.event;
    is_read = read_moved t taken was.before was.event first was.is_read;
    inside = was.inside;
    lines = was.lines;
  }

  past_moved : (t last : Replay) (taken : List ℕ) (before : List Event) (event : Event) (after : List Event)
      → StopsShort script front → IsReadPast inner (replay_pair t last) taken (among before event after)
      → IsReadPast script (replay_pair t last) (front ++ taken) (among before event after)
  past_moved t last taken before event after first was = record {
    first = was.first;
    version = was.version;
    begins = λ rest. ap (λ (s : Script). s.first) (same taken rest) ∙ was.begins rest;
    says = λ rest. let come = was.says rest in (come.0, ap captured_of (same taken rest) ∙ come.1, come.2);
    follows = was.follows;
    leads = was.leads;
    few = record {
      needed = front ++ was.few.needed;
      later = was.few.later;
      are = ap (λ bytes. front ++ bytes) was.few.are ∙ sym (append_assoc front was.few.needed was.few.later);
      are_needed = read_needed before event was.few.needed first was.few.are_needed;
      few = was.few.few;
    };
  }

  buffered_moved : (t start last : Replay) (taken due : List ℕ) → StopsShort script front
      → DueWhileBuffered (play_input mode inner taken) (replay_pair t last) (after_replay start due)
      → DueWhileBuffered (play_input mode script (front ++ taken)) (replay_pair t last) (after_replay start due)
  buffered_moved t start last taken due first was = record {
    buffers = was.buffers;
    before = was.before;
    event = was.event;
    after = was.after;
    is_read = past_moved t last taken was.before was.event was.after first was.is_read;
    next = was.next;
    next_is = was.next_is;
    start_is = was.start_is;
    lines = was.lines;
  }

  end_moved : (t start last : Replay) (taken due : List ℕ)
      → DueAtEnd heard (play_input mode inner taken) (replay_pair t last) (after_replay start due)
      → DueAtEnd heard (play_input mode script (front ++ taken)) (replay_pair t last) (after_replay start due)
  end_moved t start last taken due was = record {
    comes = λ rest. move taken rest ∙ was.comes rest;
    ends = was.ends;
    start_is = was.start_is;
    last_is = was.last_is;
    bytes = was.bytes;
  }

  lacks_moved : (t last : Replay) (taken : List ℕ) (number : ℕ) → StopsShort script front
      → LacksBytes (play_input mode inner taken) (replay_pair t last) number old now
      → LacksBytes (play_input mode script (front ++ taken)) (replay_pair t last) number new now
  lacks_moved t last taken number first was = record {
    number_is = was.number_is;
    start = was.start;
    due = was.due;
    origin = elim was.origin [
      | inl event ↦ inl (event_moved t was.start last taken was.due first event)
      | inr later ↦ inr (elim later [
        | inl lines ↦ inl (buffered_moved t was.start last taken was.due first lines)
        | inr end ↦ inr (end_moved t was.start last taken was.due end)
      ])
    ];
    held = was.held;
    prefix = λ rest. let p = was.prefix rest in (p.0, ap (out_bytes mode heard) (move taken rest) ∙ p.1);
  }

  says_moved : (t last : Replay) (taken : List ℕ) (ending : Ending) → StopsShort script front
      → SaysEnding (play_input mode inner taken) (replay_pair t last) old now ending
      → SaysEnding (play_input mode script (front ++ taken)) (replay_pair t last) new now ending
  says_moved t last taken Done first says = (λ rest. move taken rest ∙ says.0 rest, says.1, says.2)
  says_moved t last taken (NoPicture number) first says = (λ rest. move taken rest ∙ says.0 rest, says.1, says.2)
  says_moved t last taken (Stopped number (ReadFault byte)) first says =
      (ap played_script (leads taken) ∙ says.0, says.1)
  says_moved t last taken (Stopped number (Truncated byte)) first says =
      (ap played_script (leads taken) ∙ says.0, says.1, says.2)
  says_moved t last taken (Stopped number End) first says = (λ rest. move taken rest ∙ says.0 rest, says.1)
  says_moved t last taken (Stopped number (NotCapture byte)) first says =
      (λ rest. move taken rest ∙ says.0 rest, says.1)
  says_moved t last taken (Stopped number (BadRecord byte word)) first says =
      (λ rest. move taken rest ∙ says.0 rest, says.1)
  says_moved t last taken (Stopped number (TooLong byte)) first says = (λ rest. move taken rest ∙ says.0 rest, says.1)
  says_moved t last taken (Faulted number fault) first says = (
    λ rest. let s = says.0 rest in
        (ap (λ (r : Played). r.replay) (move taken rest) ∙ s.0, ap (λ (r : Played). r.ending) (move taken rest) ∙ s.1),
    says.1,
  )
  says_moved t last taken (WriteFailed number) first says = lacks_moved t last taken number first says

  stops : (part : List ℕ) → SaysNothing script part → IsShort (plays script part).ending
  stops part none = rw none.is tt

  needed_moved : (taken : List ℕ) → StopsShort script front → AreAllNeeded (plays inner) taken
      → AreAllNeeded (plays script) (front ++ taken)
  needed_moved taken first next part more is some =
      elim (split front taken part more is) [
        | inl after ↦
            let e : plays script part ≡ plays inner after.0 =
            ap (plays script) after.1 ∙ ap played_script (leads after.0) in
            rw e (next after.0 more after.2 some)
        | inr inside ↦ let none = first part inside.0 inside.1 inside.2 in stops part none
      ]

  abbrev moved : (rig : RigState) (ending : Ending) → left ≡ prepended front mid → StopsShort script front
      → steps_mid ≤ steps → EndsPlay mode inner old (at_end now rig) ending
      → EndsPlay mode script new (at_end now rig) ending
  moved rig ending bytes needed few ends = record {
    taken = front ++ ends.taken;
    bytes = taken_on left mid now.left front ends.taken bytes ends.bytes;
    needed = needed_moved ends.taken needed ends.needed;
    replay = ends.replay;
    last = ends.last;
    says = says_moved ends.replay ends.last ends.taken ending needed ends.says;
    is_last = ends.is_last;
    stands = ends.stands;
    heard = ends.heard;
    cost = λ rest. rw (move ends.taken rest) (let c = ends.cost rest in omega (arith, c, few));
    box_cost = λ rest. rw (move ends.taken rest) (let c = ends.box_cost rest in omega (arith, c, few));
  }

  pub ends_moved : (rig : RigState) (ending : Ending) → left ≡ prepended front mid → StopsShort script front
      → steps_mid ≤ steps → EndsPlay mode inner old (at_end now rig) ending
      → EndsAfter mode script front new now rig ending
  ends_moved rig ending bytes needed few ends =
      record { plays = moved rig ending bytes needed few ends; more = ends.taken; taken_is = refl }
