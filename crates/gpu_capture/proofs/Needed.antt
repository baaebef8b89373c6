-- What the bytes taken say by any reading, and that none of them is one too many.
use Rattle.std.proofs.Common.{◌≡◌, ◌≤◌, inl, inr, ◌++◌, ℕ, List, [], ◌∷◌, Option, Result, Ok, Err, OnOk, IfOk, IfErr}
use Rattle.std.proofs.Common.{refl, ap, sym, ◌∙◌, append_assoc, append-nil}
use Rattle.gpu_capture.specs.Capture.{Captured, ended, then_events}
use Rattle.gpu_capture.specs.Reader.{AreNeeded as ReaderNeeds, SaysStop as ReaderSays, StopsAt, Takes, capture_from}
use Rattle.gpu_capture.specs.Reader.{reader_input}
use Rattle.gpu_capture.specs.Reading.{AreNeeded, AreNeededToEnd, Reading, Said, SaysStop}
use Rattle.gpu_capture.specs.declared.event.Event.{Event}
use Rattle.gpu_capture.specs.declared.event.Stop.{Stop}
use Rattle.gpu_capture.specs.declared.event.Stop.TheVariants.{End, NotCapture, Truncated, BadRecord}
use Rattle.gpu_capture.specs.declared.event.Stop.TheVariants.{TooLong as PastLimit, ReadFault}
use Rattle.gpu_capture.specs.declared.progress.Progress.{Progress}
use Rattle.gpu_capture.proofs.Steps.{split}
use Rattle.gpu_capture.proofs.Versions.{version_from}

-- the bytes taken say these events, and then what the format says of the rest from a reader's place on
abbrev pub ReadsOn : Reading → Progress → List ℕ → List Event → Type 0
ReadsOn read p taken events = (rest : List ℕ) → read (taken ++ rest) ≡ then_events events (capture_from p rest)

-- a capture that is cut short after these events
abbrev pub cut_at : ℕ → ℕ → List Event → Captured
cut_at version byte events = record { version = version; events = events; ending = Truncated byte; rest = [] }

-- no byte is none too many
pub none_needed : (read : Reading) → AreNeeded read [] []
none_needed read [] [] is some = absurd (some refl)
none_needed read [] (x ∷ xs) is some = absurd cc
none_needed read (x ∷ xs) more is some = absurd cc

-- the bytes so far and those of one more event are needed
pub needed_on : (read : Reading) (old : Progress) (events : List Event) (given : Event) (xs ys : List ℕ)
    → ReadsOn read old xs events
    → AreNeeded read events xs → ReaderNeeds old ys → AreNeeded read (events ++ given ∷ []) (xs ++ ys)
needed_on read old events given xs ys reached was next part more is some =
    elim (split xs ys part more is) [
      | inl after ↦
          let short = next after.0 more after.2 some in (
            given,
            [],
            record {
              version = short.version;
              byte = short.byte;
              fewer = events;
              are = refl;
              is = ap read after.1 ∙ reached after.0 ∙ ap (then_events events) short.is
                  ∙ ap (cut_at short.version short.byte) (append-nil events);
            },
          )
      | inr inside ↦
          let short = was part inside.0 inside.1 inside.2 in (
            short.0,
            short.1 ++ given ∷ [],
            record {
              version = short.2.version;
              byte = short.2.byte;
              fewer = short.2.fewer;
              are = ap (λ (all : List Event). all ++ given ∷ []) short.2.are
                  ∙ append_assoc short.2.fewer (short.0 ∷ short.1) (given ∷ []);
              is = short.2.is;
            },
          )
    ]

-- the first bytes of a reader
pub needed_first : (start : Progress) (given : Event) (ys : List ℕ) → ReaderNeeds start ys
    → AreNeeded (capture_from start) (given ∷ []) ys
needed_first start given ys next part more is some =
    let short = next part more is some in (
      given,
      [],
      record { version = short.version; byte = short.byte; fewer = []; are = refl; is = short.is },
    )

pub needed_end_first : (start : Progress) (ys : List ℕ) → ReaderNeeds start ys
    → AreNeededToEnd (capture_from start) [] ys
needed_end_first start ys next part more is some =
    let short = next part more is some in
    ([], record { version = short.version; byte = short.byte; fewer = []; are = refl; is = short.is })

-- the bytes so far and those of a stop are needed
pub needed_end : (read : Reading) (old : Progress) (events : List Event) (xs ys : List ℕ)
    → ReadsOn read old xs events
    → AreNeeded read events xs → ReaderNeeds old ys → AreNeededToEnd read events (xs ++ ys)
needed_end read old events xs ys reached was next part more is some =
    elim (split xs ys part more is) [
      | inl after ↦
          let short = next after.0 more after.2 some in (
            [],
            record {
              version = short.version;
              byte = short.byte;
              fewer = events;
              are = sym (append-nil events);
              is = ap read after.1 ∙ reached after.0 ∙ ap (then_events events) short.is
                  ∙ ap (cut_at short.version short.byte) (append-nil events);
            },
          )
      | inr inside ↦
          let short = was part inside.0 inside.1 inside.2 in (short.0 ∷ short.1, short.2)
    ]

pub then_both : (events others : List Event) (c : Captured) → then_events events (then_events others c)
    ≡ then_events (events ++ others) c
then_both events others c =
    ap (λ (all : List Event). record { version = c.version; events = all; ending = c.ending; rest = c.rest })
    (sym (append_assoc events others c.events))

-- the bytes so far, and those of more events
pub says_on : (read : Reading) (old new : Progress) (events others : List Event) (xs ys : List ℕ)
    → ReadsOn read old xs events
    → ((rest : List ℕ) → capture_from old (ys ++ rest) ≡ then_events others (capture_from new rest))
    → ReadsOn read new (xs ++ ys) (events ++ others)
says_on read old new events others xs ys reached says = λ rest.
    ap read (append_assoc xs ys rest) ∙ reached (ys ++ rest) ∙ ap (then_events events) (says rest)
    ∙ then_both events others (capture_from new rest)

-- what a reading of the bytes so far says, where the reader stopped
stop_whole : (read : Reading) (old : Progress) (version : ℕ) (events : List Event) (xs ys rest : List ℕ) (stop : Stop)
    → ReadsOn read old xs events
    → ((more : List ℕ) → capture_from old (ys ++ more) ≡ ended version stop more)
    → read ((xs ++ ys) ++ rest) ≡ record { version = version; events = events; ending = stop; rest = rest }
stop_whole read old version events xs ys rest stop reached says =
    ap read (append_assoc xs ys rest) ∙ reached (ys ++ rest) ∙ ap (then_events events) (says rest)
    ∙ ap (λ (all : List Event). record { version = version; events = all; ending = stop; rest = rest })
    (append-nil events)

stop_part : (read : Reading) (old : Progress) (version : ℕ) (events : List Event) (xs ys : List ℕ) (byte : ℕ)
    → ReadsOn read old xs events → capture_from old ys ≡ ended version (Truncated byte) []
    → read (xs ++ ys) ≡ record { version = version; events = events; ending = Truncated byte; rest = [] }
stop_part read old version events xs ys byte reached says =
    reached ys ∙ ap (then_events events) says ∙ ap (cut_at version byte) (append-nil events)

-- the same for each kind of stop
pub stop_says : (read : Reading) (old : Progress) (said : Said) (xs ys : List ℕ) (left : Option (List ℕ)) (stop : Stop)
    → ReadsOn read old xs said.events
    → ReaderSays stop old said.version ys left → SaysStop read (xs ++ ys) said stop left
stop_says read old said xs ys left End reached says = λ rest.
    stop_whole read old said.version said.events xs ys rest End reached says
stop_says read old said xs ys left (NotCapture byte) reached says = λ rest.
    stop_whole read old said.version said.events xs ys rest (NotCapture byte) reached says
stop_says read old said xs ys left (BadRecord byte word) reached says = λ rest.
    stop_whole read old said.version said.events xs ys rest (BadRecord byte word) reached says
stop_says read old said xs ys left (PastLimit byte) reached says = λ rest.
    stop_whole read old said.version said.events xs ys rest (PastLimit byte) reached says
stop_says read old said xs ys left (Truncated byte) reached says =
    (stop_part read old said.version said.events xs ys byte reached says.0, says.1)
stop_says read old said xs ys left (ReadFault byte) reached says =
    stop_part read old said.version said.events xs ys byte reached says

-- the first answer of a reader
pub stop_says_first : (start : Progress) (version : ℕ) (ys : List ℕ) (left : Option (List ℕ)) (stop : Stop)
    → ReaderSays stop start version ys left
    → SaysStop (capture_from start) ys (record { version = version; events = [] }) stop left
stop_says_first start version ys left End says = says
stop_says_first start version ys left (NotCapture byte) says = says
stop_says_first start version ys left (BadRecord byte word) says = says
stop_says_first start version ys left (PastLimit byte) says = says
stop_says_first start version ys left (Truncated byte) says = says
stop_says_first start version ys left (ReadFault byte) says = says

-- ---- none too many to see how it goes on

-- where none is for the last of the events
pub needed_to_end : (read : Reading) (events : List Event) (taken : List ℕ) → AreNeeded read events taken
    → AreNeededToEnd read events taken
needed_to_end read events taken needed part more is some =
    let short = needed part more is some in (short.0 ∷ short.1, short.2)

-- a list that ends with one more
but_last : (events fewer missing : List Event) (given e : Event) → events ++ given ∷ [] ≡ fewer ++ e ∷ missing
    → (rest : List Event) × (events ≡ fewer ++ rest)
but_last events [] missing given e is = (events, refl)
but_last [] (f ∷ []) missing given e is = absurd cc
but_last [] (f ∷ g ∷ fewer) missing given e is = absurd cc
but_last (x ∷ events) (f ∷ fewer) missing given e is =
    let same : x ≡ f = cc in
    let rest : events ++ given ∷ [] ≡ fewer ++ e ∷ missing = cc in
    let later = but_last events fewer missing given e rest in
    let is_rest = later.1 in
    (later.0, cc)

-- where none is for one event more
pub needed_before : (read : Reading) (events : List Event) (given : Event) (taken : List ℕ)
    → AreNeeded read (events ++ given ∷ []) taken → AreNeededToEnd read events taken
needed_before read events given taken needed part more is some =
    let short = needed part more is some in
    let rest = but_last events short.2.fewer short.1 given short.0 short.2.are in (
      rest.0,
      record {
        version = short.2.version;
        byte = short.2.byte;
        fewer = short.2.fewer;
        are = rest.1;
        is = short.2.is;
      },
    )

-- ---- versions

pub takes_version : (old new : Progress) (before now : Option (List ℕ)) (events : List Event)
    → Takes (reader_input old before) (reader_input new now) events
    → 1 ≤ old.version → 1 ≤ new.version → old.version ≡ new.version
takes_version old new before now events takes was is =
    sym (version_from old (takes.taken ++ []) was) ∙ ap (λ (c : Captured). c.version) (takes.says [])
    ∙ version_from new [] is

pub stops_version : (old : Progress) (version : ℕ) (stop : Stop) (taken : List ℕ) (now : Option (List ℕ))
    → ReaderSays stop old version taken now
    → 1 ≤ old.version → old.version ≡ version
stops_version old version End taken now says was = sym (version_from old (taken ++ []) was)
    ∙ ap (λ (c : Captured). c.version) (says [])
stops_version old version (NotCapture byte) taken now says was = sym (version_from old (taken ++ []) was)
    ∙ ap (λ (c : Captured). c.version) (says [])
stops_version old version (BadRecord byte word) taken now says was = sym (version_from old (taken ++ []) was)
    ∙ ap (λ (c : Captured). c.version) (says [])
stops_version old version (PastLimit byte) taken now says was = sym (version_from old (taken ++ []) was)
    ∙ ap (λ (c : Captured). c.version) (says [])
stops_version old version (Truncated byte) taken now says was = sym (version_from old taken was)
    ∙ ap (λ (c : Captured). c.version) says.0
stops_version old version (ReadFault byte) taken now says was = sym (version_from old taken was)
    ∙ ap (λ (c : Captured). c.version) says

-- ---- one call

-- what one call of `advance` ensures, from one reader state to the next
abbrev pub Answers : (old new : Progress) (before now : Option (List ℕ)) → Result Event Stop → Type 0
Answers old new before now (Ok event) =
    Takes (reader_input old before) (reader_input new now) (event ∷ []) × (1 ≤ new.version)
Answers old new before now (Err stop) = StopsAt (reader_input old before) (reader_input new now) stop

pub answers : (old new : Progress) (before now : Option (List ℕ)) (next : Result Event Stop)
    → IfOk next (λ event. Takes (reader_input old before) (reader_input new now) (event ∷ []))
    → OnOk next (1 ≤ new.version) → IfErr next (λ stop. StopsAt (reader_input old before) (reader_input new now) stop)
    → Answers old new before now next
answers old new before now (Ok event) takes known stops = (takes, known)
answers old new before now (Err stop) takes known stops = stops
