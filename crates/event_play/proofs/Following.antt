-- What the bytes read say in events, that none of them is unnecessary, and the replay to which the events lead.
use Rattle.std.proofs.Common.{◌≡◌, ◌++◌, ℕ, List, [], ◌∷◌, Option, Ok, refl, ap, sym, ◌∙◌, append_assoc, append-nil}
use Rattle.std.proofs.Common.{add-zero}
use Rattle.gpu_capture.specs.Capture.{Captured, then_events}
use Rattle.gpu_capture.specs.Reader.{AreNeeded as ReaderNeeds, capture_from, reader_input}
use Rattle.gpu_capture.specs.Reading.{AreNeeded, SaysFirst}
use Rattle.gpu_capture.specs.Words.{TakesWords, word_events}
use Rattle.gpu_capture.specs.declared.event.Event.{Event}
use Rattle.gpu_capture.specs.declared.progress.Progress.{Progress}
use Rattle.gpu_capture.proofs.Needed.{ReadsOn, needed_on, says_on}
use Rattle.event_loop.proofs.Blocks.{needed_words}
use Rattle.event_play.specs.Playing.{Follows, IsReadTo, LeadsTo, reads}
use Rattle.event_play.specs.Replay.{Replay, Script, after_event, go_on, part_fed, played_events, next_number}
use Rattle.event_play.specs.Step.{event_words}
use Rattle.event_play.specs.declared.ending.Ending.TheVariants.{Faulted}

-- ---- replays

pub follows_none : (first : Replay) → Follows first [] first
follows_none first = record { replays = λ more stop rest. refl }

-- one more event
pub follows_on : (first t next : Replay) (events : List Event) (event : Event) → Follows first events t
    → after_event t event ≡ Ok next → Follows first (events ++ event ∷ []) next
follows_on first t next events event was is = record {
  replays = λ more stop rest.
      ap (λ (es : List Event). played_events first es stop rest) (append_assoc events (event ∷ []) more)
      ∙ was.replays (event ∷ more) stop rest
      ∙ ap (λ r. go_on r (λ next. played_events next more stop rest)
      (λ fault. record { replay = t; ending = Faulted (next_number t.played) fault; rest = rest })) is;
}

-- more events, which continue from the replay
pub follows_all : (first t next : Replay) (events others : List Event) → Follows first events t
    → Follows t others next → Follows first (events ++ others) next
follows_all first t next events others was after = record {
  replays = λ more stop rest.
      ap (λ (es : List Event). played_events first es stop rest) (append_assoc events others more)
      ∙ was.replays (others ++ more) stop rest ∙ after.replays more stop rest;
}

-- ---- the bytes read

-- The bytes read say these events, and then what the format says from the reader's offset on. None of them is
-- unnecessary for the last event. The events `events` lead to the replay; those of `after` were read and not played.
pub record ReadsTo (script : List ℕ → Script) (p : Progress) (t : Replay) (taken : List ℕ) (events after : List Event)
    : Type 0 where
  pub first : Replay
  pub version : ℕ
  pub begins : (rest : List ℕ) → (script (taken ++ rest)).first ≡ first
  pub says : (rest : List ℕ) → reads script (taken ++ rest) ≡ then_events (events ++ after) (capture_from p rest)
  pub version_is : (rest : List ℕ) → (capture_from p rest).version ≡ version
  pub needed : AreNeeded (reads script) (events ++ after) taken
  pub follows : Follows first events t

-- an event that was read and not played yet
pub read_to : (script : List ℕ → Script) (p : Progress) (t : Replay) (taken : List ℕ) (events : List Event)
    (event : Event) → ReadsTo script p t taken events (event ∷ []) → IsReadTo script t taken events event
read_to script p t taken events event read = record {
  first = read.first;
  version = read.version;
  begins = read.begins;
  says = λ rest. (capture_from p rest, read.says rest, read.version_is rest);
  needed = read.needed;
  follows = read.follows;
}

-- The bytes read say these events first, and these lead to the replay.
pub record ReadsAll (script : List ℕ → Script) (t : Replay) (taken : List ℕ) (events : List Event) : Type 0 where
  pub first : Replay
  pub version : ℕ
  pub begins : (rest : List ℕ) → (script (taken ++ rest)).first ≡ first
  pub says : SaysFirst (reads script) version taken events
  pub follows : Follows first events t

pub reads_all : (script : List ℕ → Script) (p : Progress) (t : Replay) (taken : List ℕ) (events : List Event)
    → ReadsTo script p t taken events [] → ReadsAll script t taken events
reads_all script p t taken events read = record {
  first = read.first;
  version = read.version;
  begins = read.begins;
  says = λ rest. (
    capture_from p rest,
    read.says rest ∙ ap (λ (all : List Event). then_events all (capture_from p rest)) (append-nil events),
    read.version_is rest,
  );
  follows = read.follows;
}

-- the same after more bytes are read
pub reads_further : (script : List ℕ → Script) (t : Replay) (taken further : List ℕ) (events : List Event)
    → ReadsAll script t taken events → ReadsAll script t (taken ++ further) events
reads_further script t taken further events all = record {
  first = all.first;
  version = all.version;
  begins = λ rest. ap (λ bytes. (script bytes).first) (append_assoc taken further rest) ∙ all.begins (further ++ rest);
  says = λ rest.
      let said = all.says (further ++ rest) in
      (said.0, ap (reads script) (append_assoc taken further rest) ∙ said.1, said.2);
  follows = all.follows;
}

-- ---- the last replay

-- all events were played
pub leads_all : (first t : Replay) (events : List Event) → Follows first events t → LeadsTo first events t
leads_all first t events follows = record {
  played = events;
  unplayed = [];
  are = sym (append-nil events);
  replay = t;
  follows = follows;
  up_to = refl;
}

-- of the last event, the first words were fed
pub leads_part : (first t : Replay) (events : List Event) (event : Event) (words more : List ℕ)
    → Follows first events t → event_words t.state event ≡ words ++ more
    → LeadsTo first (events ++ event ∷ []) (part_fed t words)
leads_part first t events event words more follows are = record {
  played = events;
  unplayed = event ∷ [];
  are = refl;
  replay = t;
  follows = follows;
  up_to = (words, more, are, refl);
}

-- of the last event, no word was fed
pub leads_before : (first t : Replay) (events : List Event) (event : Event) → Follows first events t
    → LeadsTo first (events ++ event ∷ []) t
leads_before first t events event follows = record {
  played = events;
  unplayed = event ∷ [];
  are = refl;
  replay = t;
  follows = follows;
  up_to = (
    [],
    event_words t.state event,
    refl,
    sym (rw (append-nil t.notes, append-nil t.changes, add-zero t.cost, add-zero t.box_cost) refl),
  );
}

-- the event was played
pub read_played : (script : List ℕ → Script) (p : Progress) (t next : Replay) (taken : List ℕ) (events : List Event)
    (event : Event) → ReadsTo script p t taken events (event ∷ []) → after_event t event ≡ Ok next
    → ReadsTo script p next taken (events ++ event ∷ []) []
read_played script p t next taken events event read is = record {
  first = read.first;
  version = read.version;
  begins = read.begins;
  says = rw (append-nil (events ++ event ∷ [])) read.says;
  version_is = read.version_is;
  needed = rw (append-nil (events ++ event ∷ [])) read.needed;
  follows = follows_on read.first t next events event read.follows is;
}

module _ (script : List ℕ → Script) (old new : Progress) (t : Replay) (xs ys : List ℕ) (events others : List Event)
    (read : ReadsTo script old t xs events [])
    (says : (rest : List ℕ) → capture_from old (ys ++ rest) ≡ then_events others (capture_from new rest)) where
  says_so_far : ReadsOn (reads script) old xs events
  says_so_far = rw (append-nil events) at read.says

  needed_so_far : AreNeeded (reads script) events xs
  needed_so_far = rw (append-nil events) at read.needed

  version_both : (rest : List ℕ) → (capture_from new rest).version ≡ read.version
  version_both rest = sym (ap (λ (c : Captured). c.version) (says rest)) ∙ read.version_is (ys ++ rest)

  begins_both : (rest : List ℕ) → (script ((xs ++ ys) ++ rest)).first ≡ read.first
  begins_both rest = ap (λ bytes. (script bytes).first) (append_assoc xs ys rest) ∙ read.begins (ys ++ rest)

-- one more event was read
pub read_on : (script : List ℕ → Script) (old new : Progress) (t : Replay) (xs ys : List ℕ) (events : List Event)
    (event : Event)
    → ReadsTo script old t xs events [] → ReaderNeeds old ys
    → ((rest : List ℕ) → capture_from old (ys ++ rest) ≡ then_events (event ∷ []) (capture_from new rest))
    → ReadsTo script new t (xs ++ ys) events (event ∷ [])
read_on script old new t xs ys events event read needed says =
    let said = says_so_far script old new t xs ys events (event ∷ []) read says in
    record {
      first = read.first;
      version = read.version;
      begins = begins_both script old new t xs ys events (event ∷ []) read says;
      says = says_on (reads script) old new events (event ∷ []) xs ys said says;
      version_is = version_both script old new t xs ys events (event ∷ []) read says;
      needed = needed_on (reads script) old events event xs ys said
          (needed_so_far script old new t xs ys events (event ∷ []) read says) needed;
      follows = read.follows;
    }

-- words were read and played, one event per word
pub read_words : (script : List ℕ → Script) (old new : Progress) (before now : Option (List ℕ)) (t next : Replay)
    (xs words : List ℕ) (events : List Event)
    → ReadsTo script old t xs events [] → (takes : TakesWords (reader_input old before) (reader_input new now) words)
    → Follows t (word_events words) next
    → ReadsTo script new next (xs ++ takes.taken) (events ++ word_events words) []
read_words script old new before now t next xs words events read takes after =
    let others = word_events words in
    let ys = takes.taken in
    let said = says_so_far script old new t xs ys events others read takes.says in
    record {
      first = read.first;
      version = read.version;
      begins = begins_both script old new t xs ys events others read takes.says;
      says = rw (append-nil (events ++ others)) (says_on (reads script) old new events others xs ys said takes.says);
      version_is = version_both script old new t xs ys events others read takes.says;
      needed = rw (append-nil (events ++ others))
          (needed_words (reads script) old new before now events xs words said
          (needed_so_far script old new t xs ys events others read takes.says) takes);
      follows = follows_all read.first t next events others read.follows after;
    }

-- the first event that a reader returns
pub read_first : (script : List ℕ → Script) (start new : Progress) (first : Replay) (taken : List ℕ) (event : Event)
    (version : ℕ)
    → ((bytes : List ℕ) → reads script bytes ≡ capture_from start bytes)
    → ((rest : List ℕ) → (script (taken ++ rest)).first ≡ first)
    → ReaderNeeds start taken
    → ((rest : List ℕ) → capture_from start (taken ++ rest) ≡ then_events (event ∷ []) (capture_from new rest))
    → ((rest : List ℕ) → (capture_from new rest).version ≡ version)
    → ReadsTo script new first taken [] (event ∷ [])
read_first script start new first taken event version same begins needed says version_is = record {
  first = first;
  version = version;
  begins = begins;
  says = λ rest. same (taken ++ rest) ∙ says rest;
  version_is = version_is;
  needed = λ part more is some.
      let short = needed part more is some in (
        event,
        [],
        record { version = short.version; byte = short.byte; fewer = []; are = refl; is = same part ∙ short.is },
      );
  follows = follows_none first;
}
