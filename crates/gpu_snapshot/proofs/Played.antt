-- Opening and then playing a capture or a snapshot.
use Rattle.std.proofs.Common.{◌≡◌, ◌≤◌, ◌+◌, ◌-◌, ◌*◌, ◌==◌, ◌++◌, List, [], ℕ, Option}
use Rattle.std.proofs.Common.{Result, Ok, Err, length, take, drop, nat_lt, refl, ap, sym, subst, ◌∙◌, arith, inl, inr}
use Rattle.std.proofs.Common.{append_assoc, append-nil}
use Rattle.std.proofs.lemmas.Bool.{cases_Bool}
use Rattle.dev_io.specs.Device.{appended}
use Rattle.dev_io.proofs.Appended.{appended-nil}
use Rattle.gpu_capture.specs.Capture.{Captured, capture, records}
use Rattle.gpu_capture.specs.Reader.{tag_expected, capture_from}
use Rattle.gpu_capture.specs.State.{ReaderState}
use Rattle.gpu_capture.specs.declared.progress.Progress.{Progress}
use Rattle.gpu_capture.specs.declared.event.Stop.{Stop}
use Rattle.gpu_capture.specs.declared.event.Stop.TheVariants.{End, NotCapture, BadRecord, TooLong, Truncated, ReadFault}
use Rattle.gpu_capture.specs.declared.record.Expected.TheVariants.{Tag}
use Rattle.gpu_capture.proofs.Steps.{at_word}
use Rattle.gpu_capture.proofs.Versions.{version_from}
use Rattle.gpu_taps.specs.Tally.{Reading}
use Rattle.event_play.specs.Out.{lines_of}
use Rattle.event_play.specs.Playing.{AreAllNeeded, SaysEnding, EndsPlay}
use Rattle.event_play.specs.Replay.{Replay, Script, script_after, script_from, played_script, raised, from_state}
use Rattle.event_play.specs.Replay.{tall_version}
use Rattle.event_play.specs.RigState.{RigState, first_rig, Stands}
use Rattle.event_play.specs.Step.{Machine}
use Rattle.event_play.specs.Streams.{Streams, streams}
use Rattle.event_play.specs.declared.ending.Ending.{Ending}
use Rattle.event_play.specs.declared.ending.Ending.TheVariants.{Done, Stopped, Faulted, NoPicture, WriteFailed}
use Rattle.event_play.specs.declared.ending.Mode.{Mode}
use Rattle.event_play.proofs.Grows.{lines-none}
use Rattle.snapshot_words.specs.Reading.{Found, Whole, Short, Bad, Snapshot, state_from}
use Rattle.snapshot_words.specs.declared.fault.SnapFault.{SnapFault}
use Rattle.snapshot_words.specs.declared.fault.SnapFault.TheVariants as fault
use Rattle.gpu_snapshot.specs.Head.{file_head}
use Rattle.gpu_snapshot.specs.Intake.{intake}
use Rattle.gpu_snapshot.specs.Opened.{Opened, Captured as IsCapture, Restored, Unknown, BreaksOff, BadWord, opened}
use Rattle.gpu_snapshot.specs.Opened.{after_head}
use Rattle.gpu_snapshot.specs.Opened.{opened_state}
use Rattle.gpu_snapshot.specs.Opening.{OpensCapture, OpensState, Refuses, AreNeeded, IsTooShort, opening_cost}
use Rattle.gpu_snapshot.specs.PlayAny.{played_file, script_file, script_opened, EndsAny, PlaysAny, IsGood, HasNoBadWord}
use Rattle.gpu_snapshot.specs.PlayAny.{FindsBadWord, any_ending_of}
use Rattle.gpu_snapshot.specs.Restored.{machine_in, version_after}
use Rattle.gpu_snapshot.specs.declared.head.FileHead.{FileHead}
use Rattle.gpu_snapshot.specs.declared.head.FileHead.TheVariants as head
use Rattle.gpu_snapshot.proofs.Heads.{capture_is}
use Rattle.gpu_snapshot.proofs.Moving.{SaysNothing, StopsShort, ends_moved}
use Rattle.gpu_snapshot.proofs.Profiles.{tall_twice}
use Rattle.event_play.specs.PlayInput.{at_end, play_input, replay_pair}

-- ---- by what is opened

play_by : (first : Replay) (bytes : List ℕ) (found : Opened) → opened bytes ≡ found
    → script_file first bytes ≡ script_opened first bytes found
unfolding script_file
play_by first bytes found is = ap (script_opened first bytes) is

short_play : (first : Replay) (bytes : List ℕ) (found : Opened) → IsTooShort found → opened bytes ≡ found
    → SaysNothing (script_file first) bytes
short_play first bytes (BreaksOff offset) short is = record {
  version = 0;
  byte = offset;
  is = ap (λ (s : Script). s.captured) (play_by first bytes (BreaksOff offset) is);
}
short_play first bytes (IsCapture version rest) short is = absurd short
short_play first bytes (Restored s offset rest) short is = absurd short
short_play first bytes (Unknown offset rest) short is = absurd short
short_play first bytes (BadWord offset word) short is = absurd short

stops_short : (first : Replay) (taken : List ℕ) → AreNeeded taken → StopsShort (script_file first) taken
stops_short first taken needed part more is some =
    short_play first part (opened part) (needed part more is some) refl

pub all_needed : (first : Replay) (taken : List ℕ) → AreNeeded taken → AreAllNeeded (played_file first) taken
all_needed first taken needed part more is some =
    let none = stops_short first taken needed part more is some in rw none.is tt

pub good_all : (ending : Ending) (taken : List ℕ) → ((rest : List ℕ) → HasNoBadWord (opened (taken ++ rest)))
    → IsGood ending taken
good_all Done taken good = good
good_all (NoPicture number) taken good = good
good_all (Faulted number fault) taken good = good
good_all (WriteFailed number) taken good = good
good_all (Stopped number End) taken good = good
good_all (Stopped number (NotCapture byte)) taken good = good
good_all (Stopped number (BadRecord byte word)) taken good = good
good_all (Stopped number (TooLong byte)) taken good = good
good_all (Stopped number (Truncated byte)) taken good = rw append-nil at (good [])
good_all (Stopped number (ReadFault byte)) taken good = rw append-nil at (good [])

-- ---- a capture

not_state : (found : Found Snapshot) (version : ℕ) (rest : List ℕ) → opened_state found ≡ IsCapture version rest → ⊥
not_state (Whole s offset more) version rest is = cc
not_state (Short offset) version rest is = cc
not_state (Bad offset word) version rest is = cc

captured_by : (h : Result FileHead ℕ) (bytes : List ℕ) (version : ℕ) (rest : List ℕ)
    → after_head h bytes ≡ IsCapture version rest → (h ≡ Ok (head.Capture version)) × (bytes ≡ rest)
captured_by (Ok (head.Capture other)) bytes version rest is =
    let same : other ≡ version = cc in let after : bytes ≡ rest = cc in (ap (λ v. Ok (head.Capture v)) same, after)
captured_by (Ok head.Snapshot) bytes version rest is = absurd (not_state (state_from 8 bytes) version rest is)
captured_by (Err offset) bytes version rest is = absurd cc

captured_is : (bytes : List ℕ) (version : ℕ) (rest : List ℕ) → opened bytes ≡ IsCapture version rest
    → capture bytes ≡ records version Tag 8 rest
unfolding opened
captured_is bytes version rest is =
    elim (cases_Bool (nat_lt (length bytes) 8)) [
      | inl short ↦ absurd (let e : BreaksOff (length bytes) ≡ IsCapture version rest = rw short at is in cc)
      | inr enough ↦
          let by = captured_by (file_head (take 8 bytes)) (drop 8 bytes) version rest (rw enough at is) in
          rw (enough, capture_is (take 8 bytes) version by.0, by.1) refl
    ]

from_tag : (version : ℕ) (rest : List ℕ) → 1 ≤ version → capture_from (tag_expected version 8) rest
    ≡ records version Tag 8 rest
from_tag version rest known = at_word (tag_expected version 8) rest known refl

raised_twice : (s : Machine) (version : ℕ)
    → raised (from_state (raised (from_state s 0) version).state 0) version ≡ raised (from_state s 0) version
raised_twice s version = elim (cases_Bool (version == tall_version)) [
  | inl is ↦ rw is (ap (λ (m : Machine). from_state m 0) (tall_twice s))
  | inr is ↦ rw is refl
]

abbrev starting : Replay → Captured → Script
starting t c = record { first = t; captured = c }

pub capture_leads : (s : Machine) (version : ℕ) (front bytes : List ℕ) → 1 ≤ version
    → ((rest : List ℕ) → opened (front ++ rest) ≡ IsCapture version rest)
    → script_file (from_state s 0) (front ++ bytes)
    ≡ script_after (from_state (raised (from_state s 0) version).state 0) (tag_expected version 8) bytes
capture_leads s version front bytes known says =
    let first = from_state s 0 in
    let c = capture_from (tag_expected version 8) bytes in
    let is : c.version ≡ version = version_from (tag_expected version 8) bytes known in
    play_by first (front ++ bytes) (IsCapture version bytes) (says bytes)
    ∙ ap (script_from first) (captured_is (front ++ bytes) version bytes (says bytes)
    ∙ sym (from_tag version bytes known))
    ∙ ap (λ v. starting (raised first v) c) is
    ∙ ap (λ t. starting t c) (sym (raised_twice s version))
    ∙ ap (λ v. starting (raised (from_state (raised first version).state 0) v) c) (sym is)

pub plays_capture : (mode : Mode) (s : Machine) (left mid held : Option (List ℕ)) (heard : List Reading)
    (steps steps_mid : ℕ) (now : Streams) (opened_rig rig : RigState) (reader : ReaderState) (ending : Ending)
    → OpensCapture (intake left steps) (intake mid steps_mid) opened_rig reader → Stands first_rig s
    → ((t : Machine) → Stands opened_rig t
    → EndsPlay mode (script_after (from_state t opened_rig.played) reader.progress)
    (streams mid held heard steps_mid) (at_end now rig) ending)
    → PlaysAny mode (from_state s 0) (streams left held heard steps) now ending
plays_capture mode s left mid held heard steps steps_mid now opened_rig rig reader ending opens stands plays =
    let first = from_state s 0 in
    let m : Machine = (raised first opens.version).state in
    let for_all = opens.stands first (record { state = stands; played = refl }) in
    let ByPlayed : ℕ → Type 0 = λ p. EndsPlay mode (script_after (from_state m p) reader.progress)
    (streams mid held heard steps_mid) (at_end now rig) ending in
    let ByReader : Progress → Type 0 = λ p. EndsPlay mode (script_after (from_state m 0) p)
    (streams mid held heard steps_mid) (at_end now rig) ending in
    let ends : EndsPlay mode (script_after (from_state m 0) (tag_expected opens.version 8))
    (streams mid held heard steps_mid) (at_end now rig) ending =
    subst ByReader (ap (λ (r : ReaderState). r.progress) opens.reader_is)
    (subst ByPlayed opens.played (plays m for_all.state)) in
    let moved = ends_moved mode (script_file first)
    (script_after (from_state m 0) (tag_expected opens.version 8)) opens.taken
    (λ bytes. capture_leads s opens.version opens.taken bytes opens.known.0 opens.says)
    left mid held heard (steps + 0) steps_mid now rig ending opens.bytes
    (stops_short first opens.taken opens.needed) (let c = opens.cost in omega (arith, c)) ends in
    let Good : List ℕ → Type 0 = λ taken. IsGood ending taken in
    record {
      rig = rig;
      opening = 0;
      plays = moved.plays;
      good = subst Good (sym moved.taken_is) (good_all ending (opens.taken ++ moved.more)
          (λ rest. rw (append_assoc opens.taken moved.more rest, opens.says (moved.more ++ rest)) tt));
      cost = λ rest. omega arith;
    }

-- ---- a snapshot

pub plays_state : (mode : Mode) (s : Machine) (left mid held : Option (List ℕ)) (heard : List Reading)
    (steps steps_mid : ℕ) (now : Streams) (opened_rig rig : RigState) (reader : ReaderState) (ending : Ending)
    → OpensState (intake left steps) (intake mid steps_mid) opened_rig reader
    → ((t : Machine) → Stands opened_rig t
    → EndsPlay mode (script_after (from_state t opened_rig.played) reader.progress)
    (streams mid held heard steps_mid) (at_end now rig) ending)
    → PlaysAny mode (from_state s 0) (streams left held heard steps) now ending
plays_state mode s left mid held heard steps steps_mid now opened_rig rig reader ending opens plays =
    let first = from_state s 0 in
    let m : Machine = machine_in opens.snapshot in
    let o = opens.snapshot.outline in
    let tag : Progress = tag_expected (version_after o.regs.height) opens.offset in
    let ByPlayed : ℕ → Type 0 = λ p. EndsPlay mode (script_after (from_state m p) reader.progress)
    (streams mid held heard steps_mid) (at_end now rig) ending in
    let ByReader : Progress → Type 0 = λ p. EndsPlay mode (script_after (from_state m o.played) p)
    (streams mid held heard steps_mid) (at_end now rig) ending in
    let ends : EndsPlay mode (script_after (from_state m o.played) tag)
    (streams mid held heard steps_mid) (at_end now rig) ending =
    subst ByReader (ap (λ (r : ReaderState). r.progress) opens.reader_is)
    (subst ByPlayed (ap (λ (r : RigState). r.played) opens.rig_is) (plays m opens.stands)) in
    let moved = ends_moved mode (script_file first) (script_after (from_state m o.played) tag) opens.taken
    (λ bytes. play_by first (opens.taken ++ bytes) (Restored opens.snapshot opens.offset bytes) (opens.says bytes))
    left mid held heard (steps + 64 * o.regs.height) steps_mid now rig ending opens.bytes
    (stops_short first opens.taken opens.needed) opens.cost ends in
    let Good : List ℕ → Type 0 = λ taken. IsGood ending taken in
    record {
      rig = rig;
      opening = 64 * o.regs.height;
      plays = moved.plays;
      good = subst Good (sym moved.taken_is) (good_all ending (opens.taken ++ moved.more)
          (λ rest. rw (append_assoc opens.taken moved.more rest, opens.says (moved.more ++ rest)) tt));
      cost = λ rest.
          let EventInMode : List ℕ → Type 0 = λ taken. 64 * o.regs.height ≤ opening_cost (taken ++ rest) in
          subst EventInMode (sym moved.taken_is)
          (rw (append_assoc opens.taken moved.more rest, opens.cost_is (moved.more ++ rest)) (omega arith));
    }

-- ---- a refusal

held_on : (mode : Mode) (first : Replay) (held : Option (List ℕ)) → lines_of mode first ≡ []
    → held ≡ appended held (lines_of mode first)
held_on mode first held none = sym (ap (appended held) none ∙ appended-nil held)

module _ (mode : Mode) (s : Machine) (left mid held : Option (List ℕ)) (heard : List Reading) (steps steps_mid : ℕ)
    (stands : Stands first_rig s) where
  abbrev start : Replay
  start = from_state s 0

  abbrev before : Streams
  before = streams left held heard steps

  abbrev now : Streams
  now = streams mid held heard steps_mid

  unplayed_ends : (stop : Stop) (refuses : Refuses (intake left steps) (intake mid steps_mid) (fault.Stop stop))
      → SaysEnding (play_input mode (script_file start) refuses.taken) (replay_pair start start) before now
      (Stopped 1 stop)
      → IsGood (Stopped 1 stop) refuses.taken → PlaysAny mode start before now (Stopped 1 stop)
  unplayed_ends stop refuses says good = record {
    rig = first_rig;
    opening = steps_mid - steps;
    plays = record {
      taken = refuses.taken;
      bytes = refuses.bytes;
      needed = all_needed start refuses.taken refuses.needed;
      replay = start;
      last = start;
      says = says;
      is_last = refl;
      stands = record { state = stands; played = refl };
      heard = refl;
      cost = λ rest. omega arith;
      box_cost = λ rest. omega arith;
    };
    good = good;
    cost = λ rest. let c = refuses.cost rest in omega (arith, c);
  }

  same_held : held ≡ appended held (lines_of mode start)
  same_held = held_on mode start held (lines-none mode)

  pub refuses_any : (why : SnapFault) → Refuses (intake left steps) (intake mid steps_mid) why
      → EndsAny mode start before now (any_ending_of why)
  refuses_any (fault.Bad byte word) refuses = record {
    taken = refuses.taken;
    bytes = refuses.bytes;
    needed = refuses.needed;
    says = refuses.says;
    held = refl;
    heard = refl;
    cost = refuses.cost;
  }
  refuses_any (fault.Stop (NotCapture byte)) refuses =
      unplayed_ends (NotCapture byte) refuses (
        λ rest. ap played_script (play_by start (refuses.taken ++ rest) (Unknown byte rest) (refuses.says rest)),
        same_held,
      )
      (λ rest. rw (refuses.says rest) tt)
  refuses_any (fault.Stop (Truncated byte)) refuses =
      unplayed_ends (Truncated byte) refuses
      (ap played_script (play_by start refuses.taken (BreaksOff byte) refuses.says.0), same_held, refuses.says.1)
      (rw refuses.says.0 tt)
  refuses_any (fault.Stop (ReadFault byte)) refuses =
      unplayed_ends (ReadFault byte) refuses
      (ap played_script (play_by start refuses.taken (BreaksOff byte) refuses.says), same_held) (rw refuses.says tt)
  refuses_any (fault.Stop End) refuses = absurd refuses.says
  refuses_any (fault.Stop (BadRecord byte word)) refuses = absurd refuses.says
  refuses_any (fault.Stop (TooLong byte)) refuses = absurd refuses.says

-- ---- an invalid word

-- each byte read is needed, whatever the state from which they are played
pub finds_needed : (first : Replay) (before now : Streams) (byte word : ℕ) (finds : FindsBadWord before now byte word)
    → AreAllNeeded (played_file first) finds.taken
finds_needed first _ _ byte word finds = all_needed first finds.taken finds.needed
