-- Opening a file.
use Rattle.std.proofs.Common.{◌≡◌, ◌≤◌, ◌<◌, ◌++◌, List, ℕ, true, false, Option, None}
use Rattle.std.proofs.Common.{Ok, length, take, drop, nat_lt, refl, ap, sym, ◌∙◌, arith, inl, inr, length-append}
use Rattle.std.proofs.Common.{append_assoc}
use Rattle.std.proofs.Math.Seq.{take-append_seam, drop-append_seam}
use Rattle.dev_io.proofs.Parts.{taken_on}
use Rattle.gpu_capture.specs.Capture.{IsVersion}
use Rattle.gpu_capture.specs.Reader.{tag_expected}
use Rattle.gpu_capture.specs.State.{ReaderState}
use Rattle.gpu_capture.specs.declared.event.Stop.{Stop}
use Rattle.gpu_capture.specs.declared.event.Stop.TheVariants.{End, NotCapture, BadRecord, TooLong, Truncated, ReadFault}
use Rattle.gpu_capture.proofs.Steps.{split}
use Rattle.event_play.specs.Replay.{Replay, raised}
use Rattle.event_play.specs.RigState.{RigState, first_rig, StandsFor}
use Rattle.snapshot_words.specs.Outline.{snap_bytes}
use Rattle.snapshot_words.specs.Reading.{Found, Whole, Short, Bad, Snapshot, state_from}
use Rattle.snapshot_words.specs.Taking.{SaysFault, IsShort, AreNeeded as AreNeededBy}
use Rattle.snapshot_words.specs.declared.fault.SnapFault.{SnapFault}
use Rattle.snapshot_words.specs.declared.fault.SnapFault.TheVariants as fault
use Rattle.snapshot_words.proofs.Gathering.{part_shorter}
use Rattle.gpu_snapshot.specs.Head.{file_head, TakesHead, StopsInHead, SaysNoHead}
use Rattle.gpu_snapshot.specs.Intake.{intake}
use Rattle.gpu_snapshot.specs.Opened.{BreaksOff, opened, after_head, opened_state}
use Rattle.gpu_snapshot.specs.Opening.{OpensCapture, OpensState, Refuses, SaysRefusal, AreNeeded, IsTooShort}
use Rattle.gpu_snapshot.specs.Opening.{opening_cost}
use Rattle.gpu_snapshot.specs.Restored.{Restores, StopsInState, first_offset, state_cost}
use Rattle.gpu_snapshot.specs.declared.head.FileHead.TheVariants as head
use Rattle.gpu_snapshot.proofs.Heads.{snapshot_is}

-- ---- by the magic number

head_enough : (first bytes : List ℕ) → length first ≡ 8 → nat_lt (length (first ++ bytes)) 8 ≡ false
head_enough first bytes long = let all = length-append first bytes in grind (arith, all, long)

head_of_all : (first bytes : List ℕ) → length first ≡ 8 → take 8 (first ++ bytes) ≡ first
head_of_all first bytes long = ap (λ n. take n (first ++ bytes)) (sym long) ∙ take-append_seam first bytes

after_all : (first bytes : List ℕ) → length first ≡ 8 → drop 8 (first ++ bytes) ≡ bytes
after_all first bytes long = ap (λ n. drop n (first ++ bytes)) (sym long) ∙ drop-append_seam first bytes

pub opened_after : (first bytes : List ℕ) → length first ≡ 8 → opened (first ++ bytes)
    ≡ after_head (file_head first) bytes
unfolding opened
opened_after first bytes long =
    rw (head_enough first bytes long, head_of_all first bytes long, after_all first bytes long) refl

pub opened_short : (bytes : List ℕ) → length bytes < 8 → opened bytes ≡ BreaksOff (length bytes)
unfolding opened
opened_short bytes few = let e : nat_lt (length bytes) 8 ≡ true = grind (arith, few) in rw e refl

cost_of_state : (first bytes : List ℕ) → length first ≡ 8 → file_head first ≡ Ok head.Snapshot
    → opening_cost (first ++ bytes) ≡ state_cost bytes
unfolding opening_cost
cost_of_state first bytes long is =
    rw (head_enough first bytes long, head_of_all first bytes long, after_all first bytes long, is) refl

-- ---- each byte is needed

-- at most eight bytes of a magic number
head_needed : (taken : List ℕ) → length taken ≤ 8 → AreNeeded taken
head_needed taken few part more is some =
    let short = part_shorter taken part more is some in
    rw (opened_short part (omega (arith, short, few))) tt

too_short : (found : Found Snapshot) → IsShort found → IsTooShort (opened_state found)
too_short (Short offset) is = tt
too_short (Whole s offset rest) is = absurd is
too_short (Bad offset word) is = absurd is

-- a magic number, and what is needed of a state
state_needed : (first taken : List ℕ) → length first ≡ 8 → file_head first ≡ Ok head.Snapshot
    → AreNeededBy (state_from first_offset) taken
    → AreNeeded (first ++ taken)
state_needed first taken long head_is needed part more is some =
    elim (split first taken part more is) [
      | inl after ↦
          let e : opened part ≡ opened_state (state_from first_offset after.0) =
          ap opened after.1 ∙ opened_after first after.0 long
          ∙ ap (λ h. after_head h after.0) head_is in
          rw e (too_short (state_from first_offset after.0) (needed after.0 more after.2 some))
      | inr inside ↦
          let short = part_shorter first part inside.0 inside.1 inside.2 in
          rw (opened_short part (omega (arith, short, long))) tt
    ]

-- ---- no magic number

refused_head : (stop : Stop) (taken : List ℕ) (now : Option (List ℕ)) → SaysNoHead stop taken now
    → SaysRefusal (fault.Stop stop) taken now × (length taken ≤ 8)
refused_head (NotCapture offset) taken now says =
    (λ rest. opened_after taken rest says.0 ∙ ap (λ h. after_head h rest) says.1, omega (arith, says.0))
refused_head (Truncated byte) taken now says =
    ((opened_short taken says.0 ∙ ap BreaksOff (sym says.1), says.2), omega (arith, says.0))
refused_head (ReadFault byte) taken now says =
    (opened_short taken says.0 ∙ ap BreaksOff (sym says.1), omega (arith, says.0))
refused_head End taken now says = absurd says
refused_head (BadRecord byte word) taken now says = absurd says
refused_head (TooLong byte) taken now says = absurd says

pub refuses_head : (before now : Option (List ℕ)) (steps : ℕ) (stop : Stop) → StopsInHead before now stop
    → Refuses (intake before steps) (intake now steps) (fault.Stop stop)
refuses_head before now steps stop stops =
    let says = refused_head stop stops.taken now stops.says in
    record {
      taken = stops.taken;
      bytes = stops.bytes;
      needed = head_needed stops.taken says.1;
      says = says.0;
      cost = λ rest. omega arith;
    }

-- ---- a capture

pub opens_capture : (before now : Option (List ℕ)) (steps version : ℕ) (rig : RigState) (reader : ReaderState)
    → TakesHead before now (head.Capture version) → IsVersion version
    → reader.progress ≡ tag_expected version 8 → reader.stop ≡ None
    → ((t : Replay) → StandsFor first_rig t → StandsFor rig (raised t version)) → rig.played ≡ 0
    → OpensCapture (intake before steps) (intake now steps) rig reader
opens_capture before now steps version rig reader takes known progress stop stands played = record {
  version = version;
  known = known;
  taken = takes.taken;
  bytes = takes.bytes;
  needed = head_needed takes.taken (let e = takes.long in omega (arith, e));
  says = λ rest. opened_after takes.taken rest takes.long ∙ ap (λ h. after_head h rest) takes.is;
  reader_is =
      let with_stop : Option Stop → ReaderState = λ s. record { progress = reader.progress; stop = s } in
      ap with_stop stop ∙ ap (λ p. record { progress = p; stop = None }) progress;
  stands = stands;
  played = played;
  cost = refl;
}

-- ---- a snapshot

pub opens_state : (before mid now : Option (List ℕ)) (steps steps_now : ℕ) (rig : RigState) (reader : ReaderState)
    → TakesHead before mid head.Snapshot → Restores (intake mid steps) (intake now steps_now) rig reader
    → OpensState (intake before steps) (intake now steps_now) rig reader
opens_state before mid now steps steps_now rig reader takes state =
    let spelled = snap_bytes state.snapshot.outline state.snapshot.m state.snapshot.ram in
    record {
      snapshot = state.snapshot;
      offset = state.offset;
      taken = takes.taken ++ spelled;
      taken_is = ap (λ first. first ++ spelled) (snapshot_is takes.taken takes.long takes.is);
      bytes = taken_on before mid now takes.taken spelled takes.bytes state.bytes;
      needed = state_needed takes.taken spelled takes.long takes.is state.needed;
      says = λ rest. ap opened (append_assoc takes.taken spelled rest)
          ∙ opened_after takes.taken (spelled ++ rest) takes.long
          ∙ ap (λ h. after_head h (spelled ++ rest)) takes.is ∙ ap opened_state (state.says rest);
      reader_is = state.reader_is;
      rig_is = state.rig_is;
      stands = state.stands;
      cost = state.cost;
      cost_is = λ rest. rw (
        append_assoc takes.taken spelled rest,
        cost_of_state takes.taken (spelled ++ rest) takes.long takes.is,
      ) (state.cost_is rest);
    }

refused_state : (why : SnapFault) (first taken : List ℕ) (now : Option (List ℕ)) → length first ≡ 8
    → file_head first ≡ Ok head.Snapshot → SaysFault why (state_from first_offset) taken now
    → SaysRefusal why (first ++ taken) now
refused_state (fault.Bad byte word) first taken now long is says =
    λ rest. ap opened (append_assoc first taken rest) ∙ opened_after first (taken ++ rest) long
    ∙ ap (λ h. after_head h (taken ++ rest)) is ∙ ap opened_state (says rest)
refused_state (fault.Stop (Truncated byte)) first taken now long is says =
    (opened_after first taken long ∙ ap (λ h. after_head h taken) is ∙ ap opened_state says.0, says.1)
refused_state (fault.Stop (ReadFault byte)) first taken now long is says =
    opened_after first taken long ∙ ap (λ h. after_head h taken) is ∙ ap opened_state says
refused_state (fault.Stop End) first taken now long is says = absurd says
refused_state (fault.Stop (NotCapture byte)) first taken now long is says = absurd says
refused_state (fault.Stop (BadRecord byte word)) first taken now long is says = absurd says
refused_state (fault.Stop (TooLong byte)) first taken now long is says = absurd says

pub refuses_state : (before mid now : Option (List ℕ)) (steps steps_now : ℕ) (why : SnapFault)
    → TakesHead before mid head.Snapshot → StopsInState (intake mid steps) (intake now steps_now) why
    → Refuses (intake before steps) (intake now steps_now) why
refuses_state before mid now steps steps_now why takes stops = record {
  taken = takes.taken ++ stops.taken;
  bytes = taken_on before mid now takes.taken stops.taken takes.bytes stops.bytes;
  needed = state_needed takes.taken stops.taken takes.long takes.is stops.needed;
  says = refused_state why takes.taken stops.taken now takes.long takes.is stops.says;
  cost = λ rest. rw (
    append_assoc takes.taken stops.taken rest,
    cost_of_state takes.taken
        (stops.taken ++ rest) takes.long takes.is,
  )
      (stops.cost rest);
}
