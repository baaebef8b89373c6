-- The bytes that a machine loads, and those that are saved of it.
use Rattle.std.proofs.Common.{◌≡◌, ◌<◌, ◌⊎◌, ◌+◌, ◌^◌, ◌++◌, List, ℕ, true, None, Some, Ok}
use Rattle.std.proofs.Common.{length, nat_lt, refl, ap, sym, subst, ◌∙◌, inl, inr, append-nil, length-append, arith}
use Rattle.capture_cut.specs.File.{IsWritable, outline_of, rig_bytes}
use Rattle.dev_io.specs.Device.{prepended}
use Rattle.event_play.specs.RigState.{RigState}
use Rattle.gpu_capture.specs.State.{ReaderState}
use Rattle.gpu_capture.specs.Written.{spelled_end, tag_of}
use Rattle.gpu_capture.specs.declared.event.Stop.TheVariants as stop
use Rattle.gpu_capture.proofs.Written.{word_length}
use Rattle.gpu_snapshot.specs.Intake.{intake}
use Rattle.gpu_snapshot.specs.Opened.{Opened, Restored, opened}
use Rattle.gpu_snapshot.specs.Opening.{OpensCapture, OpensState, Refuses}
use Rattle.gpu_snapshot.specs.Restored.{first_offset}
use Rattle.gpu_snapshot.proofs.CutFiles.{spelled_opens}
use Rattle.snapshot_words.specs.Outline.{snap_bytes}
use Rattle.snapshot_words.specs.Reading.{Snapshot}
use Rattle.snapshot_words.specs.Taking.{IsReadFault}
use Rattle.snapshot_words.specs.declared.fault.SnapFault.{SnapFault}
use Rattle.snapshot_words.specs.declared.fault.SnapFault.TheVariants as snap
use Rattle.psxgpu_c.specs.Saved.{AreLoadedAs, IsOpened, Saves, fault_of, saved}
use Rattle.psxgpu_c.specs.Shown.{StandsInFront}
use Rattle.psxgpu_c.specs.declared.refusal.Refusal.TheVariants as refusal

-- ---- loading

-- the bytes read from a source that had these bytes, and those that remain
whole : (source bytes taken left : List ℕ) → source ≡ bytes → Some source ≡ prepended taken (Some left)
    → bytes ≡ taken ++ left
whole source bytes taken left is split = cc

pub opened_rig : (source bytes left : List ℕ) (steps steps_now : ℕ) (rig : RigState) (reader : ReaderState)
    → source ≡ bytes
    → OpensCapture (intake (Some source) steps) (intake (Some left) steps_now) rig reader
    ⊎ OpensState (intake (Some source) steps) (intake (Some left) steps_now) rig reader
    → IsOpened (opened bytes) rig
opened_rig source bytes left steps steps_now rig reader is (inl capture) =
    let e = whole source bytes capture.taken left is capture.bytes in
    subst (λ (found : Opened). IsOpened found rig) (sym (ap opened e ∙ capture.says left))
    (capture.stands, capture.played)
opened_rig source bytes left steps steps_now rig reader is (inr state) =
    let e = whole source bytes state.taken left is state.bytes in
    subst (λ (found : Opened). IsOpened found rig) (sym (ap opened e ∙ state.says left)) (state.rig_is, state.stands)

pub not_opened : (source bytes left : List ℕ) (steps steps_now : ℕ) (fault : SnapFault) → source ≡ bytes
    → Refuses (intake (Some source) steps) (intake (Some left) steps_now) fault → (IsReadFault fault → ⊥)
    → fault_of (opened bytes) ≡ Some fault
not_opened source bytes left steps steps_now (snap.Stop (stop.NotCapture byte)) is refused never =
    ap fault_of (ap opened (whole source bytes refused.taken left is refused.bytes) ∙ refused.says left)
not_opened source bytes left steps steps_now (snap.Stop (stop.Truncated byte)) is refused never =
    let says = refused.says in
    let e = whole source bytes refused.taken left is refused.bytes
    ∙ ap (λ more. refused.taken ++ more) says.1
    ∙ append-nil refused.taken in
    ap fault_of (ap opened e ∙ says.0)
not_opened source bytes left steps steps_now (snap.Stop (stop.ReadFault byte)) is refused never = absurd (never tt)
not_opened source bytes left steps steps_now (snap.Stop stop.End) is refused never = absurd refused.says
not_opened source bytes left steps steps_now (snap.Stop (stop.BadRecord byte word)) is refused never =
    absurd refused.says
not_opened source bytes left steps steps_now (snap.Stop (stop.TooLong byte)) is refused never = absurd refused.says
not_opened source bytes left steps steps_now (snap.Bad byte word) is refused never =
    ap fault_of (ap opened (whole source bytes refused.taken left is refused.bytes) ∙ refused.says left)

-- ---- what is saved

-- the state of a rig, as bytes
abbrev snapshot_in : RigState → Snapshot
snapshot_in rig = record { outline = outline_of rig; m = rig.gpu.parts.m; ram = rig.ram }

saved_opens : (rig : RigState) → IsWritable rig → opened (saved rig)
    ≡ Restored (snapshot_in rig) (first_offset + length (snap_bytes (outline_of rig) rig.gpu.parts.m rig.ram))
    spelled_end
unfolding rig_bytes
saved_opens rig is = spelled_opens (snapshot_in rig) spelled_end
    (record { outline = is.outline; words = is.words; memories = is.memories })

-- an End record has one word
pub saved_long : (rig : RigState) (size : ℕ) → size ≡ length (rig_bytes rig) → size + 4 ≡ length (saved rig)
saved_long rig size is =
    let all = length-append (rig_bytes rig) spelled_end in omega (arith, all, is, word_length (tag_of 0 0))

saved_loads : (rig : RigState) → IsWritable rig → AreLoadedAs rig (saved rig)
saved_loads rig is was now None loads =
    let opens = subst (λ (found : Opened). IsOpened found now) (saved_opens rig is) loads in inl (refl, opens.0)
saved_loads rig is was now (Some refusal.NoMemory) loads = inr (refl, loads)
saved_loads rig is was now (Some (refusal.Unopened fault)) loads =
    let e : None ≡ Some fault = ap fault_of (sym (saved_opens rig is)) ∙ loads.1 in absurd cc
saved_loads rig is was now (Some refusal.Closed) loads = absurd loads
saved_loads rig is was now (Some refusal.Open) loads = absurd loads
saved_loads rig is was now (Some refusal.NoRoom) loads = absurd loads
saved_loads rig is was now (Some refusal.NoPicture) loads = absurd loads
saved_loads rig is was now (Some refusal.NoCell) loads = absurd loads
saved_loads rig is was now (Some refusal.BadAddress) loads = absurd loads
saved_loads rig is was now (Some refusal.BadChannel) loads = absurd loads
saved_loads rig is was now (Some refusal.BadMode) loads = absurd loads
saved_loads rig is was now (Some refusal.TooManyEvents) loads = absurd loads
saved_loads rig is was now (Some (refusal.Faulted event fault)) loads = absurd loads

-- ---- how it is saved

pub saves_all : (rig : RigState) (before now : List ℕ) (size : ℕ) → rig.played < 2 ^ 63
    → StandsInFront (saved rig) before now → size ≡ length (saved rig) → IsWritable rig → Saves rig before now (Ok size)
saves_all rig before now size few front long is =
    let can : nat_lt rig.played (2 ^ 63) ≡ true = grind (arith, few) in
    rw can ((front, long), saved_loads rig is)
