-- A state that is read into a rig.
use Rattle.std.proofs.Common.{◌≡◌, ◌≤◌, ◌+◌, ◌*◌, ◌++◌, List, [], ℕ, Option, None, length, refl, ap, sym, ◌∙◌}
use Rattle.std.proofs.Common.{arith, append_assoc, append-nil}
use Rattle.dev_io.proofs.Parts.{taken_on}
use Rattle.gp0_words.specs.Items.{pending_behind}
use Rattle.gp0_words.specs.Resuming.{list_of}
use Rattle.gp0_words.specs.declared.pending.Pending.{Pending}
use Rattle.gpu_capture.specs.Reader.{tag_expected}
use Rattle.gpu_capture.specs.State.{ReaderState}
use Rattle.gpu_capture.specs.declared.progress.Progress.{Progress}
use Rattle.gpu_capture.specs.declared.event.Stop.{Stop}
use Rattle.gpu_capture.specs.declared.event.Stop.TheVariants.{End, NotCapture, BadRecord, TooLong, Truncated, ReadFault}
use Rattle.gpu_core.specs.Kept.{Kept, kept_with}
use Rattle.list_dma.specs.declared.run.Run.{Run}
use Rattle.event_play.specs.RigState.{RigState, Stands}
use Rattle.snapshot_words.specs.Outline.{outline_words, snap_bytes, bytes_of}
use Rattle.snapshot_words.specs.Reading.{Whole, Short, Bad, Snapshot, memories_from, outline_from}
use Rattle.snapshot_words.specs.Reading.{state_from}
use Rattle.snapshot_words.specs.Taking.{TakesOutline, Stops, SaysFault, AreNeeded}
use Rattle.snapshot_words.specs.Values.{cell_words}
use Rattle.snapshot_words.specs.declared.fault.SnapFault.{SnapFault}
use Rattle.snapshot_words.specs.declared.fault.SnapFault.TheVariants as fault
use Rattle.snapshot_words.specs.declared.outline.Outline.{Outline}
use Rattle.snapshot_words.proofs.Chain.{short_then}
use Rattle.gpu_snapshot.specs.Intake.{intake}
use Rattle.gpu_snapshot.specs.Memories.{TakesMemories, LacksWords, SaysShort, with_memories}
use Rattle.gpu_snapshot.specs.Restored.{Restores, StopsInState, HoldsOutline, rig_in, machine_in, first_offset}
use Rattle.gpu_snapshot.specs.Restored.{reader_after, version_after, state_cost}
use Rattle.gpu_snapshot.proofs.States.{state_lacks, whole_needed, short_needed}
use Rattle.gpu_snapshot.proofs.MemoriesBack.{memories_back}

-- ---- a fault in the outline

outline_short : (taken : List ℕ) (offset : ℕ) → outline_from first_offset taken ≡ Short offset
    → state_from first_offset taken ≡ Short offset
unfolding state_from
outline_short taken offset is = rw is refl

outline_bad : (taken : List ℕ) (offset word : ℕ) → outline_from first_offset taken ≡ Bad offset word
    → state_from first_offset taken ≡ Bad offset word
unfolding state_from
outline_bad taken offset word is = rw is refl

state_says : (why : SnapFault) (taken : List ℕ) (now : Option (List ℕ))
    → SaysFault why (outline_from first_offset) taken now
    → SaysFault why (state_from first_offset) taken now
state_says (fault.Bad byte word) taken now says = λ rest. outline_bad (taken ++ rest) byte word (says rest)
state_says (fault.Stop (Truncated byte)) taken now says = (outline_short taken byte says.0, says.1)
state_says (fault.Stop (ReadFault byte)) taken now says = outline_short taken byte says
state_says (fault.Stop End) taken now says = absurd says
state_says (fault.Stop (NotCapture byte)) taken now says = absurd says
state_says (fault.Stop (BadRecord byte word)) taken now says = absurd says
state_says (fault.Stop (TooLong byte)) taken now says = absurd says

outline_needed : (taken : List ℕ) → AreNeeded (outline_from first_offset) taken
    → AreNeeded (state_from first_offset) taken
unfolding state_from
outline_needed taken needed part more is some =
    short_then (outline_from first_offset part) memories_from (needed part more is some)

pub stops_outline : (before now : Option (List ℕ)) (steps : ℕ) (why : SnapFault)
    → Stops (outline_from first_offset) before now why → StopsInState (intake before steps) (intake now steps) why
stops_outline before now steps why stops =
    record {
      taken = stops.taken;
      bytes = stops.bytes;
      needed = outline_needed stops.taken stops.needed;
      says = state_says why stops.taken now stops.says;
      cost = λ rest. omega arith;
    }

-- ---- a fault in the memories

short_says : (why : SnapFault) (offset : ℕ) (taken : List ℕ) (now : Option (List ℕ)) → SaysShort why offset now
    → state_from first_offset taken ≡ Short offset → SaysFault why (state_from first_offset) taken now
short_says (fault.Stop (Truncated byte)) offset taken now says is = (rw says.0 is, says.1)
short_says (fault.Stop (ReadFault byte)) offset taken now says is = rw says is
short_says (fault.Stop End) offset taken now says is = absurd says
short_says (fault.Stop (NotCapture byte)) offset taken now says is = absurd says
short_says (fault.Stop (BadRecord byte word)) offset taken now says is = absurd says
short_says (fault.Stop (TooLong byte)) offset taken now says is = absurd says
short_says (fault.Bad byte word) offset taken now says is = absurd says

cost_is : (bytes rest : List ℕ) (o : Outline) (offset : ℕ) → outline_from first_offset bytes ≡ Whole o offset rest
    → state_cost bytes ≡ 64 * o.regs.height
unfolding state_cost
cost_is bytes rest o offset is = rw is refl

pub stops_memories : (before mid now : Option (List ℕ)) (steps steps_now offset : ℕ) (o : Outline) (why : SnapFault)
    → TakesOutline before mid first_offset offset o → LacksWords mid now offset (512 * o.regs.height + 524288) why
    → steps_now ≤ steps + 64 * o.regs.height → StopsInState (intake before steps) (intake now steps_now) why
stops_memories before mid now steps steps_now offset o why takes lacks few =
    let front = bytes_of (outline_words o) in
    let is = state_lacks front lacks.taken o offset (takes.says lacks.taken) lacks.few in
    record {
      taken = front ++ lacks.taken;
      bytes = taken_on before mid now front lacks.taken takes.bytes lacks.bytes;
      needed = short_needed (front ++ lacks.taken) (offset + length lacks.taken) is;
      says = short_says why (offset + length lacks.taken) (front ++ lacks.taken) now lacks.says is;
      cost = λ rest.
          let e = cost_is ((front ++ lacks.taken) ++ rest) (lacks.taken ++ rest) o offset
          (rw (append_assoc front lacks.taken rest) (takes.says (lacks.taken ++ rest))) in
          omega (arith, e, few);
    }

-- ---- a whole state

snap_is : (o : Outline) (m ram : List ℕ)
    → snap_bytes o m ram ≡ bytes_of (outline_words o) ++ (bytes_of (cell_words m) ++ bytes_of ram)
unfolding snap_bytes
snap_is o m ram = append_assoc (bytes_of (outline_words o)) (bytes_of (cell_words m)) (bytes_of ram)

snap_split : (o : Outline) (m ram rest : List ℕ) → snap_bytes o m ram ++ rest
    ≡ bytes_of (outline_words o) ++ (bytes_of (cell_words m) ++ (bytes_of ram ++ rest))
snap_split o m ram rest =
    let cells = bytes_of (cell_words m) in
    ap (λ bytes. bytes ++ rest) (snap_is o m ram)
    ∙ append_assoc (bytes_of (outline_words o)) (cells ++ bytes_of ram) rest
    ∙ ap (λ bytes. bytes_of (outline_words o) ++ bytes) (append_assoc cells (bytes_of ram) rest)

-- an outline, and memories after it
state_back : (front bytes rest : List ℕ) (o : Outline) (m ram : List ℕ) (offset : ℕ)
    → outline_from first_offset (front ++ bytes) ≡ Whole o offset bytes
    → memories_from o offset bytes
    ≡ Whole (record { outline = o; m = m; ram = ram }) (offset + 4 * (512 * o.regs.height + 524288)) rest
    → state_from first_offset (front ++ bytes)
    ≡ Whole (record { outline = o; m = m; ram = ram }) (offset + 4 * (512 * o.regs.height + 524288)) rest
unfolding state_from
state_back front bytes rest o m ram offset is memories = rw is memories

pub reader_of : (reader : ReaderState) (version height offset : ℕ) → reader.progress ≡ tag_expected version offset
    → reader.stop ≡ None → version ≡ version_after height → reader ≡ reader_after height offset
reader_of reader version height offset progress stop is =
    let with_stop : Progress → ReaderState = λ p. record { progress = p; stop = None } in
    let with_progress : Option Stop → ReaderState = λ s. record { progress = reader.progress; stop = s } in
    ap with_progress stop ∙ ap with_stop (progress ∙ ap (λ v. tag_expected v offset) is)

-- the rig is the state
whole_rig : (first rig : RigState) (o : Outline) (m ram : List ℕ) → HoldsOutline first o
    → rig ≡ with_memories first m ram
    → rig ≡ rig_in (record { outline = o; m = m; ram = ram })
whole_rig first rig o m ram holds is =
    let with_gpu : Kept → Run → ℕ → RigState = λ gpu running played.
    record { gpu = record gpu { parts = record gpu.parts { m = m } }; ram = ram; running = running; played = played } in
    let was : Kept = kept_with first.gpu.parts.m o.regs o.pending o.load o.store in
    is ∙ ap (λ gpu. with_gpu gpu first.running first.played) holds.gpu
    ∙ ap (λ running. with_gpu was running first.played) holds.running
    ∙ ap (λ played. with_gpu was o.run played) holds.played

-- words of GP0 leave what is pending
leaves : (first : RigState) (o : Outline) → HoldsOutline first o → pending_behind (list_of o.pending) ≡ o.pending
leaves first o holds =
    let pending_is : first.gpu.pending ≡ o.pending = ap (λ (k : Kept). k.pending) holds.gpu in
    ap (λ p. pending_behind (list_of p)) (sym pending_is) ∙ ap (λ (k : Kept). k.pending) holds.stands ∙ pending_is

pub stands_for : (rig : RigState) (s : Snapshot) → rig ≡ rig_in s
    → pending_behind (list_of s.outline.pending) ≡ s.outline.pending
    → Stands rig (machine_in s)
stands_for rig s is left =
    let kept : Pending → Kept = λ p. record { parts = (rig_in s).gpu.parts; pending = p } in
    record {
      gpu = ap kept left ∙ sym (ap (λ (r : RigState). r.gpu) is);
      ram = sym (ap (λ (r : RigState). r.ram) is);
      running = sym (ap (λ (r : RigState). r.running) is);
    }

module _ (before mid now : Option (List ℕ)) (steps steps_now offset after : ℕ) (first rig : RigState) (o : Outline)
    (reader : ReaderState) (takes : TakesOutline before mid first_offset offset o)
    (holds : HoldsOutline first o)
    (memories : TakesMemories mid now rig.gpu.parts.m rig.ram)
    (is : rig ≡ with_memories first rig.gpu.parts.m rig.ram) (rows : length rig.gpu.parts.m ≡ 1024 * o.regs.height)
    (long : length rig.ram ≡ 524288) (moved : after ≡ offset + 4 * (512 * o.regs.height + 524288))
    (reader_is : reader ≡ reader_after o.regs.height after) (few : steps_now ≤ steps + 64 * o.regs.height) where
  abbrev whole : Snapshot
  whole = record { outline = o; m = rig.gpu.parts.m; ram = rig.ram }

  abbrev spelled : List ℕ
  spelled = snap_bytes o rig.gpu.parts.m rig.ram

  says : (rest : List ℕ) → state_from first_offset (spelled ++ rest) ≡ Whole whole after rest
  says rest =
      rw (snap_split o rig.gpu.parts.m rig.ram rest)
      (state_back (bytes_of (outline_words o)) (bytes_of (cell_words rig.gpu.parts.m) ++ (bytes_of rig.ram ++ rest))
      rest o
      rig.gpu.parts.m rig.ram offset (takes.says (bytes_of (cell_words rig.gpu.parts.m) ++ (bytes_of rig.ram ++ rest)))
      (memories_back o rig.gpu.parts.m rig.ram offset rest rows memories.cells long memories.words)
      ∙ ap (λ p. Whole whole p rest) (sym moved))

  pub restores : Restores (intake before steps) (intake now steps_now) rig reader
  restores = record {
    snapshot = whole;
    offset = after;
    bytes = rw (snap_is o rig.gpu.parts.m rig.ram) (taken_on before mid now (bytes_of (outline_words o))
        (bytes_of (cell_words rig.gpu.parts.m) ++ bytes_of rig.ram) takes.bytes memories.bytes);
    needed = whole_needed spelled whole after (ap (state_from first_offset) (sym (append-nil spelled)) ∙ says []);
    says = says;
    rig_is = whole_rig first rig o rig.gpu.parts.m rig.ram holds is;
    stands = stands_for rig whole (whole_rig first rig o rig.gpu.parts.m rig.ram holds is) (leaves first o holds);
    reader_is = reader_is;
    cost = few;
    cost_is = λ rest.
        let more = bytes_of (cell_words rig.gpu.parts.m) ++ (bytes_of rig.ram ++ rest) in
        rw (snap_split o rig.gpu.parts.m rig.ram rest)
        (cost_is (bytes_of (outline_words o) ++ more) more o offset (takes.says more));
  }
