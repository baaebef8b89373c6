-- A transfer that runs in turns while main memory is written, compared with the same transfer done at once.
use Rattle.std.specs.Prelude.{◌≡◌, ◌≢◌, ℕ, zero, suc, ◌+◌, List, [], ◌∷◌, ◌++◌, flat_map, None, Result, Ok, Err, false}
use Rattle.gpu_capture.specs.declared.event.Event.{Event}
use Rattle.gpu_capture.specs.declared.event.Event.TheVariants as event
use Rattle.list_dma.specs.Node.{is_end, word_count}
use Rattle.list_dma.specs.Plans.{plan_of}
use Rattle.list_dma.specs.Walk.{walk_of, loop_of}
use Rattle.list_dma.specs.declared.plan.DmaFault.{DmaFault}
use Rattle.list_dma.specs.declared.plan.Plan.{Plan}
use Rattle.list_dma.specs.declared.plan.Plan.TheVariants as plan
use Rattle.list_dma.specs.declared.run.Run.{Run}
use Rattle.list_dma.specs.declared.run.Run.TheVariants as run
use Rattle.ot_clear_dma.specs.Ram.{cut, set}
use Rattle.event_play.specs.Block.{address_in}
use Rattle.event_play.specs.Step.{Machine, Stepped, event_step, done}
use Rattle.event_play.specs.Operation.{turn_operation}
use Rattle.event_play.specs.declared.block.Block.{Block}
use Rattle.event_play.specs.declared.fault.EventFault.{EventFault}

-- ---- events, one after another

abbrev pub then_after : Result Stepped EventFault → (Machine → Result Machine EventFault) → Result Machine EventFault
then_after (Ok stepped) on = on stepped.machine
then_after (Err fault) on = Err fault

-- the machine after events numbered from `number` on, or the first fault
abbrev pub after_events : Machine → (number : ℕ) → List Event → Result Machine EventFault
after_events s number [] = Ok s
after_events s number (next ∷ events) =
    then_after (event_step s number next) (λ after. after_events after (number + 1) events)

-- the writes to main memory among events
abbrev pub writes_of : List Event → List Event
writes_of [] = []
writes_of (event.Ram address word ∷ events) = event.Ram address word ∷ writes_of events
writes_of (other ∷ events) = writes_of events

-- ---- what remains of a transfer

-- the addresses of the n words after an address
abbrev pub addresses_after : (address n : ℕ) → List ℕ
addresses_after address zero = []
addresses_after address (suc n) = (address + 4) ∷ addresses_after (address + 4) n

-- the addresses of a node's header and of its words
abbrev pub node_addresses : List ℕ → (node : ℕ) → List ℕ
node_addresses ram node = node ∷ addresses_after node (word_count ram node)

-- the addresses of the first i words of a block
abbrev pub first_addresses : Block → ℕ → List ℕ
first_addresses block zero = []
first_addresses block (suc i) = first_addresses block i ++ address_in block i ∷ []

-- the addresses that a running transfer has still to read, with main memory as it is
abbrev pub remaining : List ℕ → Run → List ℕ
remaining ram run.Idle = []
remaining ram (run.Words at left block back to_ram) = first_addresses (record { at = at; n = left; back = back }) left
remaining ram (run.List node) = flat_map (node_addresses ram) (walk_of ram node)

-- the address is that of none of these words
abbrev pub IsApart : ℕ → List ℕ → Type 0
IsApart address [] = Unit {0}
IsApart address (other ∷ others) = (cut other ≢ cut address) × IsApart address others

-- the machine after a turn
abbrev pub turned : Machine → Machine
turned s = (done s 0 (turn_operation s.ram s.running)).machine

-- Only turns and writes occur, and no write is to an address that then remains to be read.
abbrev pub AreApart : Machine → List Event → Type 0
AreApart s [] = Unit {0}
AreApart s (event.Turn ∷ events) = AreApart (turned s) events
AreApart s (event.Ram address word ∷ events) =
    IsApart address (remaining s.ram s.running) × AreApart (record s { ram = set s.ram address word }) events
AreApart s (other ∷ events) = ⊥

-- ---- the law

-- the start moves words from main memory, or a list that has a node and ends
abbrev pub MovesFromRam : List ℕ → (madr : ℕ) → Result Plan DmaFault → Type 0
MovesFromRam ram madr (Ok (plan.Words n back to_ram)) = to_ram ≡ false
MovesFromRam ram madr (Ok plan.List) = (loop_of ram madr ≡ None) × (is_end madr ≡ false)
MovesFromRam ram madr other = ⊥

-- A transfer from main memory is begun. Then only turns and writes occur until no transfer runs, and no write is to an
-- address that remains to be read. The machine is then that after a Dma event with the same registers, followed by the
-- same writes in order. The numbers of the events do not matter.
abbrev pub TurnsAreWhole : Type 0
TurnsAreWhole = (s started ended : Machine) (number other madr bcr chcr : ℕ) (events : List Event)
    → MovesFromRam s.ram madr (plan_of bcr chcr)
    → after_events s number (event.Begin madr bcr chcr ∷ []) ≡ Ok started
    → AreApart started events
    → after_events started (number + 1) events ≡ Ok ended → ended.running ≡ run.Idle
    → after_events s other (event.Dma 2 madr bcr chcr ∷ writes_of events) ≡ Ok ended
