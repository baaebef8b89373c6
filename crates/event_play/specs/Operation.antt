-- The operation of an event, or its fault.
use Rattle.std.specs.Prelude.{◌≤◌, ℕ, ◌-◌, ◌%◌, ◌^◌, ◌==◌, Bool, min, List, Option, None, Some, Result, Ok, Err}
use Rattle.std.specs.Prelude.{if◌then◌else◌}
use Rattle.gpu_capture.specs.declared.event.Event.{Event}
use Rattle.gpu_capture.specs.declared.event.Event.TheVariants as event
use Rattle.list_dma.specs.Node.{next_of, node_of}
use Rattle.list_dma.specs.Plans.{plan_of, begun, count_of, is_started, IsRun}
use Rattle.list_dma.specs.Walk.{loop_of}
use Rattle.list_dma.specs.declared.plan.DmaFault.{DmaFault}
use Rattle.list_dma.specs.declared.plan.DmaFault.TheVariants as dma_fault
use Rattle.list_dma.specs.declared.plan.Plan.{Plan}
use Rattle.list_dma.specs.declared.plan.Plan.TheVariants as plan
use Rattle.list_dma.specs.declared.run.Run.{Run}
use Rattle.list_dma.specs.declared.run.Run.TheVariants as run
use Rattle.event_play.specs.Block.{address_in, IsBlock}
use Rattle.event_play.specs.declared.block.Block.{Block}
use Rattle.event_play.specs.declared.fault.EventFault.{EventFault}
use Rattle.event_play.specs.declared.fault.EventFault.TheVariants.{BadDma, DmaTooLong, ListLoop}
use Rattle.event_play.specs.declared.operation.Operation.{Operation}
use Rattle.event_play.specs.declared.operation.Operation.TheVariants as operation
use Rattle.event_play.specs.declared.operation.Words.{Words}
use Rattle.event_play.specs.declared.operation.Words.TheVariants as words

-- a block is moved to main memory or from it; then this transfer runs
abbrev pub move_operation : Block → (to_ram : Bool) → Run → Operation
move_operation block to_ram next = if to_ram then operation.Take block next else operation.Feed (words.Block block) next

abbrev pub fault_of : DmaFault → EventFault
fault_of dma_fault.Bad = BadDma
fault_of (dma_fault.TooLong words) = DmaTooLong words

-- ---- channel 6

-- A start with bit 24 of CHCR set clears a table. The low half of BCR is its number of words, with 0 for 10000h.
abbrev pub clear_operation : (madr bcr chcr : ℕ) → Operation
clear_operation madr bcr chcr =
    if is_started chcr then operation.Clear madr (count_of (bcr % 2 ^ 16)) else operation.Nothing

-- ---- channel 2

-- A list is fed whole, unless its walk reaches an address again.
abbrev pub list_operation : (madr : ℕ) → Option ℕ → Result Operation EventFault
list_operation madr None = Ok (operation.Feed (words.List madr) run.Idle)
list_operation madr (Some node) = Err (ListLoop node)

-- a start that moves everything at once and leaves no transfer running
abbrev pub start_operation : List ℕ → (madr : ℕ) → Result Plan DmaFault → Result Operation EventFault
start_operation ram madr (Ok plan.Idle) = Ok operation.Nothing
start_operation ram madr (Ok (plan.Words n back to_ram)) =
    Ok (move_operation (record { at = madr; n = n; back = back }) to_ram run.Idle)
start_operation ram madr (Ok plan.List) = list_operation madr (loop_of ram madr)
start_operation ram madr (Err why) = Err (fault_of why)

-- a start that moves nothing yet; its list need not end
abbrev pub begin_operation : Result (Option Run) DmaFault → Result Operation EventFault
begin_operation (Ok None) = Ok operation.Nothing
begin_operation (Ok (Some next)) = Ok (operation.Begin next)
begin_operation (Err why) = Err (fault_of why)

-- ---- turns

-- the rest of a transfer of words, if any word is left
abbrev pub words_left : (at left block : ℕ) → (back to_ram : Bool) → Run
words_left at left block back to_ram = if left == 0 then run.Idle else run.Words at left block back to_ram

-- the rest of a list, from this node on
abbrev pub list_left : Option ℕ → Run
list_left None = run.Idle
list_left (Some node) = run.List node

-- A turn moves one block, or the rest if that is shorter; or the words of one node, whose header is read now.
abbrev pub turn_operation : List ℕ → Run → Operation
turn_operation ram run.Idle = operation.Nothing
turn_operation ram (run.Words at left block back to_ram) =
    let turn : Block = record { at = at; n = min block left; back = back } in
    move_operation turn to_ram (words_left (address_in turn turn.n) (left - turn.n) block back to_ram)
turn_operation ram (run.List node) = operation.Feed (words.Node node) (list_left (node_of (next_of ram node)))

-- ---- every event

-- the operation of an event, by main memory and the running transfer
abbrev pub operation_of : List ℕ → Run → Event → Result Operation EventFault
operation_of ram running (event.Ram address word) = Ok (operation.Put address word)
operation_of ram running (event.Gp0 word) = Ok (operation.Feed (words.One word) running)
operation_of ram running (event.Gp1 word) = Ok (operation.Control word)
operation_of ram running event.Read = Ok operation.Read
operation_of ram running event.Skip = Ok operation.Skip
operation_of ram running event.Stat = Ok operation.Stat
operation_of ram running (event.Dma channel madr bcr chcr) =
    if channel == 6 then Ok (clear_operation madr bcr chcr) else start_operation ram madr (plan_of bcr chcr)
operation_of ram running (event.Begin madr bcr chcr) = begin_operation (begun madr bcr chcr (plan_of bcr chcr))
operation_of ram running event.Turn = Ok (turn_operation ram running)

-- ---- bounds

-- the bounds of words that an operation feeds
abbrev pub AreWords : Words → Type 0
AreWords (words.One word) = Unit {0}
AreWords (words.Block block) = IsBlock block
AreWords (words.Node node) = node ≤ 2 ^ 21
AreWords (words.List start) = Unit {0}

-- the bounds of every operation of an event
abbrev pub IsOperation : Operation → Type 0
IsOperation operation.Nothing = Unit {0}
IsOperation (operation.Put address word) = Unit {0}
IsOperation (operation.Feed fed next) = AreWords fed × IsRun next
IsOperation (operation.Take block next) = IsBlock block × IsRun next
IsOperation (operation.Control word) = Unit {0}
IsOperation operation.Read = Unit {0}
IsOperation operation.Skip = Unit {0}
IsOperation operation.Stat = Unit {0}
IsOperation (operation.Clear madr n) = (1 ≤ n) × (n ≤ 2 ^ 16)
IsOperation (operation.Begin next) = IsRun next

-- ---- operations without words

abbrev pub FeedsNoWord : Operation → Type 0
FeedsNoWord (operation.Feed fed next) = ⊥
FeedsNoWord other = Unit {0}
