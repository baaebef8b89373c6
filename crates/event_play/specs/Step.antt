-- One event, the atomic step of the machine.
use Rattle.std.specs.Prelude.{ℕ, List, [], ◌∷◌, Option, None, Some, Result, Ok, Err}
use Rattle.gp0_packets.specs.declared.note.Note.{Note}
use Rattle.gpu_capture.specs.declared.event.Event.{Event}
use Rattle.gpu_core.specs.Machine.{State, first_state, tall_state, after_gp1, after_read, read_word, status_word}
use Rattle.gpu_core.specs.Cost.{read_cost, read_box_cost}
use Rattle.list_dma.specs.Node.{node_words}
use Rattle.list_dma.specs.Walk.{list_words}
use Rattle.list_dma.specs.declared.run.Run.{Run}
use Rattle.list_dma.specs.declared.run.Run.TheVariants as run
use Rattle.ot_clear_dma.specs.Ram.{set, first_memory}
use Rattle.ot_clear_dma.specs.Table.{cleared_table}
use Rattle.event_play.specs.Block.{block_words}
use Rattle.event_play.specs.Fed.{fed, fed_notes, fed_cost, fed_box_cost}
use Rattle.event_play.specs.Taken.{taken}
use Rattle.event_play.specs.Operation.{operation_of}
use Rattle.event_play.specs.declared.fault.EventFault.{EventFault}
use Rattle.event_play.specs.declared.operation.Operation.{Operation}
use Rattle.event_play.specs.declared.operation.Operation.TheVariants as operation
use Rattle.event_play.specs.declared.operation.Words.{Words}
use Rattle.event_play.specs.declared.operation.Words.TheVariants as words

-- the GPU, main memory, and the running transfer
pub record Machine : Type 0 where
  pub gpu : State
  pub ram : List ℕ
  pub running : Run

-- zeros in both memories, the registers after a reset, and no running transfer
unfoldable pub first_machine : Machine
first_machine = record { gpu = first_state; ram = first_memory; running = run.Idle }

-- the machine with 1024 rows of video memory; everything else stays
abbrev pub tall_machine : Machine → Machine
tall_machine s = record s { gpu = tall_state s.gpu }

-- ---- one operation

-- the words that are fed, read from main memory
abbrev pub words_of : List ℕ → Words → List ℕ
words_of ram (words.One word) = word ∷ []
words_of ram (words.Block block) = block_words ram block
words_of ram (words.Node node) = node_words ram node
words_of ram (words.List start) = list_words ram start

-- the machine after an event, the word that it shows, and the notes of the items that it completed
pub record Stepped : Type 0 where
  pub machine : Machine
  pub shown : Option ℕ
  pub notes : List Note

-- a step without a shown word or a note
abbrev pub quiet : Machine → Stepped
quiet s = record { machine = s; shown = None; notes = [] }

-- a step that shows this word, if any, and has these notes
abbrev pub showing : Machine → (shown : Option ℕ) → List Note → Stepped
showing machine shown notes = record { machine = machine; shown = shown; notes = notes }

-- the step that an operation makes in event `number`
abbrev pub done : Machine → (number : ℕ) → Operation → Stepped
done s number operation.Nothing = quiet s
done s number (operation.Put address word) = quiet (record s { ram = set s.ram address word })
done s number (operation.Feed asked next) = record {
  machine = record { gpu = fed s.gpu (words_of s.ram asked); ram = s.ram; running = next };
  shown = None;
  notes = fed_notes s.gpu number (words_of s.ram asked);
}
done s number (operation.Take block next) =
    let after = taken block s.gpu s.ram in quiet (record { gpu = after.gpu; ram = after.ram; running = next })
done s number (operation.Control word) = quiet (record s { gpu = after_gp1 s.gpu word })
done s number operation.Read = record {
  machine = record s { gpu = after_read s.gpu };
  shown = Some (read_word s.gpu);
  notes = [];
}
done s number operation.Skip = quiet (record s { gpu = after_read s.gpu })
done s number operation.Stat = record { machine = s; shown = Some (status_word s.gpu); notes = [] }
done s number (operation.Clear madr n) = quiet (record s { ram = cleared_table s.ram madr n })
done s number (operation.Begin next) = quiet (record s { running = next })

-- the most store steps of an operation: those of the words that it feeds, or of its reads
abbrev pub operation_cost : Machine → Operation → ℕ
operation_cost s (operation.Feed asked next) = fed_cost s.gpu (words_of s.ram asked)
operation_cost s (operation.Take block next) = (taken block s.gpu s.ram).cost
operation_cost s operation.Read = read_cost s.gpu
operation_cost s operation.Skip = read_cost s.gpu
operation_cost s other = 0

-- the same by the boxes
abbrev pub operation_box_cost : Machine → Operation → ℕ
operation_box_cost s (operation.Feed asked next) = fed_box_cost s.gpu (words_of s.ram asked)
operation_box_cost s (operation.Take block next) = (taken block s.gpu s.ram).box_cost
operation_box_cost s operation.Read = read_box_cost s.gpu
operation_box_cost s operation.Skip = read_box_cost s.gpu
operation_box_cost s other = 0

-- ---- one event

abbrev pub stepped : Machine → (number : ℕ) → Result Operation EventFault → Result Stepped EventFault
stepped s number (Ok asked) = Ok (done s number asked)
stepped s number (Err fault) = Err fault

abbrev pub step_cost : Machine → Result Operation EventFault → ℕ
step_cost s (Ok asked) = operation_cost s asked
step_cost s (Err fault) = 0

abbrev pub step_box_cost : Machine → Result Operation EventFault → ℕ
step_box_cost s (Ok asked) = operation_box_cost s asked
step_box_cost s (Err fault) = 0

-- the step of event `number`, or its fault; a fault has no new machine
unfoldable pub event_step : Machine → (number : ℕ) → Event → Result Stepped EventFault
event_step s number event = stepped s number (operation_of s.ram s.running event)

-- the most store steps of an event
unfoldable pub event_cost : Machine → Event → ℕ
event_cost s event = step_cost s (operation_of s.ram s.running event)

-- the same by the boxes: four for each cell in the box of what is drawn, filled or copied, and for each pixel loaded or
-- read
unfoldable pub event_box_cost : Machine → Event → ℕ
event_box_cost s event = step_box_cost s (operation_of s.ram s.running event)

-- ---- the words of an event

abbrev pub asked_words : List ℕ → Result Operation EventFault → List ℕ
asked_words ram (Ok (operation.Feed asked next)) = words_of ram asked
asked_words ram other = []

-- the words that an event feeds: one for Gp0, and those that a transfer from main memory moves
abbrev pub event_words : Machine → Event → List ℕ
event_words s event = asked_words s.ram (operation_of s.ram s.running event)
