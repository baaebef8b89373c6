-- An event writes GP1 exactly if its operation is a GP1 write.
use Rattle.std.proofs.Common.{◌≡◌, ℕ, ◌==◌, ◌^◌, ◌%◌, Bool, true, false, List, [], ◌∷◌, map, if◌then◌else◌}
use Rattle.std.proofs.Common.{Option, None, Some, Result, Ok, Err, refl, ap, ◌∙◌}
use Rattle.gpu_capture.specs.declared.event.Event.{Event}
use Rattle.gpu_capture.specs.declared.event.Event.TheVariants as event
use Rattle.gpu_core.specs.Machine.{Parts}
use Rattle.list_dma.specs.Plans.{plan_of, begun, is_started, count_of}
use Rattle.list_dma.specs.Walk.{loop_of}
use Rattle.list_dma.specs.declared.plan.DmaFault.{DmaFault}
use Rattle.list_dma.specs.declared.plan.Plan.{Plan}
use Rattle.list_dma.specs.declared.plan.Plan.TheVariants as plan
use Rattle.list_dma.specs.declared.run.Run.{Run}
use Rattle.list_dma.specs.declared.run.Run.TheVariants as run
use Rattle.event_play.specs.Frames.{frames_after}
use Rattle.event_play.specs.Operation.{operation_of, move_operation, clear_operation, list_operation, start_operation}
use Rattle.event_play.specs.Operation.{begin_operation, turn_operation}
use Rattle.event_play.specs.declared.block.Block.{Block}
use Rattle.event_play.specs.declared.fault.EventFault.{EventFault}
use Rattle.event_play.specs.declared.operation.Operation.{Operation}
use Rattle.event_play.specs.declared.operation.Operation.TheVariants as operation
use Rattle.capture_flat.specs.Film.{bare_frame}

-- the frames that an operation adds, without event numbers
abbrev pub frames_of : Operation → Parts → List (ℕ × Parts)
frames_of (operation.Control word) parts = (word, parts) ∷ []
frames_of other parts = []

abbrev asked_frames : Result Operation EventFault → Parts → List (ℕ × Parts)
asked_frames (Ok asked) parts = frames_of asked parts
asked_frames (Err fault) parts = []

module _ (parts : Parts) where
  none_moved : (block : Block) (to_ram : Bool) (next : Run) → [] ≡ frames_of (move_operation block to_ram next) parts
  none_moved block true next = refl
  none_moved block false next = refl

  none_listed : (madr : ℕ) (node : Option ℕ) → [] ≡ asked_frames (list_operation madr node) parts
  none_listed madr None = refl
  none_listed madr (Some node) = refl

  none_started : (ram : List ℕ) (madr : ℕ) (asked : Result Plan DmaFault)
      → [] ≡ asked_frames (start_operation ram madr asked) parts
  none_started ram madr (Ok plan.Idle) = refl
  none_started ram madr (Ok (plan.Words n back to_ram)) = none_moved _ to_ram _
  none_started ram madr (Ok plan.List) = none_listed madr (loop_of ram madr)
  none_started ram madr (Err why) = refl

  none_cleared : (madr n : ℕ) (is_due : Bool)
      → [] ≡ frames_of (if is_due then operation.Clear madr n else operation.Nothing) parts
  none_cleared madr n true = refl
  none_cleared madr n false = refl

  none_sent : (cleared : Operation) (started : Result Operation EventFault) (is_clear : Bool)
      → [] ≡ frames_of cleared parts
      → [] ≡ asked_frames started parts
      → [] ≡ asked_frames (if is_clear then Ok cleared else started) parts
  none_sent cleared started true clear start = clear
  none_sent cleared started false clear start = start

  none_begun : (asked : Result (Option Run) DmaFault) → [] ≡ asked_frames (begin_operation asked) parts
  none_begun (Ok None) = refl
  none_begun (Ok (Some next)) = refl
  none_begun (Err why) = refl

  none_turned : (ram : List ℕ) (running : Run) → [] ≡ frames_of (turn_operation ram running) parts
  none_turned ram run.Idle = refl
  none_turned ram (run.Words at left block back to_ram) = none_moved _ to_ram _
  none_turned ram (run.List node) = refl

  frames_by : (ram : List ℕ) (running : Run) (given : Event) (n : ℕ)
      → map bare_frame (frames_after given n parts) ≡ asked_frames (operation_of ram running given) parts
  frames_by ram running (event.Ram address word) n = refl
  frames_by ram running (event.Gp0 word) n = refl
  frames_by ram running (event.Gp1 word) n = refl
  frames_by ram running event.Read n = refl
  frames_by ram running event.Skip n = refl
  frames_by ram running event.Stat n = refl
  frames_by ram running (event.Dma channel madr bcr chcr) n =
      none_sent (clear_operation madr bcr chcr) (start_operation ram madr (plan_of bcr chcr)) (channel == 6)
      (none_cleared madr (count_of (bcr % 2 ^ 16)) (is_started chcr)) (none_started ram madr (plan_of bcr chcr))
  frames_by ram running (event.Begin madr bcr chcr) n = none_begun (begun madr bcr chcr (plan_of bcr chcr))
  frames_by ram running event.Turn n = none_turned ram running

-- the frames of an event, without event numbers, by its operation
pub frames_are : (ram : List ℕ) (running : Run) (given : Event) (asked : Operation) (n : ℕ) (parts : Parts)
    → operation_of ram running given ≡ Ok asked
    → map bare_frame (frames_after given n parts) ≡ frames_of asked parts
frames_are ram running given asked n parts is =
    frames_by parts ram running given n ∙ ap (λ r. asked_frames r parts) is
