-- The two bounds of store steps compared.
use Rattle.std.specs.Prelude.{◌≤◌, List, ℕ}
use Rattle.gpu_capture.specs.declared.event.Event.{Event}
use Rattle.gpu_capture.specs.declared.event.Stop.{Stop}
use Rattle.event_play.specs.Replay.{Replay, played_events}

-- The box cost is four store steps for each cell of the boxes of what events draw. If the cost of a replay is at most
-- its box cost, this stays so whatever events are played.
abbrev pub CostsAreSmall : Type 0
CostsAreSmall = (first : Replay) (events : List Event) (stop : Stop) (rest : List ℕ) → first.cost ≤ first.box_cost
    → (played_events first events stop rest).replay.cost ≤ (played_events first events stop rest).replay.box_cost
