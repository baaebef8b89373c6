-- The output of events, one after another (our own rule).
use Rattle.std.specs.Prelude.{List, [], ◌∷◌, ◌++◌}
use Rattle.gathered_out.specs.Pieces.{Piece}
use Rattle.gpu_capture.specs.declared.event.Event.{Event}

-- the output of an event, by the events before it
abbrev pub Dues : Type 0
Dues = List Event → Event → List Piece

-- the output of events that follow others
abbrev pub pieces_after : Dues → (before : List Event) → List Event → List Piece
pieces_after due before [] = []
pieces_after due before (event ∷ events) = due before event ++ pieces_after due (before ++ event ∷ []) events

-- all output of events
abbrev pub pieces : Dues → List Event → List Piece
pieces due events = pieces_after due [] events
