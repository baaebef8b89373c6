-- Some lists of events.
use Rattle.std.specs.Prelude.{List, [], ◌∷◌}
use Rattle.gpu_capture.specs.declared.event.Event.{Event}
use Rattle.gpu_capture.specs.declared.event.Event.TheVariants.{Gp0}

-- a rectangle, an event, and a fill over the rectangle
abbrev pub rectangle_then : Event → List Event
rectangle_then e =
    Gp0 0xe407ffff ∷ Gp0 0x600000ff ∷ Gp0 0x00000004 ∷ Gp0 0x00020002 ∷ e
    ∷ Gp0 0x02000000 ∷ Gp0 0 ∷ Gp0 0x00080010 ∷ []

-- the same without the rectangle
abbrev pub nothing_then : Event → List Event
nothing_then e = Gp0 0xe407ffff ∷ e ∷ Gp0 0x02000000 ∷ Gp0 0 ∷ Gp0 0x00080010 ∷ []
