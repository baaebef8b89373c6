-- The law of one event in two states that agree except in the cells of an area.
use Rattle.std.specs.Prelude.{◌≡◌, ℕ, ◌%◌, Option, length}
use Rattle.px_num.specs.declared.shape.Box2.{Box2}
use Rattle.gpu_capture.specs.declared.event.Event.{Event}
use Rattle.gpu_capture.specs.declared.event.Event.TheVariants.{Gp0}
use Rattle.gpu_core.specs.Machine.{State}
use Rattle.prim_draw.specs.Apart.{IsIn}
use Rattle.dead_drawing.specs.Calm.{IsCalmAt}
use Rattle.dead_drawing.specs.OnePacket.{Covers}
use Rattle.dead_drawing.specs.Run.{after, shown_at}
use Rattle.dead_drawing.specs.States.{Alike, Same}

-- Two states that agree outside of an area still do after the same event, if it reads no other cells. It shows the same
-- words in both.
abbrev pub CalmEventsKeepAlike : Type 0
CalmEventsKeepAlike = (area : Option Box2) (s t : State) (e : Event) → IsCalmAt s e → Alike (IsIn area) s t
    → Alike (IsIn area) (after s e) (after t e) × (shown_at t e ≡ shown_at s e)

-- After a fill that covers the area, the two states are the same. Video memory must have whole rows.
abbrev pub FillsMakeSame : Type 0
FillsMakeSame = (area : Option Box2) (s t : State) (word : ℕ) → Covers s word area → length s.parts.m % 1024 ≡ 0
    → Alike (IsIn area) s t → Same (after s (Gp0 word)) (after t (Gp0 word))
