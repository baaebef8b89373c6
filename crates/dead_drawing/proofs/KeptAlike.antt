-- The law of one event.
use Rattle.dead_drawing.specs.OneEvent.{CalmEventsKeepAlike, FillsMakeSame}
use Rattle.prim_draw.specs.Apart.{IsIn}
use Rattle.dead_drawing.specs.Run.{after}
use Rattle.dead_drawing.proofs.Events.{event_alike, shown_alike}
use Rattle.dead_drawing.proofs.PacketLaw.{covers_same}

pub calm_law : CalmEventsKeepAlike
calm_law area s t e calm h = (event_alike (IsIn area) s t e calm h, shown_alike (IsIn area) s t e calm h)

pub fill_law : FillsMakeSame
unfolding after
fill_law area s t word covers whole h = covers_same s t word area covers whole h
