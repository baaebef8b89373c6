use Rattle.std.proofs.Common.{ap, ◌∙◌}
use Rattle.gpu_core.specs.Machine.{is_idle}
use Rattle.gpu_core.proofs.States.{idle_is}
use Rattle.dead_drawing.specs.Control.{Control}
use Rattle.capture_slim.proofs.track.Track.is_idle.Goals as goal

pub returns : goal.returns
returns c = idle_is c.is_idle.result c.self.inside.splitter c.is_idle.ensures
    ∙ ap (λ (k : Control). is_idle k.pending) c.self.view_is
