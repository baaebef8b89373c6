use Rattle.std.proofs.Common.{refl}
use Rattle.edge_walk.proofs.SideLemmas.{moved_with}
use Rattle.edge_walk.proofs.edge_stepper.EdgeStepper.step.Goals as goal

pub returns : goal.returns
returns c p q y near reach h = moved_with p q y c.args.self.now _ near reach h refl
