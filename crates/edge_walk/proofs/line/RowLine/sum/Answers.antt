use Rattle.std.proofs.Common.{◌*◌, ◌^◌}
use Rattle.std.proofs.Math.Nat.{add-mod-mod}
use Rattle.edge_walk.proofs.line.RowLine.sum.Goals as goal

pub returns : goal.returns
returns c = add-mod-mod c.args.self.now.first (c.args.self.now.step * c.args.i) (2 ^ 64)
