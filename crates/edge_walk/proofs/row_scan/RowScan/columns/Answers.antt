use Rattle.edge_walk.proofs.WalkLemmas.{columns_are}
use Rattle.edge_walk.proofs.row_scan.RowScan.columns.Goals as goal

pub returns : goal.returns
returns c t clip x y h = columns_are t clip x y c.args.self.now h c.left-ends.result c.left-ends.ensures
