use Rattle.std.proofs.Common.{SFits, w32, rules, arith}
use Rattle.std.proofs.lemmas.Int.{to_z-of_z}
use Rattle.edge_walk.proofs.WalkLemmas.{span_of, none_of}
use Rattle.edge_walk.proofs.row_scan.RowScan.next.Goals as goal

pub returns-then-columns-clause-span : goal.returns-then-columns-clause-span
returns-then-columns-clause-span c t clip y rows more =
    none_of t clip y c.args.self.now rows c.columns-columns.result.low c.columns-columns.result.high
    (λ x. c.columns-columns.ensures t clip x y rows) (omega arith)

pub returns-else-columns-clause-span : goal.returns-else-columns-clause-span
returns-else-columns-clause-span c t clip y rows more =
    let first_fits : SFits w32 c.column.result = search rules in
    let last_fits : SFits w32 c.column-2.result = search rules in
    simp to_z-of_z
    (span_of t clip y c.args.self.now rows c.columns-columns.result.low c.columns-columns.result.high
    (λ x. c.columns-columns.ensures t clip x y rows) (omega arith) more _ _ c.column.ensures c.column-2.ensures)
