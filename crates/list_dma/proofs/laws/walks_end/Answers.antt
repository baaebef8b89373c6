use Rattle.std.proofs.Common.{arith}
use Rattle.list_dma.specs.Walk.{loop_of, walk_of}
use Rattle.list_dma.proofs.Bound.{walk_ends, chain_stays}
use Rattle.list_dma.proofs.laws.walks_end.Goals as goal

pub returns-clause-most : goal.returns-clause-most
unfolding loop_of walk_of
returns-clause-most c = λ ram start none. walk_ends ram start 524289 524288 none (omega arith)

pub returns-clause-whole : goal.returns-clause-whole
unfolding loop_of walk_of
returns-clause-whole c = λ ram start n none large.
    let most = walk_ends ram start 524289 524288 none (omega arith) in
    chain_stays ram start 524289 n (omega (arith, most)) large
