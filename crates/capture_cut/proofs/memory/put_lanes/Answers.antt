use Rattle.std.proofs.Common.{refl, arith}
use Rattle.capture_cut.proofs.Words.{put_on, lanes_whole}
use Rattle.capture_cut.proofs.memory.put_lanes.Goals as goal

pub loop-j-preserved : goal.loop-j-preserved
loop-j-preserved c =
    put_on c.args.lanes.now c.loop-j.words c.loop-j.j _ c.loop-j.invariant refl
    (omega (arith, c.loop-j-test.true, c.loop-j.auto.words, c.requires))
    (omega (arith, c.loop-j-test.true, c.told-lanes))

pub returns-clause-lanes : goal.returns-clause-lanes
returns-clause-lanes c =
    lanes_whole c.args.lanes.now c.loop-j.words c.loop-j.j c.loop-j.invariant
    (omega (arith, c.loop-j-test.false, c.loop-j.auto.j-end)) (omega (arith, c.loop-j.auto.words, c.requires))
    c.told-lanes
