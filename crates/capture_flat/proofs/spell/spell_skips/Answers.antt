use Rattle.std.proofs.Common.{◌≡◌, arith}
use Rattle.gathered_out.proofs.Puts.{put_none, put_on, put_fails, puts_all}
use Rattle.capture_flat.proofs.Pieces.{skips_more, skips_split}
use Rattle.capture_flat.proofs.spell.spell_skips.Goals as goal

pub loop-i-init : goal.loop-i-init
loop-i-init g c = put_none _ _

pub returns-in-Err : goal.returns-in-Err
returns-in-Err g c = rw (skips_split c.loop-i.i c.args.n c.loop-i-test.true)
    (put_fails _ _ _ _ _ _ _ _ c.loop-i.invariant c.in-Err.ensures)

pub loop-i-preserved : goal.loop-i-preserved
loop-i-preserved g c = rw (skips_more c.loop-i.i)
    (put_on _ _ _ _ _ _ _ c.loop-i.invariant c.in-Ok.ensures)

pub returns : goal.returns
returns g c = let end : c.args.n ≡ c.loop-i.i = omega arith in rw end (puts_all _ _ _ _ c.loop-i.invariant)
