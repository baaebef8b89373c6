use Rattle.std.proofs.Common.{arith, ◌*◌, ◌+◌, ◌-◌}
use Rattle.std.proofs.lemmas.Slice.{drop-put_mid}
use Rattle.psxgpu_c.proofs.AlphaLemmas.{alpha_more}
use Rattle.psxgpu_c.proofs.rgba.add_alpha.Goals as goal

pub loop-k-preserved : goal.loop-k-preserved
loop-k-preserved c = record {
  front = alpha_more _ _ _ c.loop-k.k _ c.loop-k.invariant.front c.put_pixel.ensures (omega arith) (omega arith);
  after = rw (drop-put_mid (4 * c.loop-k.k) (4 * c.loop-k.k + 4 - 4 * c.loop-k.k) c.loop-k.out c.put_pixel.new.out
      (4 * c.args.count) (omega arith) (omega arith) (omega arith)) c.loop-k.invariant.after;
}
