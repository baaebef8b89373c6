use Rattle.std.proofs.Common.{◌<◌, length, arith, length-set, ◌∙◌}
use Rattle.gpu_taps.proofs.Told.{rest_set, told_set}
use Rattle.gpu_taps.proofs.listener.tell_all.Goals as goal

pub loop-i-preserved : goal.loop-i-preserved
loop-i-preserved g c =
    let inv = c.loop-i.invariant in
    let xs = c.loop-i.taps.items in
    let olds = c.args.taps.now.items in
    let within : c.loop-i.i < length xs = omega (arith, inv.len) in
    record {
      len = length-set _ _ _ ∙ inv.len;
      told = told_set xs olds c.loop-i.i c.index_mut.result.now c.tell.new.self within c.index_mut.ensures.value
          inv.rest _ _ inv.len c.tell.ensures inv.told;
      rest = rest_set xs olds c.loop-i.i c.index_mut.result.now c.tell.new.self within c.index_mut.ensures.value
          inv.rest;
    }
