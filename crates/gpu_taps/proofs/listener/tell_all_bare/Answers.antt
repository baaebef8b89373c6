use Rattle.std.proofs.Common.{◌<◌, length, arith, length-set, ◌∙◌}
use Rattle.gpu_taps.proofs.Told.{rest_set, told_set}
use Rattle.gpu_taps.proofs.listener.tell_all_bare.Goals as goal

pub loop-k-preserved : goal.loop-k-preserved
loop-k-preserved g c =
    let inv = c.loop-k.invariant in
    let xs = c.loop-k.taps.items in
    let olds = c.args.taps.now.items in
    let within : c.loop-k.k < length xs = omega (arith, inv.len) in
    record {
      len = length-set _ _ _ ∙ inv.len;
      told = told_set xs olds c.loop-k.k c.index_mut.result.now c.tell_bare.new.self within c.index_mut.ensures.value
          inv.rest _ _ inv.len c.tell_bare.ensures inv.told;
      rest = rest_set xs olds c.loop-k.k c.index_mut.result.now c.tell_bare.new.self within c.index_mut.ensures.value
          inv.rest;
    }
