use Rattle.std.proofs.Common.{map, refl}
use Rattle.capture_flat.proofs.Translating.{translated}
use Rattle.capture_flat.proofs.whole.flatten.Goals as goal

pub returns-clause-ends : goal.returns-clause-ends
returns-clause-ends g c = λ s stands.
    let ends = c.pass_all.ensures.ends (record {
      machine = s;
      heard = map g.T.Listener.heard c.args.flattening.now.taps.now.items;
      steps = c.args.flattening.now.steps.now;
    }) (record { rig = stands; played = c.requires; heard = refl; steps = refl }) in
    rw c.flat_ending.ensures
    (translated _ ends.0 _ _ _ _ _ _ c.pass_all.result c.new-reader.ensures.start ends.1)
