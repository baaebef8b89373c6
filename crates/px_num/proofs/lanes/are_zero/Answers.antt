use Rattle.std.proofs.Common.{◌∙◌, sym, refl, replicate}
use Rattle.std.proofs.lemmas.Simd.{get_or-replicate}
use Rattle.px_num.proofs.SameLemmas.{same_lanes, all_lanes}
use Rattle.px_num.proofs.lanes.are_zero.Goals as goal

pub returns : goal.returns
returns c = (
  λ h i lt. same_lanes c.args.a (replicate 16 0) c.requires refl h i lt ∙ get_or-replicate 16 i 0 0 lt,
  λ each. all_lanes c.args.a (replicate 16 0) c.requires refl (λ i lt. each i lt ∙ sym (get_or-replicate 16 i 0 0 lt)),
)
