use Rattle.std.proofs.Common.{◌∙◌, subst, List, ℕ, refl}
use Rattle.sha2.specs.Hashers.{Holds256}
use Rattle.picture_out.specs.Picture.{picture_head}
use Rattle.picture_out.proofs.PictureLemmas.{five_pieces}
use Rattle.picture_out.proofs.sums.after_head.Goals as goal

pub returns : goal.returns
unfolding picture_head
returns c =
    let first = c.new_with_prefix-hasher.ensures in
    let all = c.update-4.ensures _ (c.update-3.ensures _ (c.update-2.ensures _ (c.update.ensures _ first))) in
    let Q : List ℕ → Type 0 = λ message. Holds256 c.update-4.new.self message in
    subst Q (five_pieces c.as_slice.result.now c.decimal_text-width.result.now c.as_slice-2.result.now
    c.decimal_text-lines.result.now c.as_slice-3.result.now
    ∙ rw (
      c.as_slice.ensures,
      c.decimal_text-width.ensures,
      c.as_slice-2.ensures,
      c.decimal_text-lines.ensures,
      c.as_slice-3.ensures,
    ) refl) all
