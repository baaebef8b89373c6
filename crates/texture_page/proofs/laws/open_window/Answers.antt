use Rattle.std.proofs.Common.{◌*◌, ◌%◌, ◌^◌, ◌≡◌, ◌∙◌, ap, arith}
use lib.Bits.{bit_and, bit_or, or_zero_r}
use Rattle.std.proofs.lemmas.Nat.{and_mask}
use Rattle.texture_page.specs.Page.{windowed}
use Rattle.texture_page.proofs.laws.open_window.Goals as goal

pub returns : goal.returns
unfolding windowed
returns c off u low =
    let none : off % 2 ^ 0 * 8 ≡ 0 = omega arith in
    let all : u % 2 ^ 8 ≡ u = omega arith in
    ap (bit_or (bit_and u 255)) (ap (λ n. n * 8) (and_mask off 0) ∙ none) ∙ or_zero_r (bit_and u 255) ∙ and_mask u 8
    ∙ all
