use Rattle.std.proofs.Common.{ℕ, List, subst, sym}
use Rattle.gp1_status.specs.Words.{AreAllowed, words_of}
use Rattle.gp1_status.proofs.WordsBack.{words-allowed}
use Rattle.px_num.specs.Height.{height_of_profile}
use Rattle.capture_cut.proofs.state.copied.Goals as goal

pub unreachable-requires : goal.unreachable-requires
unreachable-requires c =
    let P : ℕ → Type 0 = λ height. AreAllowed height (words_of c.args.regs.now) in
    let Q : List ℕ → Type 0 = λ words. AreAllowed (height_of_profile c.is_tall.result) words in
    c.in-None.ensures.exact (subst Q (sym c.to_words.ensures) (subst P c.is_tall.ensures
    (words-allowed c.args.regs.now c.keep_widths.ensures.widths c.keep_widths.ensures.latch)))
