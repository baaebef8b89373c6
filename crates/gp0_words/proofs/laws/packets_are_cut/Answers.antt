use Rattle.std.proofs.Common.{◌∙◌, sym, ap, append-nil}
use Rattle.gp0_words.specs.Items.{items_of, pending_behind}
use Rattle.gp0_words.proofs.Front.{items_front, rest_front, no_prefix}
use Rattle.gp0_words.proofs.laws.packets_are_cut.Goals as goal

pub returns-clause-cut : goal.returns-clause-cut
unfolding items_of pending_behind
returns-clause-cut c = λ p words h. (
  items_front p words h,
  rest_front p words h,
  ap pending_behind (sym (append-nil p))
      ∙ rest_front p _ h,
)

pub returns-clause-prefix : goal.returns-clause-prefix
returns-clause-prefix c = λ p q a b hp hq e. no_prefix p q a b hp hq e
