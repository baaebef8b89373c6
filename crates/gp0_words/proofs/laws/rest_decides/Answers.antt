use Rattle.std.proofs.Common.{subst}
use Rattle.gp0_words.specs.Next.{IsPending}
use Rattle.gp0_words.specs.Resuming.{list_of}
use Rattle.gp0_words.proofs.Cut.{items_of-push, pending_behind-push}
use Rattle.gp0_words.proofs.Resume.{list_of-leaves, leaves-kept}
use Rattle.gp0_words.proofs.laws.rest_decides.Goals as goal

pub returns-clause-bounds : goal.returns-clause-bounds
returns-clause-bounds c =
    λ p. (λ kept. (list_of p, list_of-leaves p kept), λ left. subst IsPending left.1 (leaves-kept left.0))

pub returns-clause-decides : goal.returns-clause-decides
returns-clause-decides c = λ words word. (items_of-push words word, pending_behind-push words word)
