use Rattle.std.proofs.Common.{None, sym, inl, inr}
use Rattle.std.proofs.lemmas.Bool.{cases_Bool}
use Rattle.gp0_words.proofs.Pushes.{pushed}
use Rattle.gp0_words.proofs.splitter.Splitter.push_inside.Goals as goal

pub invariant_of-self : goal.invariant_of-self
invariant_of-self c =
    elim (cases_Bool c.extend.result) [
      | inl is ↦
          let taken = c.extend.ensures.taken is in
          (pushed c.self.inside.pending _ c.args.word None c.self.invariant taken.0 (sym taken.1)).bounds.1
      | inr is ↦ rw (c.extend.ensures.others is) c.self.invariant
    ]

pub returns-clause-inside : goal.returns-clause-inside
returns-clause-inside c = λ is.
    let taken = c.extend.ensures.taken is in
    rw (← c.self.view_is) (pushed c.self.inside.pending _ c.args.word None c.self.invariant taken.0 (sym taken.1))
