use Rattle.gpu_core.proofs.Feeds.{set_none, set_more}
use Rattle.gpu_core.proofs.Link.{environment-keeps}
use Rattle.std.proofs.Common.{◌≡◌, ℕ, take, length, refl, ap, subst, ◌∙◌, arith}
use Rattle.gpu_core.specs.Feeds.{SetsRegisters}
use Rattle.gpu_core.specs.Machine.{Parts}
use Rattle.gpu_core.proofs.gpu.block.set_all.Goals as goal

pub loop-i-init : goal.loop-i-init
loop-i-init c = record { load = refl; sets = λ s first e. set_none s first _ e }

pub loop-i-preserved : goal.loop-i-preserved
loop-i-preserved c = record {
  load = ap (λ (p : Parts). p.load) c.set_register.ensures ∙ environment-keeps _ _ ∙ c.loop-i.invariant.load;
  sets = λ s first e.
      set_more s first c.args.words.now c.loop-i.i c.loop-i.parts c.set_register.new.self c.args.splitter.now
      c.loop-i-test.true
      (c.loop-i.invariant.sets s first e)
      (c.passes.ensures.packet c.if-not-passes.false)
      (c.passes.ensures.class c.if-not-passes.false) c.set_register.ensures;
}

pub returns-clause-sets : goal.returns-clause-sets
returns-clause-sets c = λ s first e.
    let words = c.args.words.now in
    let end : c.loop-i.i ≡ length words = omega arith in
    let P : ℕ → Type 0 = λ n. SetsRegisters s first (take n words)
    (record { parts = c.loop-i.parts; pending = c.args.splitter.now }) in
    subst P end (c.loop-i.invariant.sets s first e)
