use Rattle.std.proofs.Common.{◌≡◌, Bool, false, IsTrue, List, ℕ, length, ap, subst, sym, true≢false, ◌∙◌}
use Rattle.psxgpu_c.specs.Whole.{Keeps, at_end}
use Rattle.psxgpu_c.specs.declared.ended.Ended.{Ended}
use Rattle.psxgpu_c.proofs.Starts.{plays_accepted}
use Rattle.psxgpu_c.proofs.run.play_kept.Goals as goal

not_both : (b : Bool) → IsTrue b → b ≡ false → ⊥
not_both b is isnt = true≢false (sym is ∙ isnt)

pub returns : goal.returns
returns c =
    let now = c.play_to.new.out in
    let output = c.into_output-output in
    let Of : List ℕ → Type 0 = λ held. Keeps c.args.mode c.args.capture.now held c.told.result in
    let told_of : ℕ → Ended = λ n. record (at_end c.in-Some.end) { written = n } in
    subst Of (sym output.ensures) (plays_accepted c.args.mode c.args.capture.now (λ _. ⊥) c.new-sink.result
    now c.in-Some.end c.told.result c.new-sink.ensures c.in-Some.ensures
    (λ writes rose. not_both c.write_failed.result (c.write_failed.ensures.1 writes) c.if-write_failed.false)
    (c.told.ensures ∙ ap told_of (c.len-written.ensures ∙ ap length output.ensures)))
