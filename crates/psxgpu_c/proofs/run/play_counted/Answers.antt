use Rattle.std.proofs.Common.{◌≡◌, ◌-◌, ◌^◌, List, ℕ, length, ap, sym, ◌∙◌, arith}
use Rattle.psxgpu_c.specs.Whole.{at_end}
use Rattle.psxgpu_c.specs.declared.ended.Ended.{Ended}
use Rattle.psxgpu_c.proofs.Starts.{plays_accepted}
use Rattle.psxgpu_c.proofs.run.play_counted.Goals as goal

pub returns : goal.returns
returns c =
    let now = c.play_to.new.out in
    let count = c.count.ensures in
    let Full : List ℕ → Type 0 = λ held. length held ≡ 2 ^ 64 - 1 in
    let told_of : ℕ → Ended = λ n. record (at_end c.in-Some.end) { written = n } in
    record {
      held = now.held;
      plays = plays_accepted c.args.mode c.args.capture.now Full c.new-sink.result now c.in-Some.end
          c.told.result c.new-sink.ensures c.in-Some.ensures
          (λ writes rose. sym count.value ∙ count.full (omega (arith, rose)))
          (c.told.ensures ∙ ap told_of count.value);
    }
