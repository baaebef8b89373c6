use Rattle.std.proofs.Common.{List, ℕ, length, ap, refl, subst, ◌∙◌, arith}
use Rattle.psxgpu_c.specs.Shown.{StandsInFront}
use Rattle.psxgpu_c.specs.Whole.{at_end}
use Rattle.psxgpu_c.specs.declared.ended.Ended.{Ended}
use Rattle.psxgpu_c.proofs.Starts.{plays_in_room}
use Rattle.psxgpu_c.proofs.run.play_over.Goals as goal

pub put_all-requires : goal.put_all-requires
put_all-requires c =
    let now = c.play_to.new.out in
    let bounds = c.bytes-bytes.ensures.bounds in
    let both = plays_in_room c.args.mode c.args.capture.now (length c.args.out.now) c.in-Ok.sink now
    c.in-Some.end (record (at_end c.in-Some.end) { written = length now.held }) c.in-Ok.ensures c.in-Some.ensures
    bounds refl in
    let long = ap length c.bytes-bytes.ensures.value in
    omega (arith, bounds.fits, both.1, long)

pub returns : goal.returns
returns c =
    let now = c.play_to.new.out in
    let value = c.bytes-bytes.ensures.value in
    let Front : List ℕ → Type 0 = λ bytes. StandsInFront bytes c.args.out.now c.put_all.new.out in
    let told_of : List ℕ → Ended = λ bytes. record (at_end c.in-Some.end) { written = length bytes } in
    let both = plays_in_room c.args.mode c.args.capture.now (length c.args.out.now) c.in-Ok.sink now
    c.in-Some.end c.told.result c.in-Ok.ensures c.in-Some.ensures c.bytes-bytes.ensures.bounds
    (c.told.ensures ∙ ap told_of value) in
    record { held = now.held; plays = both.0; front = subst Front value c.put_all.ensures }
