use Rattle.std.proofs.Common.{◌≡◌, ◌*◌, ◌∙◌, ℕ, List, Some, refl, ap, sym, arith}
use Rattle.gp1_status.specs.Shape.{shape_of}
use Rattle.picture_out.specs.Picture.{display_of, picture_of}
use Rattle.gpu_core.specs.Kept.{Kept}
use Rattle.gpu_core.specs.Machine.{Parts}
use Rattle.psxgpu_c.specs.Shown.{with_alpha}
use Rattle.psxgpu_c.proofs.AlphaLemmas.{length_rgba, picture_long, pixels_last}
use Rattle.psxgpu_c.proofs.Capacity.{length_pixels}
use Rattle.psxgpu_c.proofs.rgba.put_rgba.Goals as goal

pub returns-then-out-count : goal.returns-then-out-count
returns-then-out-count c =
    let shape : ℕ × ℕ = (c.in-Some.width, c.in-Some.lines) in
    let p : Parts = c.args.rig.now.gpu.parts in
    let regs = c.regs.ensures ∙ ap (λ (k : Kept). k.parts.regs) c.gpu.ensures in
    let is : shape_of p.regs ≡ Some shape = rw regs at (sym c.shape.ensures ∙ c.in-Some.is) in
    rw is (refl, rw (length_rgba p.m p.regs shape) c.if-out-count.true)

pub last_bytes-requires : goal.last_bytes-requires
last_bytes-requires c =
    let shape : ℕ × ℕ = (c.in-Some.width, c.in-Some.lines) in
    let p : Parts = c.args.rig.now.gpu.parts in
    let regs = c.regs.ensures ∙ ap (λ (k : Kept). k.parts.regs) c.gpu.ensures in
    let is : shape_of p.regs ≡ Some shape = rw regs at (sym c.shape.ensures ∙ c.in-Some.is) in
    let held : c.bytes.result.now ≡ picture_of p.m (display_of p.regs shape) =
    c.bytes.ensures.value ∙ rw is at c.in-Ok.ensures in
    picture_long p.m p.regs shape c.bytes.result.now held

pub add_alpha-requires-clause-bytes : goal.add_alpha-requires-clause-bytes
add_alpha-requires-clause-bytes c =
    let shape : ℕ × ℕ = (c.in-Some.width, c.in-Some.lines) in
    let p : Parts = c.args.rig.now.gpu.parts in
    let regs = c.regs.ensures ∙ ap (λ (k : Kept). k.parts.regs) c.gpu.ensures in
    let is : shape_of p.regs ≡ Some shape = rw regs at (sym c.shape.ensures ∙ c.in-Some.is) in
    let held : c.bytes.result.now ≡ picture_of p.m (display_of p.regs shape) =
    c.bytes.ensures.value ∙ rw is at c.in-Ok.ensures in
    let last = pixels_last p.m p.regs shape c.bytes.result.now held in
    let long = length_pixels p.m p.regs shape 0 (c.in-Some.width * c.in-Some.lines) in
    rw (c.last_bytes.ensures, last, long) (omega arith)

pub returns : goal.returns
returns c =
    let shape : ℕ × ℕ = (c.in-Some.width, c.in-Some.lines) in
    let p : Parts = c.args.rig.now.gpu.parts in
    let count = c.in-Some.width * c.in-Some.lines in
    let regs = c.regs.ensures ∙ ap (λ (k : Kept). k.parts.regs) c.gpu.ensures in
    let is : shape_of p.regs ≡ Some shape = rw regs at (sym c.shape.ensures ∙ c.in-Some.is) in
    let held : c.bytes.result.now ≡ picture_of p.m (display_of p.regs shape) =
    c.bytes.ensures.value ∙ rw is at c.in-Ok.ensures in
    let last = c.last_bytes.ensures ∙ pixels_last p.m p.regs shape c.bytes.result.now held in
    let long = length_rgba p.m p.regs shape in
    rw is (
      record {
        fits = rw long c.if-out-count.false;
        front = rw long (c.add_alpha.ensures.front ∙ ap (λ (bytes : List ℕ). with_alpha bytes count) last);
        after = rw long c.add_alpha.ensures.after;
      },
      sym long,
    )
