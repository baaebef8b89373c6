use Rattle.std.proofs.Common.{length, sym, ap, ◌∙◌, refl}
use Rattle.gp0_words.specs.Skipped.{behind_pixels}
use Rattle.gp0_words.specs.declared.pending.Pending.{Pending}
use Rattle.gpu_core.specs.Kept.{Kept}
use Rattle.gpu_core.specs.Machine.{Parts}
use Rattle.gpu_core.proofs.Loading.{loads}
use Rattle.gpu_core.proofs.gpu.Gpu.load.Goals as goal

pub returns : goal.returns
returns g c = λ s e.
    let p : Parts = c.self.inside.parts in
    let kept : Pending → Kept = λ h. record { parts = c.take_all_pixels.new.self; pending = h } in
    let after : Parts → Kept = λ p. record {
      parts = p;
      pending = behind_pixels c.self.inside.splitter (length c.args.words.now);
    } in
    loads s p p.load c.self.inside.splitter c.args.played c.args.words.now _ _
    (e ∙ sym c.self.view_is) refl c.skip_pixels.ensures.bounds.0 c.self.invariant c.requires.some
    (rw (← c.self.view_is) at c.requires.wanted)
    (ap kept c.skip_pixels.ensures.pending ∙ ap after c.take_all_pixels.ensures.pixels)
    c.tell_all_bare.ensures.told c.take_all_pixels.ensures.cost
