use Rattle.std.proofs.Common.{◌∙◌, ◌++◌, ◌∷◌, [], ap, arith}
use Rattle.vram_store.proofs.Zeros.{none_behind, one_behind}
use Rattle.vram_store.proofs.vram.lengthen.Goals as goal

pub loop-i-init : goal.loop-i-init
loop-i-init c = record {
  items = rw c.len-i.ensures (none_behind _ _);
  len = omega arith;
  room = c.requires.room;
}

pub loop-i-preserved : goal.loop-i-preserved
loop-i-preserved c =
    let pushed = rw c.in-Ok.is at c.push.ensures.items in
    record {
      items = pushed ∙ ap (λ xs. xs ++ 0 ∷ []) c.loop-i.invariant.items
          ∙ one_behind _ _ _ (omega (arith, c.loop-i.auto.i));
      len = rw c.in-Ok.is at c.push.ensures.len ∙ omega arith;
      room = omega (arith, c.push.ensures.capacity);
    }
