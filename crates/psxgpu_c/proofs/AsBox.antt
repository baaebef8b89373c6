-- The handles and the parts own what a box at the same types owns.
use mir.Syntax.{impl, tnil, dnil}
use mathlib.Core.List.{[]}
use denote.Param.Laws.{Laws}
use denote.RattleType.{RattleType}
use denote.Signature.{Slot, plain}
use Rattle.std_alloc.proofs.BoxSteps.Form.{Bx}
use Rattle.std_heap.specs.contracts.Global as Heap
use Rattle.std_heap.specs.contracts.GlobalAllocator.TheImpl.{ghosts, dict}
use Rattle.std_heap.proofs.Global.TheLaws as heap
use Rattle.psxgpu_c.specs.contracts.parts.Parts as Parts

-- a box of this type
abbrev pub box_at : (row : RattleType) → Laws row → Bx
box_at row laws = record {
  row = row;
  laws = laws;
  al = record {
    row = Heap.the_row;
    laws =
        heap.the_row_laws;
    g = ghosts;
    d = dict;
    drops = impl [] tnil dnil;
  };
}

abbrev pub from_parts : RattleType → Slot 0
from_parts row = plain (λ _. Parts.the_row row Heap.the_row ghosts)

abbrev pub FromAlloc : Slot 0
FromAlloc = plain (λ _. Heap.the_row)
