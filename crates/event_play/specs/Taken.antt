-- Reads whose words are stored in main memory, one after another.
use Rattle.std.specs.Prelude.{ℕ, ◌+◌, List}
use Rattle.px_num.specs.Fold.{each_below}
use Rattle.gpu_core.specs.Cost.{read_cost, read_box_cost}
use Rattle.gpu_core.specs.Machine.{State, after_read, read_word}
use Rattle.ot_clear_dma.specs.Ram.{set}
use Rattle.event_play.specs.Block.{address_in}
use Rattle.event_play.specs.declared.block.Block.{Block}

-- the GPU, main memory, and the most store steps so far, also by the boxes
pub record Taken : Type 0 where
  pub gpu : State
  pub ram : List ℕ
  pub cost : ℕ
  pub box_cost : ℕ

-- one read, whose word is stored as word `i` of a block
abbrev pub take_one : Block → ℕ → Taken → Taken
take_one block i t = record {
  gpu = after_read t.gpu;
  ram = set t.ram (address_in block i) (read_word t.gpu);
  cost = t.cost + read_cost t.gpu;
  box_cost = t.box_cost + read_box_cost t.gpu;
}

-- the first n reads for a block
abbrev pub first_taken : Block → ℕ → State → List ℕ → Taken
first_taken block n s ram = each_below (take_one block) n (record { gpu = s; ram = ram; cost = 0; box_cost = 0 })

-- the reads for a whole block
abbrev pub taken : Block → State → List ℕ → Taken
taken block s ram = first_taken block block.n s ram
