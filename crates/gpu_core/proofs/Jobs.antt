-- Open transfers in taller video memory.
use Rattle.std.proofs.Common.{ℕ, ◌≤◌, Option, Some, None, arith}
use Rattle.vram_copy.specs.declared.transfer.Transfer.{Transfer}
use Rattle.gpu_core.specs.Kept.{IsOpen}

pub open_taller : (low high : ℕ) (job : Option Transfer) → low ≤ high → IsOpen low job → IsOpen high job
open_taller low high None more is = tt
open_taller low high (Some job) more is = record {
  x = is.x;
  y = let row = is.y in omega (arith, row, more);
  w_some = is.w_some;
  w = is.w;
  h_some = is.h_some;
  h = is.h;
  even = is.even;
  more = is.more;
}
