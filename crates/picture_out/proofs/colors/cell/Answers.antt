use Rattle.std.proofs.Common.{◌≡◌, ◌%◌}
use Rattle.std.proofs.Math.Nat.{mod-eq_of_lt}
use Rattle.vram_store.specs.Vram.{height_of}
use Rattle.picture_out.proofs.colors.cell.Goals as goal

pub returns-clause-value : goal.returns-clause-value
returns-clause-value g c =
    let once : c.args.y % height_of c.args.vram.now ≡ c.args.y = mod-eq_of_lt c.requires in
    rw once (rw c.wrap_x.ensures.value at c.get.ensures.value)
