use Rattle.std.proofs.Common.{arith, rules, ◌≡◌}
use Rattle.gpu_snapshot.proofs.CellWords.{ram_lacks}
use Rattle.gpu_snapshot.proofs.memories.read_memories.Goals as goal

pub returns-in-Err-read_words-clause-fault : goal.returns-in-Err-read_words-clause-fault
returns-in-Err-read_words-clause-fault g c =
    let rows : c.from-rows.result ≡ c.args.rig.now.gpu.parts.regs.height = search rules in
    ram_lacks _ _ _ c.read_cells.new.rig.gpu.parts.m c.args.offset.now _ c.args.rig.now.gpu.parts.regs.height _
    (omega (arith, c.in_default.ensures.long, c.requires.sizes.rows)) (omega (arith, rows)) c.in_default.ensures.takes
    c.in-Err-read_words.ensures.fault
