use Rattle.std.proofs.Common.{◌≡◌, ◌∙◌, sym, rules, length}
use Rattle.gpu_snapshot.proofs.Blocks.{gave_block}
use Rattle.gpu_snapshot.proofs.block.take_block.Goals as goal

pub returns-in-Ok-eq2048-clause-takes : goal.returns-in-Ok-eq2048-clause-takes
returns-in-Ok-eq2048-clause-takes g c =
    let long : length c.fill.new.buf ≡ 2048 = search rules in
    gave_block _ _ c.fill.new.buf c.in-Ok-eq2048.field-0 (c.in-Ok-eq2048.field-0-test ∙ sym long)
    c.in-Ok-eq2048.ensures.ok
