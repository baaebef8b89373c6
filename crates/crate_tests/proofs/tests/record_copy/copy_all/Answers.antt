use Rattle.std.proofs.Common.{refl}
use Rattle.crate_tests.proofs.Copying.{copies}
use Rattle.crate_tests.proofs.tests.record_copy.copy_all.Goals as goal

pub returns-clause-ends : goal.returns-clause-ends
returns-clause-ends g c =
    let ends = c.pass_all.ensures.ends c.args.copying.now.limit refl in
    copies ends.0 _ _ _ _ _ _ _ _ c.pass_all.result c.new.ensures.start ends.1
