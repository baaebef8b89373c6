use Rattle.std.proofs.Common.{◌≡◌, inl, sym, arith}
use Rattle.dev_io.proofs.Appended.{appended-nil}
use Rattle.psxgpu_tool.proofs.ending.end.Goals as goal

pub returns-else-status-ne0-clause-says : goal.returns-else-status-ne0-clause-says
returns-else-status-ne0-clause-says g c =
    let zero : c.status-status.result ≡ 0 = omega (arith, c.if-status-ne0.false) in
    rw (c.status-status.ensures.silent zero, ← c.status-status.ensures.exit, zero) (inl (sym (appended-nil _)))
