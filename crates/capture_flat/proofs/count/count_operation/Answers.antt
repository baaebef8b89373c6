use Rattle.std.proofs.Common.{sym}
use Rattle.gpu_capture.specs.declared.event.Event.TheVariants as event
use Rattle.gpu_capture.proofs.Spelled.{one_bytes}
use Rattle.capture_flat.proofs.count.count_operation.Goals as goal

pub returns-in-Control-clause-value : goal.returns-in-Control-clause-value
returns-in-Control-clause-value c = rw c.in-Control.is (sym (one_bytes (event.Gp1 c.in-Control.word)))

pub returns-in-Read-clause-value : goal.returns-in-Read-clause-value
returns-in-Read-clause-value c = rw c.in-Read.is (sym (one_bytes event.Read))

pub returns-in-Skip-clause-value : goal.returns-in-Skip-clause-value
returns-in-Skip-clause-value c = rw c.in-Skip.is (sym (one_bytes event.Skip))

pub returns-in-Stat-clause-value : goal.returns-in-Stat-clause-value
returns-in-Stat-clause-value c = rw c.in-Stat.is (sym (one_bytes event.Stat))
