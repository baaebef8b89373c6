use Rattle.std.proofs.Common.{arith}
use Rattle.gpu_taps.proofs.Numbers.{length-trace_numbers}
use Rattle.gpu_taps.proofs.trace.TraceTap.len.Goals as goal

pub returns : goal.returns
returns c = omega (arith, length-trace_numbers c.args.self.now.notes.items, c.len.ensures.len)
