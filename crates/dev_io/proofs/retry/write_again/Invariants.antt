-- An interrupted write appended nothing.
use Rattle.std.proofs.Common.{◌≡◌, Err}
use Rattle.std.specs.Prelude.{replicate}
use Rattle.std.specs.Io.KnownBytes.{Keeps}
use Rattle.std_io.specs.declared.io.kind.ErrorKind.TheVariants.{Interrupted}
use Rattle.dev_io.specs.Calls.{then_called}
use Rattle.dev_io.proofs.retry.write_again.Given as goal

abbrev pub invariant-loop-interruptions : goal.invariant-loop-interruptions
invariant-loop-interruptions g l = record {
  held : Keeps (g.W.Write.contents l.initial.writer) (g.W.Write.contents l.writer);
  calls : g.W.Writer.calls l.writer
      ≡ then_called (g.W.Writer.calls l.initial.writer) (replicate l._interruptions (Err Interrupted));
}
