-- An interrupted read read nothing, and the buffer keeps its length.
use Rattle.std.proofs.Common.{◌≡◌, length, Err}
use Rattle.std.specs.Prelude.{replicate}
use Rattle.std.specs.Io.KnownBytes.{Keeps}
use Rattle.std_io.specs.declared.io.kind.ErrorKind.TheVariants.{Interrupted}
use Rattle.dev_io.specs.Calls.{then_called}
use Rattle.dev_io.proofs.retry.read_again.Given as goal

abbrev pub invariant-loop-interruptions : goal.invariant-loop-interruptions
invariant-loop-interruptions g l = record {
  long : length l.buf ≡ length l.initial.buf;
  left : Keeps (g.R.Read.remaining l.initial.reader) (g.R.Read.remaining l.reader);
  calls : g.R.Reader.calls l.reader
      ≡ then_called (g.R.Reader.calls l.initial.reader) (replicate l._interruptions (Err Interrupted));
}
