use Rattle.std.proofs.Common.{◌≤◌, []}
use Rattle.gpu_capture.specs.Reader.{IsAfterHead, Takes, reader_input, work_left}
use Rattle.gpu_capture.proofs.progress.advance.Given as goal

abbrev pub invariant-words : goal.invariant-words
invariant-words g l = record {
  takes : Takes (reader_input l.fn.progress (g.S.Source.left l.fn.source))
      (reader_input l.progress (g.S.Source.left l.source)) [];
  stays : IsAfterHead l.progress;
  forward : work_left l.progress ≤ work_left l.fn.progress;
  faults : g.S.Source.faults l.fn.source ≤ g.S.Source.faults l.source;
}

abbrev pub decreases-words : goal.decreases-words
decreases-words g l = work_left l.progress
