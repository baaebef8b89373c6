use Rattle.gpu_capture.proofs.Wholes.{records_whole}
use Rattle.gpu_capture.proofs.laws.records_are_read.Goals as goal

pub returns : goal.returns
returns c = λ version given rest is are le. records_whole version given rest is are le
