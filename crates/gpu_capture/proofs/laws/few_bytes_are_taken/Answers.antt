use Rattle.gpu_capture.proofs.Few.{takes_few}
use Rattle.gpu_capture.proofs.laws.few_bytes_are_taken.Goals as goal

pub returns : goal.returns
returns c = takes_few
