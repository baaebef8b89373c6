use Rattle.gpu_capture.proofs.Written.{written_read}
use Rattle.gpu_capture.proofs.laws.written_is_read.Goals as goal

pub returns : goal.returns
returns c = λ version events rest is allows le. written_read version events rest is allows le
