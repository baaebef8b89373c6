use Rattle.gpu_capture.proofs.Taken.{few_at_first, few_at_once, taken_count}
use Rattle.gpu_capture.proofs.laws.answers_take_few.Goals as goal

pub returns : goal.returns
returns c = record { first = few_at_first; once = few_at_once; all = taken_count }
