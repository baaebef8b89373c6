use Rattle.gpu_snapshot.proofs.CutFiles.{cut_files}
use Rattle.gpu_snapshot.proofs.laws.cut_files_go_on.Goals as goal

pub returns : goal.returns
returns c = cut_files
