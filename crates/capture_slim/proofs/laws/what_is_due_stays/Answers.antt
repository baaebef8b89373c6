use Rattle.capture_slim.proofs.TooMuch.{due_law}
use Rattle.capture_slim.proofs.laws.what_is_due_stays.Goals as goal

pub returns : goal.returns
returns c = due_law
