use Rattle.std.proofs.Common.{refl, sym}
use Rattle.gpu_snapshot.specs.Laws.{snapshot_of}
use Rattle.gpu_snapshot.proofs.CutFiles.{spelled_opens, restored_alike}
use Rattle.gpu_snapshot.proofs.laws.states_are_read.Goals as goal

pub returns : goal.returns
returns c = λ s played rest is.
    let alike = restored_alike s played is in
    record {
      snapshot = snapshot_of s played;
      offset = _;
      opens = spelled_opens (snapshot_of s played) rest is;
      alike = record { gpu = sym alike.gpu; ram = refl; running = refl };
      played_is = refl;
    }
