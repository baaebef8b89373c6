-- What holds of all states that are opened (our own rule).
use Rattle.std.specs.Prelude.{◌≡◌, ℕ, List, ◌++◌}
use Rattle.gp0_words.specs.Items.{pending_behind}
use Rattle.gpu_capture.specs.Whole.{AreWords}
use Rattle.event_play.specs.AlikeStates.{StandAlike}
use Rattle.event_play.specs.Step.{Machine}
use Rattle.snapshot_words.specs.Outline.{IsOutline, AreMemories, outline_words, snap_bytes, snapshot_head}
use Rattle.snapshot_words.specs.Reading.{Snapshot}
use Rattle.gpu_snapshot.specs.Opened.{Restored, opened}
use Rattle.gpu_snapshot.specs.Restored.{machine_in}

-- the snapshot of a machine after `played` events
abbrev pub snapshot_of : Machine → (played : ℕ) → Snapshot
snapshot_of s played = record {
  outline = record {
    played = played;
    regs = s.gpu.parts.regs;
    pending = pending_behind s.gpu.words;
    load = s.gpu.parts.load;
    store = s.gpu.parts.store;
    run = s.running;
  };
  m = s.gpu.parts.m;
  ram = s.ram;
}

-- the magic number and the bytes of a state
abbrev pub spelled : Snapshot → List ℕ
spelled s = snapshot_head ++ snap_bytes s.outline s.m s.ram

-- the parts of a state are within the bounds, and their values fit their words
pub record IsSpelledWhole (s : Snapshot) : Type 0 where
  pub outline : IsOutline s.outline
  pub words : AreWords (outline_words s.outline)
  pub memories : AreMemories s.outline s.m s.ram

-- opening the bytes gives a state whose machine continues as this one, after the same number of events
pub record OpensAlike (s : Machine) (played : ℕ) (bytes rest : List ℕ) : Type 0 where
  pub snapshot : Snapshot
  pub offset : ℕ
  pub opens : opened bytes ≡ Restored snapshot offset rest
  pub alike : StandAlike s (machine_in snapshot)
  pub played_is : snapshot.outline.played ≡ played

-- The bytes of every machine within the bounds are opened as an alike one, whatever follows them.
abbrev pub StatesAreRead : Type 0
StatesAreRead = (s : Machine) (played : ℕ) (rest : List ℕ) → IsSpelledWhole (snapshot_of s played)
    → OpensAlike s played (spelled (snapshot_of s played) ++ rest) rest
