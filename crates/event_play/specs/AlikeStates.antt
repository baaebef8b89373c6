-- Machines that no event distinguishes (our own rule).
use Rattle.std.specs.Prelude.{◌≡◌, ℕ, List}
use Rattle.gpu_capture.specs.Capture.{Captured}
use Rattle.gpu_core.specs.Kept.{kept_of}
use Rattle.gpu_taps.specs.Tally.{Reading}
use Rattle.event_play.specs.Out.{out_bytes, out_cost, out_box_cost}
use Rattle.event_play.specs.Replay.{Replay, Played, played_from, from_state}
use Rattle.event_play.specs.Step.{Machine}
use Rattle.event_play.specs.declared.ending.Mode.{Mode}

-- They agree in video memory, the registers (with the height), the open load and store, the pending words, main memory
-- and the running transfer.
pub record StandAlike (a b : Machine) : Type 0 where
  pub gpu : kept_of a.gpu ≡ kept_of b.gpu
  pub ram : a.ram ≡ b.ram
  pub running : a.running ≡ b.running

-- two replays with the same number of events, shown words, frames, notes, changes and costs, and with alike machines
pub record TellAlike (t u : Replay) : Type 0 where
  pub state : StandAlike t.state u.state
  pub played : t.played ≡ u.played
  pub shown : t.shown ≡ u.shown
  pub frames : t.frames ≡ u.frames
  pub notes : t.notes ≡ u.notes
  pub changes : t.changes ≡ u.changes
  pub cost : t.cost ≡ u.cost
  pub box_cost : t.box_cost ≡ u.box_cost

-- The replays also ended alike. In every mode, their output and its costs are the same, whatever the taps recorded
-- before.
pub record PlayAlike (r q : Played) : Type 0 where
  pub replay : TellAlike r.replay q.replay
  pub ending : r.ending ≡ q.ending
  pub rest : r.rest ≡ q.rest
  pub out : (mode : Mode) (heard : List Reading) → out_bytes mode heard r ≡ out_bytes mode heard q
  pub cost : (mode : Mode) → out_cost mode r ≡ out_cost mode q
  pub box_cost : (mode : Mode) → out_box_cost mode r ≡ out_box_cost mode q

-- Alike machines replay every capture alike, of any version, whatever the number of events played before.
abbrev pub AlikeReplayAlike : Type 0
AlikeReplayAlike = (a b : Machine) (played : ℕ) (captured : Captured) → StandAlike a b
    → PlayAlike (played_from (from_state a played) captured) (played_from (from_state b played) captured)
