-- The visible results of a replay of events of the ports.
use Rattle.std.proofs.Common.{◌≡◌, ℕ, List, [], ◌∷◌, ◌++◌, sym, ap, ◌∙◌, append_assoc, append-nil}
use Rattle.gpu_capture.specs.declared.event.Event.{Event}
use Rattle.gpu_capture.specs.declared.event.Event.TheVariants as event
use Rattle.gpu_capture.specs.declared.event.Stop.TheVariants.{End}
use Rattle.gpu_core.specs.Machine.{State, status_word, after_gp0, after_gp1, after_read, read_word}
use Rattle.event_play.specs.Alike.{AreAlike}
use Rattle.event_play.specs.Ports.{AreAtPorts}
use Rattle.event_play.specs.Replay.{Replay, Played, played_events}
use Rattle.event_play.specs.Step.{event_step}
use Rattle.event_play.specs.declared.ending.Ending.{Ending}
use Rattle.event_play.specs.declared.ending.Ending.TheVariants.{Done}
use Rattle.dead_drawing.specs.Run.{after, shown_at, run, told}

-- how a replay ended, the words that it showed, and the final status word and cells
pub record Outcome : Type 0 where
  pub ending : Ending
  pub shown : List ℕ
  pub status : ℕ
  pub cells : List ℕ

abbrev pub outcome_of : Played → Outcome
outcome_of r = record {
  ending = r.ending;
  shown = r.replay.shown;
  status = status_word r.replay.state.gpu;
  cells = r.replay.state.gpu.parts.m;
}

-- the result at a state, with the words shown up to it
abbrev pub outcome_at : List ℕ → State → Outcome
outcome_at shown s = record { ending = Done; shown = shown; status = status_word s; cells = s.parts.m }

-- the result of events from a state on, with these words shown before
abbrev pub seen : State → (shown : List ℕ) → List Event → Outcome
seen s shown events = outcome_at (shown ++ told s events) (run s events)

-- Replays with the same result are alike.
pub alike_by : (a b : Played) → outcome_of a ≡ outcome_of b → AreAlike a.replay b.replay
alike_by a b e = record {
  shown = ap (λ (o : Outcome). o.shown) e;
  status = ap (λ (o : Outcome). o.status) e;
  cells = ap (λ (o : Outcome). o.cells) e;
}

step_on : (s : State) (shown one : List ℕ) (events : List Event)
    → seen s (shown ++ one) events ≡ outcome_at (shown ++ (one ++ told s events)) (run s events)
step_on s shown one events = ap (λ ns. outcome_at ns (run s events)) (append_assoc shown one (told s events))

-- Events of the ports have no fault.
pub replay_is : (events : List Event) (t : Replay) → AreAtPorts events
    → outcome_of (played_events t events End []) ≡ seen t.state.gpu t.shown events
unfolding event_step after shown_at
replay_is [] t ports = ap (λ ns. outcome_at ns t.state.gpu) (sym (append-nil t.shown))
replay_is (event.Gp0 word ∷ events) t ports =
    replay_is events _ ports.1 ∙ step_on (after_gp0 t.state.gpu word) t.shown [] events
replay_is (event.Gp1 word ∷ events) t ports =
    replay_is events _ ports.1 ∙ step_on (after_gp1 t.state.gpu word) t.shown [] events
replay_is (event.Read ∷ events) t ports =
    replay_is events _ ports.1 ∙ step_on (after_read t.state.gpu) t.shown (read_word t.state.gpu ∷ []) events
replay_is (event.Skip ∷ events) t ports =
    replay_is events _ ports.1 ∙ step_on (after_read t.state.gpu) t.shown [] events
replay_is (event.Stat ∷ events) t ports =
    replay_is events _ ports.1 ∙ step_on t.state.gpu t.shown (status_word t.state.gpu ∷ []) events
replay_is (event.Ram address word ∷ events) t ports = absurd ports.0
replay_is (event.Dma channel madr bcr chcr ∷ events) t ports = absurd ports.0
replay_is (event.Begin madr bcr chcr ∷ events) t ports = absurd ports.0
replay_is (event.Turn ∷ events) t ports = absurd ports.0
