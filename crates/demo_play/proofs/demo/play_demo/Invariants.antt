use Rattle.std.proofs.Common.{◌≡◌, ◌++◌, ℕ, List, map}
use Rattle.event_play.specs.Replay.{Replay}
use Rattle.event_play.specs.Streams.{Outlets, without_sink}
use Rattle.demo_play.specs.Demo.{number_before, first_packets}
use Rattle.demo_play.specs.Words.{HavePlayed}
use Rattle.demo_play.proofs.demo.play_demo.Given as goal

abbrev pub invariant-loop-k : goal.invariant-loop-k
invariant-loop-k g l = record {
  number : l.generator.number ≡ number_before l.packets l.k;
  played : (first : Replay) (done : List ℕ) (start : Outlets)
      → HavePlayed first done start (without_sink
      (map g.T.Listener.heard l.initial.taps.items) l.initial.steps) l.initial.rig
      → HavePlayed first (done ++ first_packets l.packets l.k) start
      (without_sink (map g.T.Listener.heard l.taps.items) l.steps) l.rig;
}
