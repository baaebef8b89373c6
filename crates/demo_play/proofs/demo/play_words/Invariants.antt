use Rattle.std.proofs.Common.{◌++◌, ℕ, List, take, map}
use Rattle.event_play.specs.Replay.{Replay}
use Rattle.event_play.specs.Streams.{Outlets, without_sink}
use Rattle.demo_play.specs.Words.{HavePlayed}
use Rattle.demo_play.proofs.demo.play_words.Given as goal

abbrev pub invariant-loop-word : goal.invariant-loop-word
invariant-loop-word g l =
    (first : Replay) (done : List ℕ) (start : Outlets)
    → HavePlayed first done start (without_sink
    (map g.T.Listener.heard l.initial.taps.items) l.initial.steps) l.initial.rig
    → HavePlayed first (done ++ take l.word-index l.words) start
    (without_sink (map g.T.Listener.heard l.taps.items) l.steps) l.rig
