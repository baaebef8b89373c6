use Rattle.std.proofs.Common.{◌≡◌, ◌++◌, ℕ, List, length, map}
use Rattle.event_play.specs.Streams.{with_sink}
use Rattle.event_play.proofs.Feeds.{AreFed}
use Rattle.event_play.proofs.feed.feed.Given as goal

abbrev pub invariant-words : goal.invariant-words
invariant-words g l = record {
  done : List ℕ;
  are : l.fn.words.value ≡ done ++ l.left;
  fed : AreFed (g.O.Outlet.mode l.fn.lines) l.number done
      (with_sink (g.O.Outlet.state l.fn.lines) (map g.T.Listener.heard l.fn.taps.items) l.fn.steps)
      (with_sink (g.O.Outlet.state l.lines) (map g.T.Listener.heard l.taps.items) l.steps) l.fn.gpu l.gpu;
  same : g.O.Outlet.same l.fn.lines l.lines;
}

abbrev pub decreases-words : goal.decreases-words
decreases-words g l = length l.left
