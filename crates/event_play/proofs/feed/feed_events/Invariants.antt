use Rattle.std.proofs.Common.{◌≤◌, ◌-◌, length, map, take}
use Rattle.event_play.specs.PlayedWords.{IsTold, after_words, number_after}
use Rattle.event_play.specs.Replay.{Replay}
use Rattle.event_play.specs.Streams.{Outlets, without_sink}
use Rattle.event_play.proofs.feed.feed_events.Given as goal

abbrev pub invariant-words : goal.invariant-words
invariant-words g l = record {
  within : l.at ≤ length l.fed.words.now;
  told : (t : Replay) (first : Outlets)
      → IsTold t first (without_sink (map g.T.Listener.heard l.initial.taps.items) l.initial.steps) l.initial.gpu
      l.fed.played
      → IsTold (after_words t (take l.at l.fed.words.now)) first
      (without_sink (map g.T.Listener.heard l.taps.items) l.steps) l.gpu (number_after l.fed.played l.at);
}

abbrev pub decreases-words : goal.decreases-words
decreases-words g l = length l.fed.words.now - l.at
