use Rattle.std.proofs.Common.{◌≡◌, ◌≤◌, ◌-◌, length, map, take}
use Rattle.gathered_out.specs.Puts.{holding}
use Rattle.event_play.specs.Listing.{ArePut, listed_pieces}
use Rattle.event_play.specs.PlayedWords.{IsTold, after_words, number_after, word_notes}
use Rattle.event_play.specs.Replay.{Replay}
use Rattle.event_play.specs.Streams.{Outlets, without_sink}
use Rattle.event_play.proofs.rig.words.list_events.Given as goal

abbrev pub invariant-words : goal.invariant-words
invariant-words g l = record {
  within : l.at ≤ length l.fed.words.now;
  told : (t : Replay) (first : Outlets)
      → IsTold t first (without_sink (map g.T.Listener.heard l.initial.taps.items) l.initial.steps) l.initial.gpu
      l.fed.played
      → IsTold (after_words t (take l.at l.fed.words.now)) first
      (without_sink (map g.T.Listener.heard l.taps.items) l.steps) l.gpu
      (number_after l.fed.played l.at);
  puts : (t : Replay) (first : Outlets)
      → IsTold t first (without_sink (map g.T.Listener.heard l.initial.taps.items) l.initial.steps) l.initial.gpu
      l.fed.played
      → ArePut (listed_pieces (word_notes t (take l.at l.fed.words.now)))
      (holding (g.K.Sink.held l.initial.lines.out.now) l.initial.lines.buffered.now)
      (holding (g.K.Sink.held l.lines.out.now) l.lines.buffered.now);
  faults : g.K.Sink.faults l.initial.lines.out.now ≤ g.K.Sink.faults l.lines.out.now;
  same : (l.initial.lines.buffered.ghost_name ≡ l.lines.buffered.ghost_name)
      × (l.initial.lines.out.ghost_name ≡ l.lines.out.ghost_name) × (l.initial.lines.mode ≡ l.lines.mode);
}

abbrev pub decreases-words : goal.decreases-words
decreases-words g l = length l.fed.words.now - l.at
