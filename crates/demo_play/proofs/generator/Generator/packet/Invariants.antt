use Rattle.std.proofs.Common.{◌≡◌, map}
use Rattle.std.specs.List.{range_with_len}
use Rattle.demo_play.specs.Demo.{after_draws, packet_word}
use Rattle.demo_play.proofs.generator.Generator.packet.Given as goal

abbrev pub invariant-loop-j : goal.invariant-loop-j
invariant-loop-j l = record {
  words : l.words ≡ map (packet_word l.k l.initial.self.number) (range_with_len 0 l.j);
  number : l.self.number ≡ after_draws l.j l.initial.self.number;
}
