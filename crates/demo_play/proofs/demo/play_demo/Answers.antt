use Rattle.std.proofs.Common.{◌≡◌, [], arith, ◌∙◌}
use Rattle.demo_play.specs.Demo.{demo_words}
use Rattle.demo_play.proofs.Words.{none_on, packet_on}
use Rattle.demo_play.proofs.Generating.{number_on}
use Rattle.demo_play.proofs.demo.play_demo.Goals as goal

pub loop-k-init : goal.loop-k-init
loop-k-init g c = record {
  number = c.new-generator.ensures;
  played = λ first done start played. none_on first done start _ _ played;
}

pub loop-k-preserved : goal.loop-k-preserved
loop-k-preserved g c = record {
  number = number_on c.args.packets c.loop-k.k _ _ c.packet.ensures.number c.loop-k.invariant.number;
  played = λ first done start played.
      packet_on first done c.args.packets c.loop-k.k _ _ start _ _ c.loop-k.invariant.number
      (c.as_slice.ensures ∙ c.packet.ensures.words)
      (c.play_words-in-loop-k.ensures first _ start (c.loop-k.invariant.played first done start played));
}

pub returns : goal.returns
unfolding demo_words
returns g c = λ first start played.
    let all : c.loop-k.k ≡ c.args.packets = omega (arith, c.loop-k-test.false, c.loop-k.auto.k-end) in
    let on = c.loop-k.invariant.played first _ start (c.play_words.ensures first [] start played) in
    rw all at on
