use Rattle.std.proofs.Common.{◌≡◌, ◌+◌, arith, ap, ◌∙◌}
use Rattle.demo_play.specs.Demo.{drawn, after_draws, opcode_of, word_of, packet_word}
use Rattle.demo_play.proofs.Generating.{length_small, words_before, words_on, draws_more}
use Rattle.demo_play.proofs.generator.Generator.packet.Goals as goal

pub push-requires : goal.push-requires
push-requires c =
    let before = words_before c.args.k c.args.self.now.number c.loop-j.j in
    let small = length_small c.args.k in
    rw c.loop-j.invariant.words (omega (arith, before, small, c.loop-j-test.true))

pub loop-j-preserved : goal.loop-j-preserved
loop-j-preserved c =
    let number : c.draw-draw.new.self.number ≡ after_draws (c.loop-j.j + 1) c.args.self.now.number =
    c.draw-draw.ensures.number ∙ ap drawn c.loop-j.invariant.number ∙ draws_more c.loop-j.j c.args.self.now.number
    in
    let word : c.word_of.result ≡ packet_word c.args.k c.args.self.now.number c.loop-j.j =
    c.word_of.ensures ∙ ap (word_of (opcode_of c.args.k) c.loop-j.j) (c.draw-draw.ensures.value ∙ number)
    in
    record {
      words = words_on _ _ _ _ _ _ c.push.ensures c.loop-j.invariant.words word;
      number = number;
    }
