use Rattle.std.proofs.Common.{arith, map, refl}
use Rattle.std.proofs.lemmas.Result.{IfErr-weaker}
use Rattle.capture_flat.specs.Taking.{flat_at}
use Rattle.capture_flat.proofs.TakingWords.{words_know, words_lack, words_put, words_stand}
use Rattle.capture_flat.proofs.passage.FlatteningPassage.take_words.Goals as goal

pub returns-clause-stands : goal.returns-clause-stands
returns-clause-stands g c = λ s version events st long.
    words_stand s version events c.args.words.now _ _ st long c.take_words.ensures c.slice_allowed.ensures
    c.requires.may refl refl

pub returns-clause-put : goal.returns-clause-put
returns-clause-put g c = λ s version events st long.
    words_put s version events c.args.words.now _
    (flat_at c.args.self.now.file c.take_words.new.self (map g.T.Listener.heard c.take_words.new.taps.items)
    c.take_words.new.steps) st long c.take_words.ensures c.slice_allowed.ensures
    c.requires.may c.played-played.result c.played-played.ensures _ _ c.put_words.result c.put_words.ensures.puts

pub returns-clause-lacks : goal.returns-clause-lacks
returns-clause-lacks g c = λ s version events st long.
    IfErr-weaker c.put_words.result _ _ (λ lacking breaks. (breaks, λ before event more. omega arith))
    (words_lack s version events c.args.words.now _
    (flat_at c.args.self.now.file c.take_words.new.self (map g.T.Listener.heard c.take_words.new.taps.items)
    c.take_words.new.steps) st long c.take_words.ensures c.slice_allowed.ensures
    c.requires.may c.played-played.result c.played-played.ensures _ _ c.put_words.result c.put_words.ensures.puts)

pub returns-clause-knows : goal.returns-clause-knows
returns-clause-knows g c = λ s version events st long.
    words_know s version events c.args.words.now _
    (flat_at c.args.self.now.file c.take_words.new.self (map g.T.Listener.heard c.take_words.new.taps.items)
    c.take_words.new.steps) st long c.take_words.ensures c.slice_allowed.ensures c.requires.may
