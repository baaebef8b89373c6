use Rattle.std.proofs.Common.{◌++◌, ◌∷◌, [], List, take, get_or, length, ap, ◌∙◌, sym, arith, append_assoc}
use Rattle.std.proofs.lemmas.List.{take_more, length-append, length-take}
use Rattle.gpu_capture.specs.declared.event.Event.TheVariants as event
use Rattle.capture_slim.specs.Window.{kept, kept_words}
use Rattle.capture_slim.specs.declared.slot.Slot.{Slot}
use Rattle.capture_slim.proofs.SettlingLemmas.{kept_words_push}
use Rattle.capture_slim.proofs.WindowLemmas.{kept_long}
use Rattle.capture_slim.proofs.slots.Slots.put_words.Goals as goal

pub push-requires : goal.push-requires
push-requires c =
    let done = take c.loop-word.word-index c.args.words.now in
    omega (
      arith,
      ap length c.loop-word.invariant.slots,
      c.requires,
      c.loop-word-test.true,
      length-append c.args.self.now (kept_words done),
      kept_long done,
      length-take c.loop-word.word-index c.args.words.now,
    )

pub loop-word-preserved : goal.loop-word-preserved
loop-word-preserved c =
    let i = c.loop-word.word-index in
    let words = c.args.words.now in
    let slots = c.args.self.now in
    let w = get_or words i 0 in
    record {
      slots = c.push.ensures
          ∙ ap (λ (l : List Slot). l ++ kept (event.Gp0 w) ∷ []) c.loop-word.invariant.slots
          ∙ append_assoc slots (kept_words (take i words)) (kept (event.Gp0 w) ∷ [])
          ∙ ap (λ (l : List Slot). slots ++ l)
          (sym (kept_words_push (take i words) w)
          ∙ ap kept_words (sym (take_more words i 0 c.loop-word-test.true)));
    }
