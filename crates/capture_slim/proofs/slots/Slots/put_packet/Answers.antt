use Rattle.std.proofs.Common.{◌≡◌, ℕ, ◌++◌, ◌∷◌, [], List, take, get_or, length, ap, ◌∙◌, sym, arith, append_assoc}
use Rattle.std.proofs.lemmas.List.{take_more, length-append, length-take}
use Rattle.gpu_capture.specs.declared.event.Event.TheVariants as event
use Rattle.capture_slim.specs.Window.{packet_slots}
use Rattle.capture_slim.specs.Settling.{mark_of}
use Rattle.capture_slim.specs.declared.slot.Mark.{Mark}
use Rattle.capture_slim.specs.declared.slot.Slot.{Slot}
use Rattle.capture_slim.proofs.SettlingLemmas.{packet_slots_push}
use Rattle.capture_slim.proofs.WindowLemmas.{packet_slots_long}
use Rattle.capture_slim.proofs.slots.Slots.put_packet.Goals as goal

pub push-requires : goal.push-requires
push-requires c =
    let done = take c.loop-word.word-index c.args.words.now in
    omega (
      arith,
      ap length c.loop-word.invariant.slots,
      c.requires.room,
      c.loop-word-test.true,
      length-append c.args.self.now (packet_slots done c.args.area),
      packet_slots_long done c.args.area,
      length-take c.loop-word.word-index c.args.words.now,
    )

pub loop-word-preserved : goal.loop-word-preserved
loop-word-preserved c =
    let i = c.loop-word.word-index in
    let words = c.args.words.now in
    let slots = c.args.self.now in
    let w = get_or words i 0 in
    let done = take i words in
    let s : Slot = record { event = event.Gp0 w; mark = mark_of c.args.area c.loop-word.offset } in
    let count : c.loop-word.offset
    ≡ length done = omega (arith, c.loop-word.invariant.offset, length-take i words, c.loop-word-test.true) in
    record {
      slots = c.push.ensures
          ∙ ap (λ (m : Mark). c.loop-word.self ++ record { event = event.Gp0 w; mark = m } ∷ []) c.mark_of.ensures
          ∙ ap (λ (l : List Slot). l ++ s ∷ []) c.loop-word.invariant.slots
          ∙ append_assoc slots (packet_slots done c.args.area) (s ∷ [])
          ∙ ap (λ (l : List Slot). slots ++ l) (sym (packet_slots_push c.args.area done w c.loop-word.offset count)
          ∙ ap (λ (ws : List ℕ). packet_slots ws c.args.area) (sym (take_more words i 0 c.loop-word-test.true)));
      offset = omega (arith, c.loop-word.invariant.offset);
    }
