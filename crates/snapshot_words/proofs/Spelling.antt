-- Every state is read from its encoding.
use Rattle.std.proofs.Common.{◌≡◌, ◌+◌, ◌*◌, ◌++◌, List, ℕ, None, length, refl, ap, ◌∙◌}
use Rattle.gp1_status.specs.Words.{words_of}
use Rattle.gpu_capture.specs.Whole.{AreWords}
use Rattle.snapshot_words.specs.Outline.{IsOutline, outline_words, bytes_of}
use Rattle.snapshot_words.specs.Reading.{Whole, outline_from}
use Rattle.snapshot_words.specs.Taking.{TakesOutline, remainder}
use Rattle.snapshot_words.specs.Values.{front_words, pending_words, store_words, run_words}
use Rattle.snapshot_words.specs.declared.outline.Outline.{Outline}
use Rattle.snapshot_words.specs.declared.section.Section.TheVariants as section
use Rattle.snapshot_words.proofs.Chain.{all_came}
use Rattle.snapshot_words.proofs.ReadBack.{whole_takes}
use Rattle.snapshot_words.proofs.Wholes.{words_left_part, words_right_part, height_few, front_whole, registers_whole}
use Rattle.snapshot_words.proofs.Wholes.{pending_whole, store_whole, run_whole}

abbrev outline_front : Outline → List ℕ
outline_front o = front_words o.regs.height o.played

parts_fit : (o : Outline) → AreWords (outline_words o)
    → AreWords
    (outline_front o ++ words_of o.regs ++ pending_words o.pending o.load ++ store_words o.store ++ run_words o.run)
unfolding outline_words
parts_fit o are = are

outline_taken : (o : Outline) (offset : ℕ) → IsOutline o → AreWords (outline_words o)
    → (end : ℕ) × TakesOutline None None offset end o
outline_taken o offset is are =
    let tall = height_few o.regs.height is.height in
    let fit = parts_fit o are in
    let upto_store = words_left_part
    (outline_front o ++ words_of o.regs ++ pending_words o.pending o.load ++ store_words o.store)
    (run_words o.run) fit in
    let upto_pending = words_left_part (outline_front o ++ words_of o.regs ++ pending_words o.pending o.load)
    (store_words o.store) upto_store in
    let upto_registers =
    words_left_part (outline_front o ++ words_of o.regs) (pending_words o.pending o.load) upto_pending in
    let place1 = offset + 4 * length (outline_front o) in
    let place2 = place1 + 4 * length (words_of o.regs) in
    let place3 = place2 + 4 * length (pending_words o.pending o.load) in
    let place4 = place3 + 4 * length (store_words o.store) in
    let place5 = place4 + 4 * length (run_words o.run) in
    let front =
    whole_takes section.Front (outline_front o) offset (front_whole o.regs.height o.played is.height is.few) in
    let registers = whole_takes (section.Registers o.regs.height) (words_of o.regs) place1
    (registers_whole o.regs is.bits (words_right_part (outline_front o) (words_of o.regs) upto_registers)) in
    let pendings = whole_takes (section.Pending o.regs.height) (pending_words o.pending o.load) place2
    (pending_whole o.regs.height tall o.pending o.load is.pending is.link is.load
    (words_right_part (outline_front o ++ words_of o.regs) (pending_words o.pending o.load) upto_pending)) in
    let stores =
    whole_takes (section.Store o.regs.height) (store_words o.store) place3
    (store_whole o.regs.height tall o.store is.store) in
    let runs = whole_takes section.Run (run_words o.run) place4 (run_whole o.run is.run) in (
      place5,
      all_came (remainder offset None) (remainder place1 None) o.regs.height o.played front (remainder place2 None)
          o.regs refl registers (remainder place3 None) o.pending o.load is.link pendings (remainder place4 None)
          o.store stores (remainder place5 None) o.run runs,
    )

pub outline_read : (o : Outline) (offset : ℕ) (rest : List ℕ) → IsOutline o → AreWords (outline_words o)
    → outline_from offset (bytes_of (outline_words o) ++ rest) ≡ Whole o (offset + 4 * length (outline_words o)) rest
outline_read o offset rest is are =
    let taken = outline_taken o offset is are in
    taken.1.says rest ∙ ap (λ end. Whole o end rest) taken.1.moved
