-- The memories of a state are read from their bytes.
use Rattle.std.proofs.Common.{◌≡◌, ◌+◌, ◌*◌, ◌/◌, ◌%◌, ◌^◌, ◌++◌, List, [], ◌∷◌, ℕ, length, take, drop, nat_lt}
use Rattle.std.proofs.Common.{false, refl, ap, sym, ◌∙◌, arith, length-append}
use Rattle.std.proofs.Math.Seq.{take-append_seam, drop-append_seam}
use Rattle.gpu_capture.specs.Whole.{AreWords}
use Rattle.snapshot_words.specs.Outline.{bytes_of, AreCells}
use Rattle.snapshot_words.specs.Reading.{Whole, memory_from, memories_from, ram_words}
use Rattle.snapshot_words.specs.Values.{cell_words, cells_in}
use Rattle.snapshot_words.proofs.States.{words_back}
use Rattle.snapshot_words.specs.declared.outline.Outline.{Outline}
use Rattle.gpu_snapshot.proofs.Bytes.{length-bytes_of}
use Rattle.gpu_snapshot.proofs.CellWords.{count_words}

cells_back : (cells : List ℕ) → length cells % 2 ≡ 0 → AreCells cells → cells_in (cell_words cells) ≡ cells
cells_back [] even are = refl
cells_back (a ∷ []) even are = absurd (omega (arith, even))
cells_back (a ∷ b ∷ cells) even are =
    let low : (a + b * 2 ^ 16) % 2 ^ 16 ≡ a = omega (arith, are.0) in
    let high : (a + b * 2 ^ 16) / 2 ^ 16 ≡ b = omega (arith, are.0) in
    rw (low, high, cells_back cells (omega (arith, even)) are.1.1) refl

pub memory_back : (count offset : ℕ) (words rest : List ℕ) → length words ≡ count → AreWords words
    → memory_from count offset (bytes_of words ++ rest) ≡ Whole words (offset + 4 * count) rest
memory_back count offset words rest long are =
    let n : length (bytes_of words) ≡ 4 * count = (let e = length-bytes_of words in omega (arith, e, long)) in
    let all = length-append (bytes_of words) rest in
    let enough : nat_lt (length (bytes_of words ++ rest)) (4 * count) ≡ false = grind (arith, n, all) in
    let front : take (4 * count) (bytes_of words ++ rest) ≡ bytes_of words =
    ap (λ n. take n (bytes_of words ++ rest)) (sym n) ∙ take-append_seam (bytes_of words) rest in
    let after : drop (4 * count) (bytes_of words ++ rest) ≡ rest =
    ap (λ n. drop n (bytes_of words ++ rest)) (sym n) ∙ drop-append_seam (bytes_of words) rest in
    rw (enough, front, after, words_back words are) refl

ram_is : ram_words ≡ 524288
unfolding ram_words
ram_is = refl

cell_words_fit : (cells : List ℕ) → length cells % 2 ≡ 0 → AreCells cells → AreWords (cell_words cells)
cell_words_fit [] even are = tt
cell_words_fit (a ∷ []) even are = absurd (omega (arith, even))
cell_words_fit (a ∷ b ∷ cells) even are =
    (let p = are.0 in let q = are.1.0 in omega (arith, p, q), cell_words_fit cells (omega (arith, even)) are.1.1)

same_offset : (offset n m : ℕ) → offset + 4 * n + 4 * m ≡ offset + 4 * (n + m)
same_offset offset n m = omega arith

pub memories_back : (o : Outline) (m ram : List ℕ) (offset : ℕ) (rest : List ℕ) → length m ≡ 1024 * o.regs.height
    → AreCells m → length ram ≡ 524288 → AreWords ram
    → memories_from o offset (bytes_of (cell_words m) ++ (bytes_of ram ++ rest))
    ≡ Whole (record { outline = o; m = m; ram = ram }) (offset + 4 * (512 * o.regs.height + 524288)) rest
memories_back o m ram offset rest rows cells long words =
    let even : length m % 2 ≡ 0 = omega (arith, rows) in
    let count : length (cell_words m) ≡ 512 * o.regs.height = (let e = count_words m even in omega (arith, e, rows)) in
    let second : length ram ≡ ram_words = long ∙ sym ram_is in
    rw (
      memory_back (512 * o.regs.height) offset (cell_words m) (bytes_of ram ++ rest) count
          (cell_words_fit m even cells),
      memory_back ram_words (offset + 4 * (512 * o.regs.height)) ram rest second words,
      cells_back m even cells,
      ram_is,
    )
    (ap (λ p. Whole (record { outline = o; m = m; ram = ram }) p rest)
    (same_offset offset (512 * o.regs.height) 524288))
