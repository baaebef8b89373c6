-- Every state with its memories is read from its encoding.
use Rattle.std.proofs.Common.{◌≡◌, ◌+◌, ◌*◌, ◌/◌, ◌%◌, ◌^◌, ◌++◌, List, [], ◌∷◌, ℕ, false, length, take}
use Rattle.std.proofs.Common.{drop, nat_lt}
use Rattle.std.proofs.Common.{refl, ap, sym, ◌∙◌, append_assoc, length-append, arith}
use Rattle.std.proofs.lemmas.Bool.{le-ltb}
use Rattle.std.proofs.lemmas.List.{take-append-le, take_all, drop-append-le, drop_all}
use Rattle.byteorder.specs.Endian.{little_number, little_bytes}
use Rattle.byteorder.specs.Numbers.{little_number-reads_back}
use Rattle.gpu_capture.specs.Whole.{AreWords}
use Rattle.gpu_capture.specs.Written.{word_bytes}
use Rattle.gpu_capture.proofs.Written.{words_length}
use Rattle.snapshot_words.specs.Outline.{IsOutline, AreCells, AreMemories, outline_words, bytes_of, snap_bytes}
use Rattle.snapshot_words.specs.Reading.{Found, Whole, Snapshot, found_then, words_in, memory_from, memories_from}
use Rattle.snapshot_words.specs.Reading.{ram_words}
use Rattle.snapshot_words.specs.Reading.{outline_from, state_from}
use Rattle.snapshot_words.specs.Values.{cell_words, cells_in}
use Rattle.snapshot_words.specs.declared.outline.Outline.{Outline}
use Rattle.snapshot_words.proofs.Spelling.{outline_read}

-- ---- words of a memory

pub words_back : (words : List ℕ) → AreWords words → words_in (bytes_of words) ≡ words
unfolding word_bytes
words_back [] are = refl
words_back (w ∷ words) are =
    let back : little_number 4 (little_bytes 4 w ++ []) ≡ w = little_number-reads_back 4 w [] are.0 in
    ap (λ x. x ∷ words_in (bytes_of words)) back ∙ ap (λ l. w ∷ l) (words_back words are.1)

pub memory_read : (count offset : ℕ) (words rest : List ℕ) → AreWords words → length words ≡ count
    → memory_from count offset (bytes_of words ++ rest) ≡ Whole words (offset + 4 * count) rest
memory_read count offset words rest are is =
    let long = words_length words in
    let all = length-append (bytes_of words) rest in
    let enough : nat_lt (length (bytes_of words ++ rest)) (4 * count) ≡ false =
    le-ltb _ _ (omega (arith, long, all, is)) in
    let front : take (4 * count) (bytes_of words ++ rest) ≡ bytes_of words =
    take-append-le (4 * count) (bytes_of words) rest (omega (arith, long, is))
    ∙ take_all (4 * count) (bytes_of words) (omega (arith, long, is)) in
    let after : drop (4 * count) (bytes_of words ++ rest) ≡ rest =
    drop-append-le (4 * count) (bytes_of words) rest (omega (arith, long, is))
    ∙ ap (λ l. l ++ rest) (drop_all (4 * count) (bytes_of words) (omega (arith, long, is))) in
    rw (enough, front, after, words_back words are) refl

-- ---- cells

cells_back : (m : List ℕ) → AreCells m → length m % 2 ≡ 0 → cells_in (cell_words m) ≡ m
cells_back [] are even = refl
cells_back (low ∷ []) are even = absurd (omega (arith, even))
cells_back (low ∷ high ∷ cells) are even =
    let fits = are.0 in
    let low_back : (low + high * 2 ^ 16) % 2 ^ 16 ≡ low = omega (arith, fits) in
    let high_back : (low + high * 2 ^ 16) / 2 ^ 16 ≡ high = omega (arith, fits) in
    rw (low_back, high_back) (ap (λ l. low ∷ high ∷ l) (cells_back cells are.1.1 (omega (arith, even))))

cells_length : (m : List ℕ) → length m % 2 ≡ 0 → 2 * length (cell_words m) ≡ length m
cells_length [] even = refl
cells_length (low ∷ []) even = absurd (omega (arith, even))
cells_length (low ∷ high ∷ cells) even = let e = cells_length cells (omega (arith, even)) in omega (arith, e)

cells_fit : (m : List ℕ) → AreCells m → AreWords (cell_words m)
cells_fit [] are = tt
cells_fit (low ∷ []) are = let fits = are.0 in (omega (arith, fits), tt)
cells_fit (low ∷ high ∷ cells) are =
    let low_fits = are.0 in
    let high_fits = are.1.0 in
    (omega (arith, low_fits, high_fits), cells_fit cells are.1.1)

-- ---- a whole state

ram_count : ram_words ≡ 524288
unfolding ram_words
ram_count = refl

snap_is : (o : Outline) (m ram : List ℕ)
    → snap_bytes o m ram ≡ (bytes_of (outline_words o) ++ bytes_of (cell_words m)) ++ bytes_of ram
unfolding snap_bytes
snap_is o m ram = refl

state_is : (offset : ℕ) (bytes : List ℕ)
    → state_from offset bytes ≡ found_then (outline_from offset bytes) memories_from
unfolding state_from
state_is offset bytes = refl

-- after the cells
with_ram : (o : Outline) (cells : List ℕ) → ℕ → List ℕ → Found Snapshot
with_ram o cells offset rest =
    found_then (memory_from ram_words offset rest)
    (λ ram. Whole (record { outline = o; m = cells_in cells; ram = ram }))

memories_read : (o : Outline) (m ram : List ℕ) (offset : ℕ) (rest : List ℕ) → AreMemories o m ram
    → memories_from o offset (bytes_of (cell_words m) ++ (bytes_of ram ++ rest))
    ≡ Whole (record { outline = o; m = m; ram = ram }) (offset + 4 * (512 * o.regs.height) + 4 * ram_words) rest
unfolding with_ram
memories_read o m ram offset rest are =
    let cells = are.cells in
    let even : length m % 2 ≡ 0 = omega (arith, cells) in
    let half = cells_length m even in
    let count : length (cell_words m) ≡ 512 * o.regs.height = omega (arith, half, cells) in
    ap (λ found. found_then found (with_ram o))
    (memory_read (512 * o.regs.height) offset (cell_words m) (bytes_of ram ++ rest) (cells_fit m are.each) count)
    ∙ ap (λ found. found_then found (λ ram. Whole (record { outline = o; m = cells_in (cell_words m); ram = ram })))
    (memory_read ram_words (offset + 4 * (512 * o.regs.height)) ram rest are.words (are.long ∙ sym ram_count))
    ∙ ap (λ (cells : List ℕ). Whole (record { outline = o; m = cells; ram = ram }) (offset + 4 *
    (512 * o.regs.height) + 4 * ram_words) rest)
    (cells_back m are.each even)

pub state_read : (o : Outline) (m ram : List ℕ) (offset : ℕ) (rest : List ℕ) → IsOutline o → AreWords (outline_words o)
    → AreMemories o m ram → state_from offset (snap_bytes o m ram ++ rest)
    ≡ Whole (record { outline = o; m = m; ram = ram }) (offset + length (snap_bytes o m ram)) rest
state_read o m ram offset rest is fit are =
    let head = bytes_of (outline_words o) in
    let cells = bytes_of (cell_words m) in
    let grouped : snap_bytes o m ram ++ rest ≡ head ++ (cells ++ (bytes_of ram ++ rest)) =
    ap (λ l. l ++ rest) (snap_is o m ram) ∙ append_assoc (head ++ cells) (bytes_of ram) rest
    ∙ append_assoc head cells (bytes_of ram ++ rest) in
    let count_m = are.cells in
    let half = cells_length m (omega (arith, count_m)) in
    let ram_long = are.long ∙ sym ram_count in
    let a = words_length (outline_words o) in
    let b = words_length (cell_words m) in
    let c = words_length ram in
    let inner = length-append head cells in
    let outer = length-append (head ++ cells) (bytes_of ram) in
    let whole = ap length (snap_is o m ram) in
    let end : offset + 4 * length (outline_words o) + 4 * (512 * o.regs.height) + 4 * ram_words ≡ offset + length
    (snap_bytes o m ram) =
    omega (arith, half, count_m, ram_long, a, b, c, inner, outer, whole) in
    ap (state_from offset) grouped ∙ state_is offset (head ++ (cells ++ (bytes_of ram ++ rest)))
    ∙ ap (λ found. found_then found memories_from) (outline_read o offset (cells ++ (bytes_of ram ++ rest)) is fit)
    ∙ memories_read o m ram (offset + 4 * length (outline_words o)) rest are
    ∙ ap (λ offset. Whole (record { outline = o; m = m; ram = ram }) offset rest) end
