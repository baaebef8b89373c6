-- Words and cells, part by part.
use Rattle.std.proofs.Common.{◌≡◌, ◌≤◌, ◌<◌, ◌+◌, ◌*◌, ◌/◌, ◌%◌, ◌^◌, ◌++◌, ℕ, zero, suc, List, []}
use Rattle.std.proofs.Common.{◌∷◌, length, take, drop, get_or, arith, refl, ap, sym, subst, ◌∙◌, append-nil}
use Rattle.std.proofs.Common.{append_assoc, length-drop, set}
use Rattle.std.proofs.lemmas.Grind.{flat_map-append}
use Rattle.std.proofs.lemmas.List.{drop-drop, drop_all, take-append-drop, take_all, take_more}
use Rattle.std.proofs.lemmas.List.{take_more_set, get_or-drop, length-take-le}
use Rattle.std.proofs.lemmas.Slice.{take-put_mid}
use Rattle.std.proofs.Math.Seq.{take-add}
use borrow.Rule.Slice.PartMut.{put_mid}
use Rattle.gpu_capture.specs.Written.{word_bytes}
use Rattle.ot_clear_dma.specs.Ram.{word_at, memory_words}
use Rattle.snapshot_words.specs.Outline.{bytes_of}
use Rattle.snapshot_words.specs.Values.{cell_words}

-- ---- words as bytes

-- one more word
pub word_on : (words bytes part : List ℕ) (i w : ℕ) → take (4 * i) bytes ≡ bytes_of (take i words)
    → part ≡ word_bytes (get_or words i 0) → length part ≡ 4 → i < length words → 4 * i ≤ length bytes
    → take (4 * (i + 1)) (put_mid (4 * i) w bytes part) ≡ bytes_of (take (i + 1) words)
word_on words bytes part i w so_far is long lt le =
    rw (take-put_mid (4 * i) w bytes part (4 * (i + 1)) (omega (arith, long)) le, so_far, is)
    (sym (ap bytes_of (take_more words i 0 lt) ∙ flat_map-append word_bytes (take i words) (get_or words i 0 ∷ [])
    ∙ ap (λ bytes. bytes_of (take i words) ++ bytes) (append-nil (word_bytes (get_or words i 0)))))

-- all 512 words
pub words_whole : (words bytes : List ℕ) (i : ℕ) → take (4 * i) bytes ≡ bytes_of (take i words) → i ≡ 512
    → length bytes ≡ 2048 → length words ≡ 512 → bytes ≡ bytes_of words
words_whole words bytes i so_far all long count =
    sym (take_all (4 * i) bytes (omega (arith, all, long))) ∙ so_far
    ∙ ap bytes_of (take_all i words (omega (arith, all, count)))

-- the words from index k on: n words, then the rest
pub words_split : (words : List ℕ) (k n m : ℕ) → m ≡ k + n
    → bytes_of (drop k words) ≡ bytes_of (take n (drop k words)) ++ bytes_of (drop m words)
words_split words k n m is =
    rw is
    (ap bytes_of (sym (take-append-drop n (drop k words)))
    ∙ flat_map-append word_bytes (take n (drop k words)) (drop n (drop k words))
    ∙ ap (λ xs. bytes_of (take n (drop k words)) ++ bytes_of xs) (drop-drop n k words))

-- ---- main memory

pub ram_word : (ram : List ℕ) (k : ℕ) → k < memory_words → word_at ram (4 * k) ≡ get_or ram k 0
ram_word ram k lt =
    let e : 4 * k / 4 % 2 ^ 19 ≡ k = omega (arith, lt) in ap (λ index. get_or ram index 0) e

-- one more word
pub ram_on : (ram words : List ℕ) (first i word : ℕ) → length ram ≡ memory_words → first + 512 ≤ memory_words → i < 512
    → length words ≡ 512 → take i words ≡ take i (drop first ram) → word ≡ word_at ram (4 * (first + i))
    → take (i + 1) (set words i word) ≡ take (i + 1) (drop first ram)
ram_on ram words first i word long fits lt count so_far is =
    let d = length-drop first ram in
    let next : word ≡ get_or (drop first ram) i 0 =
    is ∙ ram_word ram (first + i) (omega (arith, lt, fits)) ∙ sym (get_or-drop first ram i 0) in
    take_more_set words i word (omega (arith, lt, count)) ∙ ap (λ xs. xs ++ word ∷ []) so_far
    ∙ ap (λ w. take i (drop first ram) ++ w ∷ []) next
    ∙ sym (take_more (drop first ram) i 0 (omega (arith, d, long, fits, lt)))

pub ram_whole : (ram words : List ℕ) (first i : ℕ) → take i words ≡ take i (drop first ram) → i ≡ 512
    → length words ≡ 512 → words ≡ take 512 (drop first ram)
ram_whole ram words first i so_far all count =
    let P : ℕ → Type 0 = λ n. take i words ≡ take n (drop first ram) in
    sym (take_all i words (omega (arith, all, count))) ∙ subst P all so_far

-- ---- cells as words

pub cells_append : (h : ℕ) (xs ys : List ℕ) → length xs ≡ 2 * h → cell_words (xs ++ ys) ≡ cell_words xs ++ cell_words ys
cells_append h [] ys even = refl
cells_append h (x ∷ []) ys even = absurd (omega (arith, even))
cells_append zero (x ∷ y ∷ xs) ys even = absurd (omega (arith, even))
cells_append (suc h) (x ∷ y ∷ xs) ys even =
    ap (λ words. (x + y * 2 ^ 16) ∷ words) (cells_append h xs ys (omega (arith, even)))

pub cells_length : (h : ℕ) (m : List ℕ) → length m ≡ 2 * h → length (cell_words m) ≡ h
cells_length zero [] even = refl
cells_length (suc h) [] even = absurd (omega (arith, even))
cells_length h (x ∷ []) even = absurd (omega (arith, even))
cells_length zero (x ∷ y ∷ m) even = absurd (omega (arith, even))
cells_length (suc h) (x ∷ y ∷ m) even = ap suc (cells_length h m (omega (arith, even)))

-- two more cells
pair_on : (lanes : List ℕ) (j : ℕ) → 2 * j + 1 < length lanes
    → cell_words (take (2 * (j + 1)) lanes)
    ≡ cell_words (take (2 * j) lanes) ++ (get_or lanes (2 * j) 0 + get_or lanes (2 * j + 1) 0 * 2 ^ 16) ∷ []
pair_on lanes j lt =
    let e : 2 * (j + 1) ≡ 2 * j + 1 + 1 = omega arith in
    let even = length-take-le (2 * j) lanes (omega (arith, lt)) in
    rw (e, take_more lanes (2 * j + 1) 0 lt, take_more lanes (2 * j) 0 (omega (arith, lt)))
    (ap cell_words (append_assoc (take (2 * j) lanes) (get_or lanes (2 * j) 0 ∷ []) (get_or lanes (2 * j + 1) 0 ∷ []))
    ∙ cells_append j (take (2 * j) lanes) (get_or lanes (2 * j) 0 ∷ get_or lanes (2 * j + 1) 0 ∷ []) even)

pub put_on : (lanes words : List ℕ) (j word : ℕ) → take j words ≡ cell_words (take (2 * j) lanes)
    → word ≡ get_or lanes (2 * j) 0 + get_or lanes (2 * j + 1) 0 * 2 ^ 16 → j < length words → 2 * j + 1 < length lanes
    → take (j + 1) (set words j word) ≡ cell_words (take (2 * (j + 1)) lanes)
put_on lanes words j word so_far is lt below =
    rw (take_more_set words j word lt, so_far, is) (sym (pair_on lanes j below))

pub lanes_whole : (lanes words : List ℕ) (j : ℕ) → take j words ≡ cell_words (take (2 * j) lanes) → j ≡ 8
    → length words ≡ 8 → length lanes ≡ 16 → words ≡ cell_words lanes
lanes_whole lanes words j so_far all long count =
    sym (take_all j words (omega (arith, all, long))) ∙ so_far
    ∙ ap cell_words (take_all (2 * j) lanes (omega (arith, all, count)))

-- ---- rows of cells

-- sixteen more cells
pub row_on : (m words part lanes : List ℕ) (start k w : ℕ)
    → take (8 * k) words ≡ cell_words (take (16 * k) (drop start m)) → part ≡ cell_words lanes
    → lanes ≡ take 16 (drop (start + 16 * k) m) → 8 * k ≤ length words → length part ≡ 8 → start + 16 * k ≤ length m
    → take (8 * (k + 1)) (put_mid (8 * k) w words part) ≡ cell_words (take (16 * (k + 1)) (drop start m))
row_on m words part lanes start k w so_far is loaded le long fits =
    let e : 16 * (k + 1) ≡ 16 * k + 16 = omega arith in
    let even : length (take (16 * k) (drop start m)) ≡ 2 * (8 * k) =
    length-take-le (16 * k) (drop start m) (let d = length-drop start m in omega (arith, d, fits)) ∙ omega arith in
    rw (take-put_mid (8 * k) w words part (8 * (k + 1)) (omega (arith, long)) le, so_far, is, loaded, e)
    (ap (λ xs. cell_words (take (16 * k) (drop start m)) ++ cell_words (take 16 xs)) (sym (drop-drop (16 * k) start m))
    ∙ sym (ap cell_words (take-add (16 * k) 16 (drop start m))
    ∙ cells_append (8 * k) (take (16 * k) (drop start m)) (take 16 (drop (16 * k) (drop start m))) even))

pub row_whole : (m words : List ℕ) (start k : ℕ) → take (8 * k) words ≡ cell_words (take (16 * k) (drop start m))
    → k ≡ 64 → length words ≡ 512 → words ≡ cell_words (take 1024 (drop start m))
row_whole m words start k so_far all long =
    let e : 16 * k ≡ 1024 = omega (arith, all) in
    let P : ℕ → Type 0 = λ n. take (8 * k) words ≡ cell_words (take n (drop start m)) in
    sym (take_all (8 * k) words (omega (arith, all, long))) ∙ subst P e so_far

-- the cells from index k on: one row, then the rest
pub rows_split : (m : List ℕ) (k next : ℕ) → next ≡ k + 1024 → next ≤ length m
    → bytes_of (cell_words (drop k m))
    ≡ bytes_of (cell_words (take 1024 (drop k m))) ++ bytes_of (cell_words (drop next m))
rows_split m k next is fits =
    let even : length (take 1024 (drop k m)) ≡ 2 * 512 =
    length-take-le 1024 (drop k m) (let d = length-drop k m in omega (arith, d, fits, is)) in
    rw is
    (ap (λ cells. bytes_of (cell_words cells)) (sym (take-append-drop 1024 (drop k m)))
    ∙ ap bytes_of (cells_append 512 (take 1024 (drop k m)) (drop 1024 (drop k m)) even)
    ∙ flat_map-append word_bytes (cell_words (take 1024 (drop k m))) (cell_words (drop 1024 (drop k m)))
    ∙ ap (λ xs. bytes_of (cell_words (take 1024 (drop k m))) ++ bytes_of (cell_words xs)) (drop-drop 1024 k m))

-- no cell follows the last one
pub rows_end : (m : List ℕ) (k : ℕ) → length m ≤ k → bytes_of (cell_words (drop k m)) ≡ []
rows_end m k le = ap (λ xs. bytes_of (cell_words xs)) (drop_all k m le)

pub words_end : (words : List ℕ) (k : ℕ) → length words ≤ k → bytes_of (drop k words) ≡ []
words_end words k le = ap bytes_of (drop_all k words le)
