-- Cells, two in each word.
use Rattle.std.proofs.Common.{◌≡◌, ◌<◌, ◌+◌, ◌-◌, ◌*◌, ◌/◌, ◌%◌, ◌^◌, ◌++◌, List, [], ◌∷◌, ℕ, zero, suc, Option}
use Rattle.std.proofs.Common.{Some, drop, subst, length, take, slice_set, get_or, get_or-take, length-append, inl}
use Rattle.std.proofs.Common.{inr, refl, ap, sym, ◌∙◌, arith}
use Rattle.std.proofs.lemmas.List.{length-take-le, take_all, get_or_append_left, get_or-append_right}
use Rattle.std.proofs.lemmas.Bool.{cases_lt}
use Rattle.std.proofs.lemmas.Grind.{same_number_lists}
use Rattle.dev_io.specs.Device.{prepended}
use Rattle.dev_io.proofs.Parts.{taken_on, prepended-nil}
use Rattle.event_play.specs.RigState.{RigState}
use Rattle.snapshot_words.specs.Outline.{bytes_of}
use Rattle.snapshot_words.specs.Taking.{IsWord}
use Rattle.snapshot_words.specs.Values.{cell_words}
use Rattle.snapshot_words.specs.declared.fault.SnapFault.{SnapFault}
use Rattle.gpu_core.specs.Kept.{IsSet}
use Rattle.gpu_snapshot.specs.Memories.{TakesCells, LacksWords, with_cells}
use Rattle.gpu_snapshot.proofs.Bytes.{bytes_of-append, AreCells-append, alone, lacks_later}
use Rattle.gpu_snapshot.proofs.Blocks.{cells_after, none_after}

pub cell_words-append : (xs ys : List ℕ) → length xs % 2 ≡ 0 → cell_words (xs ++ ys) ≡ cell_words xs ++ cell_words ys
cell_words-append [] ys even = refl
cell_words-append (a ∷ []) ys even = absurd (omega (arith, even))
cell_words-append (a ∷ b ∷ xs) ys even =
    ap (λ ws. (a + b * 2 ^ 16) ∷ ws) (cell_words-append xs ys (omega (arith, even)))

pub count_words : (cells : List ℕ) → length cells % 2 ≡ 0 → length (cell_words cells) ≡ length cells / 2
count_words [] even = refl
count_words (a ∷ []) even = absurd (omega (arith, even))
count_words (a ∷ b ∷ cells) even = let n = count_words cells (omega (arith, even)) in omega (arith, n, even)

two_set : (xs : List ℕ) (i low high : ℕ) → i + 1 < length xs
    → take (suc (suc i)) (slice_set (slice_set xs i low) (i + 1) high) ≡ take i xs ++ low ∷ high ∷ []
two_set [] i low high h = absurd (omega arith)
two_set (x ∷ []) i low high h = absurd (omega arith)
two_set (x ∷ y ∷ xs) zero low high h = refl
two_set (x ∷ y ∷ xs) (suc i) low high h =
    let e : suc i + 1 ≡ suc (i + 1) = omega arith in
    rw e (ap (λ ys. x ∷ ys) (two_set (y ∷ xs) i low high (omega arith)))

halves : (word : ℕ) → word % 2 ^ 16 + word / 2 ^ 16 * 2 ^ 16 ≡ word
halves word = omega arith

pub none_taken : (left : Option (List ℕ)) (cells : List ℕ) → TakesCells left left (take 0 cells)
none_taken left cells = record { bytes = prepended-nil left; each = tt }

-- cells, and then more
pub cells_on : (before mid now : Option (List ℕ)) (xs ys : List ℕ) → length xs % 2 ≡ 0 → TakesCells before mid xs
    → TakesCells mid now ys → TakesCells before now (xs ++ ys)
cells_on before mid now xs ys even were more = record {
  bytes = rw (cell_words-append xs ys even, bytes_of-append (cell_words xs) (cell_words ys))
      (taken_on before mid now (bytes_of (cell_words xs)) (bytes_of (cell_words ys)) were.bytes more.bytes);
  each = AreCells-append xs ys were.each more.each;
}

-- the two cells of a word
pair_taken : (before now : Option (List ℕ)) (word : ℕ) → IsWord before now word
    → TakesCells before now (word % 2 ^ 16 ∷ word / 2 ^ 16 ∷ [])
pair_taken before now word took = record {
  bytes = rw (halves word) (alone before now word took.bytes);
  each = (omega (arith), (omega (arith, took.fits), tt));
}

pub lanes_none : (block : List ℕ) (c : ℕ) (lanes : List ℕ)
    → TakesCells (Some (drop (32 * c) block)) (Some (drop (4 * (8 * c + 0)) block)) (take 0 lanes)
lanes_none block c lanes =
    let e : 32 * c ≡ 4 * (8 * c + 0) = omega arith in
    subst (λ at. TakesCells (Some (drop (32 * c) block)) (Some (drop at block)) (take 0 lanes)) e
    (none_taken (Some (drop (32 * c) block)) lanes)

pub lanes_on : (block xs new : List ℕ) (c k word low high : ℕ) → length xs ≡ 16 → k < 8
    → TakesCells (Some (drop (32 * c) block)) (Some (drop (4 * (8 * c + k)) block)) (take (2 * k) xs)
    → IsWord (Some (drop (4 * (8 * c + k)) block)) (Some (drop (4 * (8 * c + k + 1)) block)) word
    → low ≡ word % 2 ^ 16 → high ≡ word / 2 ^ 16
    → new ≡ slice_set (slice_set xs (2 * k) low) (2 * k + 1) high
    → TakesCells (Some (drop (32 * c) block)) (Some (drop (4 * (8 * c + (k + 1))) block)) (take (2 * (k + 1)) new)
lanes_on block xs new c k word low high long within were took is_low is_high is =
    let e : 2 * (k + 1) ≡ suc (suc (2 * k)) = omega arith in
    let at : 4 * (8 * c + k + 1) ≡ 4 * (8 * c + (k + 1)) = omega arith in
    let even : length (take (2 * k) xs) % 2 ≡ 0 =
    let n = length-take-le (2 * k) xs (omega (arith, long, within)) in omega (arith, n) in
    let set : take (2 * (k + 1)) new ≡ take (2 * k) xs ++ low ∷ high ∷ [] =
    rw (e, is) (two_set xs (2 * k) low high (omega (arith, long, within))) in
    let first = Some (drop (32 * c) block) in
    rw (set, is_low, is_high) (subst (λ offset. TakesCells first (Some (drop offset block))
    (take (2 * k) xs ++ word % 2 ^ 16 ∷ word / 2 ^ 16 ∷ [])) at
    (cells_on first (Some (drop (4 * (8 * c + k)) block)) (Some (drop (4 * (8 * c + k + 1)) block)) (take (2 * k) xs)
    (word % 2 ^ 16 ∷ word / 2 ^ 16 ∷ []) even were
    (pair_taken (Some (drop (4 * (8 * c + k)) block)) (Some (drop (4 * (8 * c + k + 1)) block)) word took)))

pub lanes_all : (block xs : List ℕ) (c k : ℕ) → length xs ≡ 16 → k ≡ 8
    → TakesCells (Some (drop (32 * c) block)) (Some (drop (4 * (8 * c + k)) block)) (take (2 * k) xs)
    → TakesCells (Some (drop (32 * c) block)) (Some (drop (32 * (c + 1)) block)) xs
lanes_all block xs c k long all takes =
    let at : 4 * (8 * c + k) ≡ 32 * (c + 1) = omega (arith, all) in
    let e : take (2 * k) xs ≡ xs = take_all (2 * k) xs (omega (arith, long, all)) in
    rw (at, e) at takes

pub all_taken : (before now : Option (List ℕ)) (xs : List ℕ) (k : ℕ) → k ≡ length xs → TakesCells before now (take k xs)
    → TakesCells before now xs
all_taken before now xs k all takes = let e : take k xs ≡ xs = take_all k xs (omega (arith, all)) in rw e at takes

-- ---- chunks of a memory

-- cells so far and sixteen more
chunk_on : (old new lanes : List ℕ) (start : ℕ) → length lanes ≡ 16 → IsSet old start lanes new
    → take (start + 16) new ≡ take start old ++ lanes
chunk_on old new lanes start long set =
    let all = length-take-le (start + 16) new (omega (arith, set.in_cells, set.count)) in
    let front = length-take-le start old (omega (arith, set.in_cells)) in
    let both = length-append (take start old) lanes in
    same_number_lists (take (start + 16) new) (take start old ++ lanes) (omega (arith, all, front, both, long))
    (λ k lt. elim (cases_lt k start) [
      | inl before ↦
          get_or-take (start + 16) new k 0 (omega (arith, lt, all)) ∙ set.others k (inl before)
          ∙ sym (get_or_append_left (take start old) lanes 0 k (omega (arith, front, before))
          ∙ get_or-take start old k 0 before)
      | inr after ↦
          let at : k ≡ start + (k - start) = omega (arith, after) in
          let few : k - start < 16 = omega (arith, after, lt, all) in
          get_or-take (start + 16) new k 0 (omega (arith, lt, all)) ∙ ap (λ i. get_or new i 0) at
          ∙ set.written (k - start) few
          ∙ sym (get_or-append_right (take start old) lanes start k 0 front after)
    ])

pub chunk_taken : (before mid now : Option (List ℕ)) (old new lanes : List ℕ) (c : ℕ) → length lanes ≡ 16
    → IsSet old (16 * c) lanes new → TakesCells before mid (take (16 * c) old) → TakesCells mid now lanes
    → TakesCells before now (take (16 * (c + 1)) new)
chunk_taken before mid now old new lanes c long set were took =
    let e : 16 * (c + 1) ≡ 16 * c + 16 = omega arith in
    let front = length-take-le (16 * c) old (omega (arith, set.in_cells)) in
    let even : length (take (16 * c) old) % 2 ≡ 0 = omega (arith, front) in
    rw (e, chunk_on old new lanes (16 * c) long set)
    (cells_on before mid now (take (16 * c) old) lanes even were took)

-- a block was read next
pub block_next : (before mid now : Option (List ℕ)) (cells block : List ℕ) → TakesCells before mid cells
    → mid ≡ prepended block now → TakesCells before (prepended block now) cells
block_next before mid now cells block were took = subst (λ left. TakesCells before left cells) took were

-- a row begins
pub row_begins : (before now : Option (List ℕ)) (m block : List ℕ) (y : ℕ)
    → TakesCells before (prepended block now) (take (1024 * y) m)
    → TakesCells before (prepended (drop (32 * 0) block) now) (take (16 * (64 * y + 0)) m)
row_begins before now m block y were =
    let e : 1024 * y ≡ 16 * (64 * y + 0) = omega arith in
    subst (λ n. TakesCells before (prepended block now) (take n m)) e were

-- it ends if nothing is left of the block
pub row_ends : (before now : Option (List ℕ)) (m block : List ℕ) (y c : ℕ) → length block ≡ 2048 → c ≡ 64
    → TakesCells before (prepended (drop (32 * c) block) now) (take (16 * (64 * y + c)) m)
    → TakesCells before now (take (1024 * (y + 1)) m)
row_ends before now m block y c long all takes =
    let e : 16 * (64 * y + c) ≡ 1024 * (y + 1) = omega (arith, all) in
    let none = none_after block (32 * c) now (omega (arith, long, all)) in
    rw (none, e) at takes

-- sixteen more cells of a row
pub row_on : (before now : Option (List ℕ)) (old new lanes block : List ℕ) (y c : ℕ) → length lanes ≡ 16
    → IsSet old (16 * (64 * y + c)) lanes new
    → TakesCells before (prepended (drop (32 * c) block) now) (take (16 * (64 * y + c)) old)
    → TakesCells (Some (drop (32 * c) block)) (Some (drop (32 * (c + 1)) block)) lanes
    → TakesCells before (prepended (drop (32 * (c + 1)) block) now) (take (16 * (64 * y + (c + 1))) new)
row_on before now old new lanes block y c long set were took =
    let e : 64 * y + c + 1 ≡ 64 * y + (c + 1) = omega arith in
    subst (λ n. TakesCells before (prepended (drop (32 * (c + 1)) block) now) (take (16 * n) new)) e
    (chunk_taken before (prepended (drop (32 * c) block) now) (prepended (drop (32 * (c + 1)) block) now) old new lanes
    (64 * y + c) long set were (cells_after (drop (32 * c) block) (drop (32 * (c + 1)) block) lanes now took))

-- the block of a row breaks off
pub row_lacks : (before mid now : Option (List ℕ)) (m : List ℕ) (offset y rows : ℕ) (why : SnapFault)
    → length m ≡ 1024 * rows → y < rows → TakesCells before mid (take (1024 * y) m)
    → LacksWords mid now (offset + 2048 * y) 512 why → LacksWords before now offset (512 * rows) why
row_lacks before mid now m offset y rows why all within were lack =
    let n = length-take-le (1024 * y) m (omega (arith, all, within)) in
    let count : length (cell_words (take (1024 * y) m)) ≡ 512 * y =
    let w = count_words (take (1024 * y) m) (omega (arith, n)) in omega (arith, n, w) in
    lacks_later before mid now (cell_words (take (1024 * y) m)) offset (offset + 2048 * y) 512
    (512 * rows) why were.bytes
    (omega (arith, count, within)) (omega (arith, count)) lack

pub others_on : (first mid now : RigState) → ◌≡◌ {A = RigState} mid (with_cells first mid.gpu.parts.m)
    → ◌≡◌ {A = RigState} now (with_cells mid now.gpu.parts.m)
    → ◌≡◌ {A = RigState} now (with_cells first now.gpu.parts.m)
others_on first mid now were is =
    let f : RigState → RigState = λ r. with_cells r now.gpu.parts.m in is ∙ ap f were

-- all cells were read, but not all of main memory
pub ram_lacks : (before mid now : Option (List ℕ)) (m : List ℕ) (offset at height : ℕ) (why : SnapFault)
    → length m ≡ 1024 * height → at ≡ offset + 2048 * height → TakesCells before mid m
    → LacksWords mid now at 524288 why → LacksWords before now offset (512 * height + 524288) why
ram_lacks before mid now m offset at height why long is were lack =
    let count = count_words m (omega (arith, long)) in
    lacks_later before mid now (cell_words m) offset at 524288 (512 * height + 524288) why were.bytes
    (omega (arith, count, long)) (omega (arith, count, long, is)) lack
