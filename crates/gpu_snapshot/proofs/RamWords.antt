-- Main memory, word after word.
use Rattle.std.proofs.Common.{◌≡◌, ◌<◌, ◌+◌, ◌*◌, ◌++◌, List, [], ◌∷◌, ℕ, zero, suc, Option, length, take}
use Rattle.std.proofs.Common.{Some, drop, subst, slice_set, refl, ap, sym, ◌∙◌, arith}
use Rattle.std.proofs.lemmas.List.{length-take-le, take_all}
use Rattle.dev_io.specs.Device.{prepended}
use Rattle.dev_io.proofs.Parts.{taken_on, prepended-nil}
use Rattle.event_play.specs.RigState.{RigState}
use Rattle.ot_clear_dma.specs.Ram.{set, place_of}
use Rattle.snapshot_words.specs.Outline.{bytes_of}
use Rattle.snapshot_words.specs.Taking.{IsWord}
use Rattle.snapshot_words.specs.declared.fault.SnapFault.{SnapFault}
use Rattle.gpu_snapshot.specs.Memories.{TakesWords, LacksWords}
use Rattle.gpu_snapshot.proofs.Bytes.{bytes_of-append, AreWords-append, alone, lacks_later}
use Rattle.gpu_snapshot.proofs.Blocks.{none_after, word_after}

take_set_on : (xs : List ℕ) (i w : ℕ) → i < length xs → take (suc i) (slice_set xs i w) ≡ take i xs ++ w ∷ []
take_set_on [] i w h = absurd (omega arith)
take_set_on (x ∷ xs) zero w h = refl
take_set_on (x ∷ xs) (suc i) w h = ap (λ ys. x ∷ ys) (take_set_on xs i w (omega arith))

place_back : (i : ℕ) → i < 524288 → place_of (4 * i) ≡ i
place_back i h = omega (arith, h)

next_is_suc : (i : ℕ) → i + 1 ≡ suc i
next_is_suc i = omega arith

-- all but main memory stays
pub others_on : (first mid now : RigState) (words : List ℕ) → ◌≡◌ {A = RigState} mid (record first { ram = mid.ram })
    → ◌≡◌ {A = RigState} now (record mid { ram = words }) → ◌≡◌ {A = RigState} now (record first { ram = now.ram })
others_on first mid now words were is =
    let with_words : RigState → RigState = λ r. record r { ram = words } in
    let first_with : List ℕ → RigState = λ ram. record first { ram = ram } in
    is ∙ ap with_words were ∙ ap first_with (sym (ap (λ (r : RigState). r.ram) is))

pub none_taken : (left : Option (List ℕ)) (ram : List ℕ) → TakesWords left left (take 0 ram)
none_taken left ram = record { bytes = prepended-nil left; each = tt }

pub word_taken : (before mid now : Option (List ℕ)) (ram new : List ℕ) (i word : ℕ) → length ram ≡ 524288 → i < 524288
    → TakesWords before mid (take i ram) → IsWord mid now word → new ≡ set ram (4 * i) word
    → TakesWords before now (take (i + 1) new)
word_taken before mid now ram new i word long within were took is =
    let put : new ≡ slice_set ram i word = is ∙ ap (λ p. slice_set ram p word) (place_back i within) in
    let on : take (i + 1) new ≡ take i ram ++ word ∷ [] =
    rw (next_is_suc i, put) (take_set_on ram i word (omega (arith, long, within))) in
    rw on (record {
      bytes = rw (bytes_of-append (take i ram) (word ∷ []))
          (taken_on before mid now (bytes_of (take i ram)) (bytes_of (word ∷ [])) were.bytes
          (alone mid now word took.bytes));
      each = AreWords-append (take i ram) (word ∷ []) were.each (took.fits, tt);
    })

-- a block was read next
pub block_next : (before mid now : Option (List ℕ)) (words block : List ℕ) → TakesWords before mid words
    → mid ≡ prepended block now → TakesWords before (prepended block now) words
block_next before mid now words block were took = subst (λ left. TakesWords before left words) took were

-- a block begins
pub block_begins : (before now : Option (List ℕ)) (ram block : List ℕ) (b : ℕ)
    → TakesWords before (prepended block now) (take (512 * b) ram)
    → TakesWords before (prepended (drop (4 * 0) block) now) (take (512 * b + 0) ram)
block_begins before now ram block b were =
    let e : 512 * b ≡ 512 * b + 0 = omega arith in
    subst (λ n. TakesWords before (prepended block now) (take n ram)) e were

-- it ends if nothing is left of it
pub block_ends : (before now : Option (List ℕ)) (ram block : List ℕ) (b k : ℕ) → length block ≡ 2048 → k ≡ 512
    → TakesWords before (prepended (drop (4 * k) block) now) (take (512 * b + k) ram)
    → TakesWords before now (take (512 * (b + 1)) ram)
block_ends before now ram block b k long all takes =
    let e : 512 * b + k ≡ 512 * (b + 1) = omega (arith, all) in
    let none = none_after block (4 * k) now (omega (arith, long, all)) in
    rw (none, e) at takes

-- one more word of a block
pub block_on : (before now : Option (List ℕ)) (ram new block : List ℕ) (b k word : ℕ) → length ram ≡ 524288
    → 512 * b + k < 524288 → TakesWords before (prepended (drop (4 * k) block) now) (take (512 * b + k) ram)
    → IsWord (Some (drop (4 * k) block)) (Some (drop (4 * (k + 1)) block)) word
    → new ≡ set ram (4 * (512 * b + k)) word
    → TakesWords before (prepended (drop (4 * (k + 1)) block) now) (take (512 * b + (k + 1)) new)
block_on before now ram new block b k word long within were took is =
    let e : 512 * b + k + 1 ≡ 512 * b + (k + 1) = omega arith in
    subst (λ n. TakesWords before (prepended (drop (4 * (k + 1)) block) now) (take n new)) e
    (word_taken before (prepended (drop (4 * k) block) now) (prepended (drop (4 * (k + 1)) block) now) ram new
    (512 * b + k) word long within were
    (word_after (drop (4 * k) block) (drop (4 * (k + 1)) block) word now took) is)

-- a block breaks off
pub block_lacks : (before mid now : Option (List ℕ)) (ram : List ℕ) (offset b blocks : ℕ) (why : SnapFault)
    → length ram ≡ 524288 → b < blocks → 512 * blocks ≡ 524288 → TakesWords before mid (take (512 * b) ram)
    → LacksWords mid now (offset + 2048 * b) 512 why → LacksWords before now offset (512 * blocks) why
block_lacks before mid now ram offset b blocks why long within all were lack =
    let count : length (take (512 * b) ram) ≡ 512 * b =
    length-take-le (512 * b) ram (omega (arith, long, within, all)) in
    lacks_later before mid now (take (512 * b) ram) offset (offset + 2048 * b) 512 (512 * blocks) why were.bytes
    (omega (arith, count, within)) (omega (arith, count)) lack

pub all_taken : (before now : Option (List ℕ)) (ram : List ℕ) (n : ℕ) → n ≡ length ram
    → TakesWords before now (take n ram) → TakesWords before now ram
all_taken before now ram n all takes =
    let e : take n ram ≡ ram = take_all n ram (omega (arith, all)) in rw e at takes
