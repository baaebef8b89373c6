-- Blocks of 512 words, if the source states its bytes.
use Rattle.std.proofs.Common.{◌≡◌, ◌≤◌, ◌<◌, ◌+◌, ◌*◌, ◌++◌, List, [], ◌∷◌, ℕ, Option, Some, length, take, drop}
use Rattle.std.proofs.Common.{◌-◌, slice_index, slice_range, ap, sym, subst, ◌∙◌, arith, length-drop}
use Rattle.std.proofs.lemmas.List.{drop-drop, drop_all, get_or-drop, take_all}
use Rattle.byteorder.specs.Endian.{little_number}
use Rattle.dev_io.specs.Device.{Gives, prepended}
use Rattle.dev_io.proofs.Parts.{prepended-nil, prepended-prepended}
use Rattle.gpu_capture.specs.Written.{word_bytes}
use Rattle.snapshot_words.specs.Taking.{IsWord}
use Rattle.snapshot_words.proofs.Gathering.{number_of_bytes}
use Rattle.gpu_snapshot.specs.Memories.{TakesCells}

-- a full buffer was read
pub gave_block : (before now : Option (List ℕ)) (block : List ℕ) (n : ℕ) → n ≡ length block → Gives before now block n
    → before ≡ prepended block now
gave_block before now block n all gives =
    gives.bytes ∙ ap (λ bytes. prepended bytes now) (take_all n block (omega (arith, all)))

-- the word that bytes begin with
first_word : (bytes : List ℕ) (word : ℕ) → 4 ≤ length bytes → ((i : ℕ) → slice_index bytes i < 256)
    → word ≡ little_number 4 (take 4 bytes) → IsWord (Some bytes) (Some (drop 4 bytes)) word
first_word [] word long fit is = absurd (omega arith)
first_word (a ∷ []) word long fit is = absurd (omega arith)
first_word (a ∷ b ∷ []) word long fit is = absurd (omega arith)
first_word (a ∷ b ∷ c ∷ []) word long fit is = absurd (omega arith)
first_word (a ∷ b ∷ c ∷ d ∷ rest) word long fit is = record {
  bytes = ap (λ front. Some (front ++ rest))
      (sym (ap word_bytes is ∙ number_of_bytes a b c d (fit 0) (fit 1) (fit 2) (fit 3)));
  fits = let p = fit 0 in let q = fit 1 in let r = fit 2 in let t = fit 3 in omega (arith, is, p, q, r, t);
}

fit_after : (block : List ℕ) (at : ℕ) → ((i : ℕ) → slice_index block i < 256)
    → (i : ℕ) → slice_index (drop at block) i < 256
fit_after block at fit i = rw (get_or-drop at block i 0) (fit (at + i))

-- the word with this index
pub block_word : (block : List ℕ) (k word : ℕ) → length block ≡ 2048 → k < 512
    → ((i : ℕ) → slice_index block i < 256) → word ≡ little_number 4 (slice_range block (4 * k) (4 * k + 4))
    → IsWord (Some (drop (4 * k) block)) (Some (drop (4 * (k + 1)) block)) word
block_word block k word long within fit is =
    let four : 4 * k + 4 - 4 * k ≡ 4 = omega arith in
    let number : word ≡ little_number 4 (take 4 (drop (4 * k) block)) =
    is ∙ ap (λ n. little_number 4 (take n (drop (4 * k) block))) four in
    let some : 4 ≤ length (drop (4 * k) block) =
    let d = length-drop (4 * k) block in omega (arith, d, long, within) in
    let e : drop 4 (drop (4 * k) block) ≡ drop (4 * (k + 1)) block =
    drop-drop 4 (4 * k) block ∙ ap (λ at. drop at block) (omega arith) in
    subst (λ left. IsWord (Some (drop (4 * k) block)) (Some left) word) e
    (first_word (drop (4 * k) block) word some (fit_after block (4 * k) fit) number)

-- ---- a block in place of a source

-- what is read of a block is read of the source that has its bytes next
after_block : (bytes left taken : List ℕ) (now : Option (List ℕ)) → Some bytes ≡ prepended taken (Some left)
    → prepended bytes now ≡ prepended taken (prepended left now)
after_block bytes left taken now is =
    let e : bytes ≡ taken ++ left = cc in
    ap (λ all. prepended all now) e ∙ sym (prepended-prepended taken left now)

pub cells_after : (bytes left cells : List ℕ) (now : Option (List ℕ)) → TakesCells (Some bytes) (Some left) cells
    → TakesCells (prepended bytes now) (prepended left now) cells
cells_after bytes left cells now takes =
    record { bytes = after_block bytes left _ now takes.bytes; each = takes.each }

pub word_after : (bytes left : List ℕ) (word : ℕ) (now : Option (List ℕ)) → IsWord (Some bytes) (Some left) word
    → IsWord (prepended bytes now) (prepended left now) word
word_after bytes left word now took =
    record { bytes = after_block bytes left _ now took.bytes; fits = took.fits }

-- nothing is left of a block that was read completely
pub none_after : (block : List ℕ) (at : ℕ) (now : Option (List ℕ)) → length block ≤ at
    → prepended (drop at block) now ≡ now
none_after block at now le = ap (λ left. prepended left now) (drop_all at block le) ∙ sym (prepended-nil now)
