-- Words of a memory and their bytes.
use Rattle.std.proofs.Common.{◌≡◌, ◌≤◌, ◌+◌, ◌*◌, ◌++◌, List, [], ◌∷◌, ℕ, Option, length, ap, refl, ◌∙◌}
use Rattle.std.proofs.Common.{length-append}
use Rattle.std.proofs.Common.{arith, append_assoc, append-nil, sym}
use Rattle.dev_io.specs.Device.{prepended}
use Rattle.dev_io.proofs.Parts.{taken_on}
use Rattle.gpu_capture.specs.Whole.{AreWords}
use Rattle.gpu_capture.specs.Written.{word_bytes}
use Rattle.snapshot_words.specs.Outline.{bytes_of, AreCells}
use Rattle.snapshot_words.specs.declared.fault.SnapFault.{SnapFault}
use Rattle.gpu_snapshot.specs.Memories.{LacksWords, SaysShort}

word_long : (word : ℕ) → length (word_bytes word) ≡ 4
unfolding word_bytes
word_long word = refl

pub bytes_of-append : (xs ys : List ℕ) → bytes_of (xs ++ ys) ≡ bytes_of xs ++ bytes_of ys
bytes_of-append [] ys = refl
bytes_of-append (x ∷ xs) ys =
    ap (λ bytes. word_bytes x ++ bytes) (bytes_of-append xs ys)
    ∙ sym (append_assoc (word_bytes x) (bytes_of xs) (bytes_of ys))

-- the bytes of one word
pub alone : (before now : Option (List ℕ)) (word : ℕ) → before ≡ prepended (word_bytes word) now
    → before ≡ prepended (bytes_of (word ∷ [])) now
alone before now word is = is ∙ ap (λ bytes. prepended bytes now) (sym (append-nil (word_bytes word)))

pub length-bytes_of : (words : List ℕ) → length (bytes_of words) ≡ 4 * length words
length-bytes_of [] = refl
length-bytes_of (w ∷ words) =
    let more = length-bytes_of words in
    let all = length-append (word_bytes w) (bytes_of words) in
    let one = word_long w in
    omega (arith, more, all, one)

pub AreWords-append : (xs ys : List ℕ) → AreWords xs → AreWords ys → AreWords (xs ++ ys)
AreWords-append [] ys are more = more
AreWords-append (x ∷ xs) ys are more = (are.0, AreWords-append xs ys are.1 more)

pub AreCells-append : (xs ys : List ℕ) → AreCells xs → AreCells ys → AreCells (xs ++ ys)
AreCells-append [] ys are more = more
AreCells-append (x ∷ xs) ys are more = (are.0, AreCells-append xs ys are.1 more)

-- the same offset, counted otherwise
pub short_at : (why : SnapFault) (offset other : ℕ) (now : Option (List ℕ)) → offset ≡ other → SaysShort why offset now
    → SaysShort why other now
short_at why offset other now e says = rw (← e) says

-- after these words, the next ones could not be read
pub lacks_later : (before mid now : Option (List ℕ)) (words : List ℕ) (offset at few count : ℕ) (why : SnapFault)
    → before ≡ prepended (bytes_of words) mid → length words + few ≤ count → at ≡ offset + 4 * length words
    → LacksWords mid now at few why → LacksWords before now offset count why
lacks_later before mid now words offset at few count why were fits is lack =
    let long = length-bytes_of words in
    let all = length-append (bytes_of words) lack.taken in
    record {
      taken = bytes_of words ++ lack.taken;
      bytes = taken_on before mid now (bytes_of words) lack.taken were lack.bytes;
      few = omega (arith, long, all, lack.few, fits);
      says = short_at why (at + length lack.taken) (offset + length (bytes_of words ++ lack.taken)) now
          (omega (arith, long, all, is)) lack.says;
    }
