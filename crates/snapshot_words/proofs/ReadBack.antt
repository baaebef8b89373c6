-- The words of a whole part are read as these words.
use Rattle.std.proofs.Common.{◌≡◌, ◌<◌, ◌+◌, ◌*◌, ◌^◌, ◌++◌, List, [], ◌∷◌, ℕ, None, true, length, take, slice_index}
use Rattle.std.proofs.Common.{refl, ap, sym, subst, ◌∙◌, append_assoc, append-nil, length-append, arith}
use Rattle.std.proofs.lemmas.List.{length_push, take-append-le, take_all, get_or-append_right}
use Rattle.snapshot_words.specs.Sections.{allows, wants, IsWhole}
use Rattle.snapshot_words.specs.Taking.{Goes, Takes, remainder}
use Rattle.snapshot_words.specs.declared.section.Section.{Section}
use Rattle.snapshot_words.proofs.Gathering.{goes_start, goes_on, goes_whole, minus_self}

-- the words of a whole part that are left, from a source whose bytes contracts do not know
takes_on : (s : Section) (all : List ℕ) (first : ℕ) → IsWhole s all → (got more : List ℕ) (offset : ℕ)
    → got ++ more ≡ all → offset ≡ first + 4 * length got → Goes s (remainder first None) (remainder offset None) got
    → Takes s (remainder first None) (remainder (first + 4 * length all) None) all
takes_on s all first is got [] offset e moved goes =
    let same : got ≡ all = sym (append-nil got) ∙ e in
    rw (← same, ← moved) (goes_whole s (remainder first None) (remainder offset None) got goes moved (rw same is.whole))
takes_on s all first is got (w ∷ more) offset e moved goes =
    let within : length got < length all = rw (← e) (let n = length-append got (w ∷ more) in omega (arith, n)) in
    let front : take (length got) all ≡ got =
    rw (← e) (take-append-le (length got) got (w ∷ more) (omega arith) ∙ take_all (length got) got (omega arith)) in
    let next : slice_index all (length got) ≡ w =
    rw (← e) (get_or-append_right got (w ∷ more) (length got) (length got) 0 refl (omega arith)
    ∙ ap (slice_index (w ∷ more)) (minus_self (length got))) in
    let due : wants s got ≡ true = subst (λ before. wants s before ≡ true) front (is.allowed.due (length got) within) in
    let may : allows s got w ≡ true = subst (λ v. allows s got v ≡ true) next
    (subst (λ before. allows s before (slice_index all (length got))
    ≡ true) front (is.allowed.each (length got) within)) in
    let fits : w < 2 ^ 32 = subst (λ v. v < 2 ^ 32) next (is.allowed.fits (length got) within) in
    let longer = length_push got w in
    takes_on s all first is (got ++ w ∷ []) more (offset + 4) (append_assoc got (w ∷ []) more ∙ e)
    (omega (arith, longer, moved))
    (goes_on s (remainder first None) (remainder offset None) None got goes w (record { bytes = refl; fits = fits }) due
    may)

pub whole_takes : (s : Section) (words : List ℕ) (first : ℕ) → IsWhole s words
    → Takes s (remainder first None) (remainder (first + 4 * length words) None) words
whole_takes s words first is =
    takes_on s words first is [] words first refl (omega arith) (goes_start s (remainder first None))
