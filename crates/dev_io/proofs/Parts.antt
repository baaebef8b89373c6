-- Bytes that are read or written part by part.
use Rattle.std.proofs.Common.{◌≡◌, ◌≤◌, ◌<◌, ◌+◌, ◌++◌, List, [], ◌∷◌, ℕ, zero, suc, Option, None, Some, length}
use Rattle.std.proofs.Common.{take, drop, get_or, flat_map, refl, ap, append_assoc, sym, subst, ◌∙◌, arith}
use Rattle.std.proofs.lemmas.List.{take-append-le, length-take-le, length-append}
use borrow.Rule.Slice.PartMut.{put_mid, post_of}
use Rattle.std.proofs.Math.Seq.{take-append-add}
use Rattle.dev_io.specs.Device.{Gives, AppendsPart, appended, prepended}
use Rattle.dev_io.proofs.Appended.{appended-appended}

-- ---- read

pub prepended-nil : (left : Option (List ℕ)) → left ≡ prepended [] left
prepended-nil None = refl
prepended-nil (Some left) = refl

pub prepended-prepended : (xs ys : List ℕ) (left : Option (List ℕ)) → prepended xs (prepended ys left)
    ≡ prepended (xs ++ ys) left
prepended-prepended xs ys None = refl
prepended-prepended xs ys (Some left) = ap Some (sym (append_assoc xs ys left))

-- bytes were read, and then more
pub taken_on : (before mid now : Option (List ℕ)) (xs ys : List ℕ) → before ≡ prepended xs mid → mid ≡ prepended ys now
    → before ≡ prepended (xs ++ ys) now
taken_on before mid now xs ys first next = first ∙ ap (prepended xs) next ∙ prepended-prepended xs ys now

-- the start of a buffer in which a part was written
take_parts : (buf part : List ℕ) (i n k : ℕ) → i ≤ length buf → n ≤ length part
    → take (i + n) (put_mid i k buf part) ≡ take i buf ++ take n part
take_parts buf part i n k le fits =
    let long = length-take-le i buf le in
    let P : ℕ → Type 0 = λ m. take (m + n) (take i buf ++ (part ++ post_of i k buf)) ≡ take i buf ++ take n part in
    subst P long
    (take-append-add (take i buf) (part ++ post_of i k buf) n
    ∙ ap (λ ys. take i buf ++ ys) (take-append-le n part (post_of i k buf) fits))

pub gives_on : (before now new : Option (List ℕ)) (buf part : List ℕ) (i n k : ℕ) → i ≤ length buf
    → Gives before now buf i → Gives now new part n
    → Gives before new (put_mid i k buf part) (i + n)
gives_on before now new buf part i n k le first next = record {
  fits = let a = length-append (take i buf) (part ++ post_of i k buf) in
      let b = length-append part (post_of i k buf) in
      let d = length-take-le i buf le in
      omega (arith, a, b, d, next.fits);
  bytes = first.bytes ∙ ap (prepended (take i buf)) next.bytes ∙ prepended-prepended (take i buf) (take n part) new
      ∙ ap (λ xs. prepended xs new) (sym (take_parts buf part i n k le next.fits));
}

-- ---- written

-- a sink accepted a part of `ys` after `xs`, so a part of all bytes
pub part_after : (before mid now : Option (List ℕ)) (xs ys zs : List ℕ) → mid ≡ appended before xs
    → AppendsPart mid now ys
    → AppendsPart before now (xs ++ (ys ++ zs))
part_after before mid now xs ys zs was part = record {
  count = length xs + part.count;
  part = let a = length-append xs (ys ++ zs) in let b = length-append ys zs in omega (arith, a, b, part.part);
  held = part.held ∙ ap (λ held. appended held (take part.count ys)) was
      ∙ appended-appended before xs (take part.count ys)
      ∙ ap (appended before) (sym (take-append-add xs (ys ++ zs) part.count
      ∙ ap (λ ws. xs ++ ws) (take-append-le part.count ys zs (omega (arith, part.part)))));
}

-- the pieces before one of them, that piece, and those after it
split_at : {X : Type 0} (f : X → List ℕ) (xs : List X) (i : ℕ) (d : X) → i < length xs
    → flat_map f xs ≡ flat_map f (take i xs) ++ (f (get_or xs i d) ++ flat_map f (drop (i + 1) xs))
split_at f [] i d lt = absurd (omega (arith, lt))
split_at f (x ∷ xs) zero d lt = refl
split_at f (x ∷ xs) (suc i) d lt =
    let e : suc i + 1 ≡ suc (i + 1) = omega arith in
    rw e (ap (λ ys. f x ++ ys) (split_at f xs i d (omega (arith, lt)))
    ∙ sym (append_assoc (f x) (flat_map f (take i xs)) (f (get_or xs i d) ++ flat_map f (drop (i + 1) xs))))

pub piece_part : {X : Type 0} (f : X → List ℕ) (before mid now : Option (List ℕ)) (xs : List X) (i : ℕ) (d : X)
    → i < length xs
    → mid ≡ appended before (flat_map f (take i xs)) → AppendsPart mid now (f (get_or xs i d))
    → AppendsPart before now (flat_map f xs)
piece_part f before mid now xs i d lt was part =
    rw (split_at f xs i d lt)
    (part_after before mid now (flat_map f (take i xs)) (f (get_or xs i d)) (flat_map f (drop (i + 1) xs)) was part)
