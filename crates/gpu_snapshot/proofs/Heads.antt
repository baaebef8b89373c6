-- The first 8 bytes of a file.
use Rattle.std.proofs.Common.{◌≡◌, ◌+◌, ◌==◌, List, [], ◌∷◌, ℕ, suc, true}
use Rattle.std.proofs.Common.{Ok, Err, length, not, zip, unwrap_or, refl, ap, sym, ◌∙◌, arith, inl, inr}
use Rattle.std.proofs.lemmas.Bool.{cases_Bool}
use Rattle.std.specs.List.{position_from}
use Rattle.std.specs.Prelude.{position}
use Rattle.std.proofs.lemmas.Iterator.Adapters.{position_from-zero}
use Rattle.gpu_capture.specs.Capture.{head_of, head_version}
use Rattle.gpu_capture.specs.Head.{offset_of_difference, furthest_offset}
use Rattle.snapshot_words.specs.Outline.{snapshot_head}
use Rattle.gpu_snapshot.specs.Head.{file_head, known_heads}
use Rattle.gpu_snapshot.specs.declared.head.FileHead.TheVariants.{Capture, Snapshot}

-- bytes that differ nowhere are the same
same_from : (k : ℕ) (xs ys : List ℕ) → length xs ≡ length ys
    → unwrap_or (position_from (λ pair. not (pair.0 == pair.1)) k (zip xs ys)) (k + length xs) ≡ k + length xs
    → xs ≡ ys
same_from k [] [] long is = refl
same_from k [] (y ∷ ys) long is = absurd (omega (arith, long))
same_from k (x ∷ xs) [] long is = absurd (omega (arith, long))
same_from k (x ∷ xs) (y ∷ ys) long is =
    elim (cases_Bool (x == y)) [
      | inl same ↦
          let e : x ≡ y = grind (arith, same) in
          let count : k + suc (length xs) ≡ k + 1 + length xs = omega arith in
          let more : xs ≡ ys = same_from (k + 1) xs ys (omega (arith, long)) (rw (same, count) at is) in
          cc
      | inr other ↦ let e : k ≡ k + suc (length xs) = rw other at is in absurd (omega (arith, e))
    ]

is_head : (head bytes : List ℕ) → length head ≡ 8 → length bytes ≡ 8 → (offset_of_difference head bytes == 8) ≡ true
    → bytes ≡ head
is_head head bytes long_head long is =
    let at : offset_of_difference head bytes ≡ 8 = grind (arith, is) in
    let end : 0 + length head ≡ 8 = omega (arith, long_head) in
    let from : position_from (λ pair. not (pair.0 == pair.1)) 0 (zip head bytes)
    ≡ position (λ pair. not (pair.0 == pair.1)) (zip head bytes) =
    sym (position_from-zero (λ pair. not (pair.0 == pair.1)) (zip head bytes)) in
    sym (same_from 0 head bytes (long_head ∙ sym long) (rw (end, from) at))

-- by which of the magic numbers the bytes are
pub snapshot_is : (bytes : List ℕ) → length bytes ≡ 8 → file_head bytes ≡ Ok Snapshot → bytes ≡ snapshot_head
unfolding file_head
snapshot_is bytes long is =
    elim (cases_Bool (offset_of_difference (head_of 1) bytes == 8)) [
      | inl first ↦ absurd (let e : Ok (Capture 1) ≡ Ok Snapshot = rw first at is in cc)
      | inr not_first ↦ elim (cases_Bool (offset_of_difference (head_of 2) bytes == 8)) [
        | inl second ↦ absurd (let e : Ok (Capture 2) ≡ Ok Snapshot = rw (not_first, second) at is in cc)
        | inr not_second ↦ elim (cases_Bool (offset_of_difference (head_of 3) bytes == 8)) [
          | inl third ↦ absurd (let e : Ok (Capture 3) ≡ Ok Snapshot = rw (not_first, not_second, third) at is in cc)
          | inr not_third ↦ elim (cases_Bool (offset_of_difference snapshot_head bytes == 8)) [
            | inl last ↦ is_head snapshot_head bytes refl long last
            | inr none ↦ absurd (let e : Err (furthest_offset known_heads bytes) ≡ Ok Snapshot =
                rw (not_first, not_second, not_third, none) at is in cc)
          ]
        ]
      ]
    ]

-- the magic numbers of captures alone decide what is a capture
pub capture_is : (bytes : List ℕ) (version : ℕ) → file_head bytes ≡ Ok (Capture version) → head_version bytes
    ≡ Ok version
unfolding file_head
capture_is bytes version is =
    elim (cases_Bool (offset_of_difference (head_of 1) bytes == 8)) [
      | inl first ↦ let e : Ok (Capture 1) ≡ Ok (Capture version) = rw first at is in
          let same : 1 ≡ version = cc in rw first (ap Ok same)
      | inr not_first ↦ elim (cases_Bool (offset_of_difference (head_of 2) bytes == 8)) [
        | inl second ↦ let e : Ok (Capture 2) ≡ Ok (Capture version) = rw (not_first, second) at is in
            let same : 2 ≡ version = cc in rw (not_first, second) (ap Ok same)
        | inr not_second ↦ elim (cases_Bool (offset_of_difference (head_of 3) bytes == 8)) [
          | inl third ↦ let e : Ok (Capture 3) ≡ Ok (Capture version) = rw (not_first, not_second, third) at is in
              let same : 3 ≡ version = cc in rw (not_first, not_second, third) (ap Ok same)
          | inr not_third ↦ elim (cases_Bool (offset_of_difference snapshot_head bytes == 8)) [
            | inl last ↦ absurd (let e : Ok Snapshot ≡ Ok (Capture version) =
                rw (not_first, not_second, not_third, last) at is in cc)
            | inr none ↦ absurd (let e : Err (furthest_offset known_heads bytes) ≡ Ok (Capture version) =
                rw (not_first, not_second, not_third, none) at is in cc)
          ]
        ]
      ]
    ]

pub head_of_snapshot : file_head snapshot_head ≡ Ok Snapshot
unfolding file_head
head_of_snapshot = refl
