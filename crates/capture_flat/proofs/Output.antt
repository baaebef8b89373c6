-- The contents of the output.
use Rattle.std.proofs.Common.{◌≡◌, ◌≤◌, inl, inr, ◌+◌, ◌++◌, ◌==◌, false, ℕ, List, [], length, length-append, refl, ap}
use Rattle.std.proofs.Common.{sym, ◌∙◌, append_assoc, arith}
use Rattle.std.proofs.lemmas.Bool.{cases_Bool, eqb-true}
use Rattle.gpu_capture.specs.Capture.{head_of, limit}
use Rattle.gpu_capture.specs.Written.{written, spelled_end, tag_of}
use Rattle.gpu_capture.proofs.Written.{word_length}
use Rattle.gpu_capture.specs.declared.event.Event.{Event}
use Rattle.event_play.specs.Replay.{next_number}
use Rattle.capture_flat.specs.Out.{head_due, begun, flat_version}
use Rattle.gpu_capture.specs.Written.{spell}
use Rattle.gpu_capture.proofs.Spelled.{spell-append}

counts_on : (played : ℕ) → (next_number played == 0) ≡ false
counts_on played = grind arith

-- The output of the next event follows the output so far.
pub begun_on : (version played : ℕ) (flat more : List Event) → (played ≡ 0 → flat ≡ [])
    → begun version (next_number played) (flat ++ more)
    ≡ begun version played flat ++ (head_due version played ++ spell more)
begun_on version played flat more fresh =
    let head = head_of (flat_version version) in
    elim (cases_Bool (played == 0)) [
      | inl none ↦ rw (counts_on played, none, fresh (eqb-true played 0 none)) refl
      | inr some ↦ rw (counts_on played, some)
          (ap (λ bytes. head ++ bytes) (spell-append flat more) ∙ sym (append_assoc head (spell flat) (spell more)))
    ]

-- With the End record, the output is the whole file.
pub begun_end : (version played : ℕ) (flat : List Event) → (played ≡ 0 → flat ≡ [])
    → begun version played flat ++ (head_due version played ++ spelled_end) ≡ written (flat_version version) flat
begun_end version played flat fresh =
    elim (cases_Bool (played == 0)) [
      | inl none ↦ rw (none, fresh (eqb-true played 0 none)) refl
      | inr some ↦ rw some refl
    ]

-- A whole file is the output after an event, then an End record (4 bytes).
pub written_length : (version played : ℕ) (flat : List Event)
    → length (written (flat_version version) flat) ≡ length (begun version (next_number played) flat) + 4
written_length version played flat =
    let bytes = head_of (flat_version version) ++ spell flat in
    let a = length-append bytes spelled_end in
    let b = word_length (tag_of 0 0) in
    let e : length (bytes ++ spelled_end) ≡ length bytes + 4 = omega (arith, a, b) in
    rw (counts_on played) e

-- A whole file is not too long if an End record still fits after the output so far.
pub written_fits : (version played : ℕ) (flat : List Event) → (played ≡ 0 → flat ≡ [])
    → length (begun version played flat) + 4 ≤ limit
    → length (written (flat_version version) flat) ≤ limit
written_fits version played flat fresh fits =
    let a = length-append (head_of (flat_version version) ++ spell flat) spelled_end in
    let b = word_length (tag_of 0 0) in
    elim (cases_Bool (played == 0)) [
      | inl none ↦
          let none_flat = fresh (eqb-true played 0 none) in
          let c = ap (λ events. length (written (flat_version version) events)) none_flat in
          let d = length-append (head_of (flat_version version) ++ spell []) spelled_end in
          omega (arith, b, c, d)
      | inr some ↦
          let e : length (begun version played flat)
          ≡ length (head_of (flat_version version) ++ spell flat) = rw some refl in
          omega (arith, a, b, e, fits)
    ]
