-- The bytes of the file, record by record.
use Rattle.std.proofs.Common.{◌≡◌, ◌<◌, ◌⊎◌, inl, inr, Some, ◌≤◌, ◌+◌, ◌++◌, ◌==◌, ℕ, List, [], ◌∷◌, Option, true}
use Rattle.std.proofs.Common.{false, length, length-append, refl, ap, sym, ◌∙◌, append_assoc, append-nil, subst, arith}
use Rattle.dev_io.specs.Device.{appended, AppendsPart}
use Rattle.dev_io.proofs.Appended.{appended-appended}
use Rattle.gpu_capture.specs.Capture.{head_of, limit}
use Rattle.gpu_capture.specs.Written.{spelled, spelled_end, written, tag_of}
use Rattle.gpu_capture.proofs.Written.{word_length}
use Rattle.gpu_capture.specs.declared.event.Event.{Event}
use Rattle.gpu_capture.specs.Written.{spell}
use Rattle.gpu_capture.proofs.Spelled.{spell-append, wrote_on}
use Rattle.capture_slim.specs.File.{begun, head_due, due, IsFile, IsDraft, IsLacking, FailsNext}
use Rattle.gpu_capture.specs.Draft.{head_at}
use Rattle.capture_slim.specs.File.{EndsTooLong, output_of}
use Rattle.gathered_out.specs.Pieces.{AreOut, BreaksOff, Piece, bytes_of}
use Rattle.gathered_out.proofs.Pieces.{all_out, breaks_all}
use Rattle.capture_slim.specs.Places.{kept_of}
use Rattle.capture_slim.specs.declared.ending.SlimEnding.{SlimEnding}
use Rattle.capture_slim.specs.declared.ending.SlimEnding.TheVariants.{Done, Stopped, NotFlat, TooLong, WriteFailed}
use Rattle.gpu_capture.specs.declared.draft.Draft.{Draft}
use Rattle.gpu_capture.specs.declared.draft.CaptureFile.{CaptureFile}
use Rattle.capture_slim.proofs.Rests.{fails_wider, kept_append}

-- ---- the file header

begun_size : (version : ℕ) (e : Event) (events : List Event) → 8 ≤ length (begun version (e ∷ events))
begun_size version e events = omega (arith, length-append (head_of version) (spell (e ∷ events)))

pub head_same : (file : CaptureFile) (base held : Option (List ℕ)) (kept : List Event) → IsFile file base held kept
    → head_at file ≡ head_due file.version kept
head_same file base held [] is = let none : (file.size == 0) ≡ true = grind (arith, is.size_is) in rw none refl
head_same file base held (e ∷ events) is =
    let some = begun_size file.version e events in
    let more : (file.size == 0) ≡ false = grind (arith, is.size_is, some) in
    rw more refl

-- ---- one more record

pub begun_more : (version : ℕ) (kept : List Event) (e : Event)
    → begun version (kept ++ e ∷ []) ≡ begun version kept ++ (head_due version kept ++ spelled e)
begun_more version [] e = ap (λ bytes. head_of version ++ bytes) (append-nil (spelled e))
begun_more version (x ∷ kept) e =
    ap (λ bytes. head_of version ++ bytes)
    (spell-append (x ∷ kept) (e ∷ []) ∙ ap (λ bytes. spell (x ∷ kept) ++ bytes) (append-nil (spelled e)))
    ∙ sym (append_assoc (head_of version) (spell (x ∷ kept)) (spelled e))

pub begun_end : (version : ℕ) (kept : List Event) → begun version kept ++ (head_due version kept ++ spelled_end)
    ≡ written version kept
begun_end version [] = refl
begun_end version (x ∷ kept) = refl

-- a whole file is at most 8 bytes longer than the file so far with an End record
pub written_most : (version : ℕ) (kept : List Event) → length (begun version kept) + 4 ≤ limit
    → length (written version kept) ≤ limit
written_most version [] fits = omega
    (arith, length-append (head_of version ++ spell []) spelled_end, word_length (tag_of 0 0))
written_most version (x ∷ kept) fits = omega
    (arith, fits, length-append (head_of version ++ spell (x ∷ kept)) spelled_end, word_length (tag_of 0 0))

pub written_more : (version : ℕ) (kept : List Event) (e : Event)
    → length (written version (kept ++ e ∷ [])) ≡ length (begun version (kept ++ e ∷ [])) + 4
written_more version [] e = omega
    (arith, length-append (head_of version ++ spell (e ∷ [])) spelled_end, word_length (tag_of 0 0))
written_more version (x ∷ kept) e =
    omega (arith, length-append (head_of version ++ spell ((x ∷ kept) ++ e ∷ [])) spelled_end, word_length (tag_of 0 0))

due_same : (file : CaptureFile) (base held : Option (List ℕ)) (kept : List Event) (e : Event)
    → IsFile file base held kept → due file e ≡ head_due file.version kept ++ spelled e
due_same file base held kept e is = ap (λ bytes. bytes ++ spelled e) (head_same file base held kept is)

size_more : (file : CaptureFile) (base held : Option (List ℕ)) (kept : List Event) (e : Event)
    → IsFile file base held kept → file.size + length (due file e) ≡ length (begun file.version (kept ++ e ∷ []))
size_more file base held kept e is =
    let same = ap length (due_same file base held kept e is) in
    let all = ap length (begun_more file.version kept e) in
    omega (
      arith,
      same,
      all,
      is.size_is,
      length-append (begun file.version kept)
          (head_due file.version kept ++ spelled e),
    )

-- ---- a list of output chunks that is split in two ways

none_split : (whole : List Piece) (p : Piece) (later : List Piece) → [] ≡ whole ++ p ∷ later → ⊥
none_split [] p later is = cc
none_split (x ∷ whole) p later is = cc

abbrev Splits : (pieces whole later : List Piece) (p q : Piece) → Type 0
Splits pieces whole later p q = ((rest : List Piece) × (pieces ≡ whole ++ q ∷ rest)) ⊎ ((whole ≡ pieces) × (q ≡ p))

splits : (pieces whole later : List Piece) (p q : Piece) → pieces ++ p ∷ [] ≡ whole ++ q ∷ later
    → Splits pieces whole later p q
splits [] [] later p q is = let same : q ≡ p = cc in inr (refl, same)
splits [] (w ∷ whole) later p q is = let none : [] ≡ whole ++ q ∷ later = cc in absurd (none_split whole q later none)
splits (x ∷ pieces) [] later p q is = let same : x ≡ q = cc in inl (pieces, ap (λ (y : Piece). y ∷ pieces) same)
splits (x ∷ pieces) (w ∷ whole) later p q is =
    let same : x ≡ w = cc in
    let tails : pieces ++ p ∷ [] ≡ whole ++ q ∷ later = cc in
    elim (splits pieces whole later p q tails) [
      | inl u ↦ let rest = u.1 in inl (u.0, cc)
      | inr u ↦ let whole_is = u.0 in inr (cc, u.1)
    ]

bytes_more : (pieces : List Piece) (p : Piece) → bytes_of (pieces ++ p ∷ []) ≡ bytes_of pieces ++ p.bytes
bytes_more [] p = append-nil p.bytes
bytes_more (x ∷ pieces) p = ap (λ bytes. x.bytes ++ bytes) (bytes_more pieces p)
    ∙ sym (append_assoc x.bytes (bytes_of pieces) p.bytes)

-- the write fails in one of the first chunks, or in the last one
abbrev BreaksLast : (pieces : List Piece) (p : Piece) (held now : Option (List ℕ)) (number : ℕ) → Type 0
BreaksLast pieces p held now number =
    BreaksOff pieces held now number ⊎ ((number ≡ p.number) × AppendsPart (appended held (bytes_of pieces)) now p.bytes)

breaks_last : (pieces : List Piece) (p : Piece) (held now : Option (List ℕ)) (number : ℕ)
    → BreaksOff (pieces ++ p ∷ []) held now number → BreaksLast pieces p held now number
breaks_last pieces p held now number off =
    elim (splits pieces off.whole off.later p off.broken off.are) [
      | inl u ↦ inl (record {
        whole = off.whole;
        broken = off.broken;
        later = u.0;
        are = u.1;
        number_is = off.number_is;
        stands = off.stands;
      })
      | inr u ↦
          let P : List Piece → Type 0 = λ ps. AppendsPart (appended held (bytes_of ps)) now off.broken.bytes in
          let Q : Piece → Type 0 = λ q. AppendsPart (appended held (bytes_of pieces)) now q.bytes in
          inr (off.number_is ∙ ap (λ (q : Piece). q.number) u.1, subst Q u.1 (subst P u.0 off.stands))
    ]

-- ---- what is buffered

abbrev draft_of : CaptureFile → List Piece → Draft
draft_of file pieces = record { file = file; buffered = pieces }

-- nothing is buffered, and no event stays
pub first_draft : (version : ℕ) (held : Option (List ℕ))
    → IsDraft (draft_of (record { version = version; size = 0 }) []) held held []
first_draft version held = record {
  file_is = record {
    stands = refl;
    size_is = refl;
    fits = omega arith;
  };
  lacks = λ now number off. absurd (none_split off.whole off.broken off.later off.are);
}

-- what was buffered is written before it, or is still buffered
pub out_draft : (file : CaptureFile) (pieces buffered : List Piece) (base held now : Option (List ℕ))
    (outs : List (Option Event)) → IsDraft (draft_of file pieces) base held outs → AreOut held pieces now buffered
    → IsDraft (draft_of file buffered) base now outs
out_draft file pieces buffered base held now outs is out = record {
  file_is = record {
    stands = all_out held now (appended now (bytes_of buffered)) pieces buffered out refl ∙ is.file_is.stands;
    size_is = is.file_is.size_is;
    fits = is.file_is.fits;
  };
  lacks = λ later number off. is.lacks later number (breaks_all held now later pieces buffered number out off);
}

-- none of these stays
pub passed_draft : (draft : Draft) (base held : Option (List ℕ)) (outs none : List (Option Event))
    → IsDraft draft base held outs
    → kept_of none ≡ [] → IsDraft draft base held (outs ++ none)
passed_draft draft base held outs none is are =
    let P : List Event → Type 0 = λ es. IsFile draft.file base (appended held (bytes_of draft.buffered)) es in
    let same : kept_of (outs ++ none) ≡ kept_of outs =
    kept_append outs none ∙ ap (λ (es : List Event). kept_of outs ++ es) are ∙ append-nil (kept_of outs) in
    record {
      file_is = subst P (sym same) is.file_is;
      lacks = λ now number off.
          fails_wider (output_of draft base now) outs none number (WriteFailed number) (is.lacks now number off);
    }

-- ---- one more record

module _ (draft : Draft) (base held : Option (List ℕ)) (outs : List (Option Event)) (is : IsDraft draft base held outs)
    (e : Event) (number after : ℕ) (at : number ≡ length outs + 1)
    (after_is : after ≡ draft.file.size + length (due draft.file e)) where
  abbrev kept : List Event
  kept = kept_of outs

  abbrev version : ℕ
  version = draft.file.version

  abbrev piece : Piece
  piece = record { number = number; bytes = due draft.file e }

  abbrev pieces : List Piece
  pieces = draft.buffered ++ piece ∷ []

  abbrev new_file : CaptureFile
  new_file = record { version = version; size = after }

  due_is : due draft.file e ≡ head_due version kept ++ spelled e
  due_is = due_same draft.file base (appended held (bytes_of draft.buffered)) kept e is.file_is

  size_is : draft.file.size + length (due draft.file e) ≡ length (begun version (kept ++ e ∷ []))
  size_is = size_more draft.file base (appended held (bytes_of draft.buffered)) kept e is.file_is

  record_lacks : (now : Option (List ℕ)) → after + 4 ≤ limit
      → AppendsPart (appended held (bytes_of draft.buffered)) now (due draft.file e)
      → IsLacking (output_of draft base now) kept e
  record_lacks now fits part =
      let P : Option (List ℕ) → Type 0 = λ mid. AppendsPart mid now (head_due version kept ++ spelled e) in
      let Q : List ℕ → Type 0 = λ bytes. AppendsPart (appended held (bytes_of draft.buffered)) now bytes in
      record {
        stands = subst P is.file_is.stands (subst Q due_is part);
        fits = omega (arith, fits, after_is, size_is, written_more version kept e);
      }

  record_file : after + 4 ≤ limit → IsFile new_file base (appended held (bytes_of pieces)) (kept ++ e ∷ [])
  record_file fits = record {
    stands = ap (appended held) (bytes_more draft.buffered piece)
        ∙ wrote_on base (appended held (bytes_of draft.buffered)) _ (begun version kept) (due draft.file e)
        is.file_is.stands (sym (appended-appended held (bytes_of draft.buffered) (due draft.file e)))
        ∙ ap (λ bytes. appended base (begun version kept ++ bytes)) due_is
        ∙ ap (appended base) (sym (begun_more version kept e));
    size_is = after_is ∙ size_is;
    fits = fits;
  }

  pub added_draft : after + 4 ≤ limit → IsDraft (draft_of new_file pieces) base held (outs ++ Some e ∷ [])
  added_draft fits =
      let P : List Event → Type 0 = λ es. IsFile new_file base (appended held (bytes_of pieces)) es in
      record {
        file_is = subst P (sym (kept_append outs (Some e ∷ []))) (record_file fits);
        lacks = λ now n off.
            elim (breaks_last draft.buffered piece held now n off) [
              | inl before ↦ fails_wider (output_of draft base now) outs (Some e ∷ []) n (WriteFailed n)
                  (is.lacks now n before)
              | inr last ↦ record {
                earlier = outs;
                event = e;
                later = [];
                are = refl;
                number_is = last.0 ∙ at;
                fails = (refl, record_lacks now fits last.1);
              }
            ];
      }

  pub long_ends : (now : Option (List ℕ)) (ending : SlimEnding) → limit < after + 4
      → EndsTooLong draft.buffered held now number ending → FailsNext (output_of draft base now) outs e ending
  long_ends now (TooLong n) long ends = (
    ends.0 ∙ at,
    record {
      stands = ends.1 ∙ is.file_is.stands;
      fits = omega (arith, is.file_is.fits, is.file_is.size_is);
      long = omega (arith, long, after_is, size_is, written_more version kept e);
    },
  )
  long_ends now (WriteFailed n) long ends = is.lacks now n ends
  long_ends now Done long ends = absurd ends
  long_ends now (Stopped n stop) long ends = absurd ends
  long_ends now (NotFlat n) long ends = absurd ends
