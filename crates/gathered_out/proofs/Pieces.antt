-- Pieces that are cut out of the buffered bytes.
use Rattle.std.proofs.Common.{◌≡◌, ◌≤◌, ◌<◌, ◌+◌, ◌-◌, ◌++◌, ℕ, List, [], ◌∷◌, Option, Bool, true, false, cond, ltb}
use Rattle.std.proofs.Common.{take, drop, length, refl, ap, sym, subst, ◌∙◌, arith, append_assoc, append-nil}
use Rattle.std.proofs.Common.{length-drop}
use Rattle.std.proofs.lemmas.Bool.{ltb-true, ltb-false}
use Rattle.std.proofs.lemmas.List.{drop-append-le, length-take-le, take-append-drop, take-append-le, take-take}
use Rattle.std.proofs.lemmas.List.{take_all}
use Rattle.dev_io.specs.Device.{appended, AppendsPart}
use Rattle.dev_io.proofs.Appended.{appended-appended, appended-more, appended-nil}
use Rattle.gathered_out.specs.Pieces.{AreOut, BreaksOff, Piece, bytes_of, cut, lacking, total}
use Rattle.gathered_out.specs.declared.extent.Extent.{Extent}

-- ---- together they are all the bytes

pub cut_bytes : (extents : List Extent) (bytes : List ℕ) → total extents ≡ length bytes → bytes_of (cut extents bytes)
    ≡ bytes
cut_bytes [] [] is = refl
cut_bytes [] (b ∷ bytes) is = absurd (omega (arith, is))
cut_bytes (e ∷ extents) bytes is =
    ap (λ rest. take e.len bytes ++ rest)
    (cut_bytes extents (drop e.len bytes) (omega (arith, is, length-drop e.len bytes)))
    ∙ take-append-drop e.len bytes

pub cut_count : (extents : List Extent) (bytes : List ℕ) → length (cut extents bytes) ≡ length extents
cut_count [] bytes = refl
cut_count (e ∷ extents) bytes = let n = cut_count extents (drop e.len bytes) in omega (arith, n)

-- ---- one more piece

pub total_more : (extents : List Extent) (e : Extent) → total (extents ++ e ∷ []) ≡ total extents + e.len
total_more [] e = omega arith
total_more (x ∷ extents) e = let n = total_more extents e in omega (arith, n)

pub cut_more : (extents : List Extent) (e : Extent) (bytes more : List ℕ) → total extents ≡ length bytes
    → e.len ≡ length more
    → cut (extents ++ e ∷ []) (bytes ++ more) ≡ cut extents bytes ++ record { number = e.number; bytes = more } ∷ []
cut_more [] e (b ∷ bytes) more is long = absurd (omega (arith, is))
cut_more [] e [] more is long =
    ap (λ (bs : List ℕ). let p : Piece = record { number = e.number; bytes = bs } in p ∷ [])
    (take_all e.len more (omega (arith, long)))
cut_more (x ∷ extents) e bytes more is long =
    let fits : x.len ≤ length bytes = omega (arith, is) in
    let piece : List ℕ → Piece = λ bs. record { number = x.number; bytes = bs } in
    ap (λ (bs : List ℕ). piece bs ∷ cut (extents ++ e ∷ []) (drop x.len (bytes ++ more)))
    (take-append-le x.len bytes more fits)
    ∙ ap (λ (bs : List ℕ). piece (take x.len bytes) ∷ cut (extents ++ e ∷ []) bs) (drop-append-le x.len bytes more fits)
    ∙ ap (λ (ps : List Piece). piece (take x.len bytes) ∷ ps)
    (cut_more extents e (drop x.len bytes) more (omega (arith, is, length-drop x.len bytes)) long)

-- ---- the first incomplete piece

abbrev piece_of : Extent → List ℕ → Piece
piece_of e bytes = record { number = e.number; bytes = take e.len bytes }

breaks_first : (e : Extent) (extents : List Extent) (bytes : List ℕ) (taken : ℕ) (before now : Option (List ℕ))
    → e.len ≤ length bytes
    → taken < e.len → now ≡ appended before (take taken bytes) → BreaksOff (cut (e ∷ extents) bytes) before now e.number
breaks_first e extents bytes taken before now fits short took = record {
  whole = [];
  broken = piece_of e bytes;
  later = cut extents (drop e.len bytes);
  are = refl;
  number_is = refl;
  stands = record {
    count = taken;
    part = omega (arith, short, length-take-le e.len bytes fits);
    held = took ∙ ap (appended before) (sym (take-take taken e.len bytes (omega (arith, short))))
        ∙ ap (λ h. appended h (take taken (take e.len bytes))) (sym (appended-nil before));
  };
}

breaks_later : (e : Extent) (extents : List Extent) (bytes : List ℕ) (before now : Option (List ℕ)) (number : ℕ)
    → BreaksOff (cut extents (drop e.len bytes)) (appended before (take e.len bytes)) now number
    → BreaksOff (cut (e ∷ extents) bytes) before now number
breaks_later e extents bytes before now number later =
    let P : Option (List ℕ) → Type 0 = λ held. AppendsPart held now later.broken.bytes in
    record {
      whole = piece_of e bytes ∷ later.whole;
      broken = later.broken;
      later = later.later;
      are = ap (λ (ps : List Piece). piece_of e bytes ∷ ps) later.are;
      number_is = later.number_is;
      stands = subst P (appended-appended before (take e.len bytes) (bytes_of later.whole)) later.stands;
    }

taken_after : (e : Extent) (bytes : List ℕ) (taken : ℕ) (before now : Option (List ℕ)) → e.len ≤ taken
    → now ≡ appended before (take taken bytes)
    → now ≡ appended (appended before (take e.len bytes)) (take (taken - e.len) (drop e.len bytes))
taken_after e bytes taken before now le took =
    let all : e.len + (taken - e.len) ≡ taken = omega (arith, le) in
    took ∙ ap (λ n. appended before (take n bytes)) (sym all) ∙ sym (appended-more before bytes e.len (taken - e.len))

breaks_by : (e : Extent) (extents : List Extent) (bytes : List ℕ) (taken : ℕ) (before now : Option (List ℕ)) (b : Bool)
    → ltb taken e.len ≡ b
    → total (e ∷ extents) ≡ length bytes → taken < length bytes → now ≡ appended before (take taken bytes)
    → (total extents ≡ length (drop e.len bytes) → taken - e.len < length (drop e.len bytes)
    → now ≡ appended (appended before (take e.len bytes)) (take (taken - e.len) (drop e.len bytes))
    → BreaksOff (cut extents (drop e.len bytes)) (appended before (take e.len bytes)) now
    (lacking extents (taken - e.len)))
    → BreaksOff (cut (e ∷ extents) bytes) before now (cond b e.number (lacking extents (taken - e.len)))
breaks_by e extents bytes taken before now true test is lt took later =
    breaks_first e extents bytes taken before now (omega (arith, is)) (ltb-true taken e.len test) took
breaks_by e extents bytes taken before now false test is lt took later =
    let le = ltb-false taken e.len test in
    let long = length-drop e.len bytes in
    breaks_later e extents bytes before now (lacking extents (taken - e.len))
    (later (omega (arith, is, long)) (omega (arith, lt, long, le, is)) (taken_after e bytes taken before now le took))

pub breaks_off : (extents : List Extent) (bytes : List ℕ) (taken : ℕ) (before now : Option (List ℕ))
    → total extents ≡ length bytes
    → taken < length bytes → now ≡ appended before (take taken bytes)
    → BreaksOff (cut extents bytes) before now (lacking extents taken)
breaks_off [] bytes taken before now is lt took = absurd (omega (arith, is, lt))
breaks_off (e ∷ extents) bytes taken before now is lt took =
    breaks_by e extents bytes taken before now (ltb taken e.len) refl is lt took
    (λ rest_is rest_lt rest_took. breaks_off extents (drop e.len bytes) (taken - e.len)
    (appended before (take e.len bytes)) now rest_is rest_lt rest_took)

-- ---- pieces that are written, except those that are buffered

pub bytes_append : (xs ys : List Piece) → bytes_of (xs ++ ys) ≡ bytes_of xs ++ bytes_of ys
bytes_append [] ys = refl
bytes_append (x ∷ xs) ys =
    ap (λ bs. x.bytes ++ bs) (bytes_append xs ys) ∙ sym (append_assoc x.bytes (bytes_of xs) (bytes_of ys))

-- the buffered pieces follow the content of the sink
pub only_buffered : (held : Option (List ℕ)) (buffered : List Piece) → AreOut held buffered held buffered
only_buffered held buffered = record { written = []; are = refl; stands = sym (appended-nil held) }

-- once the buffered pieces are written, all are
pub all_out : (before held now : Option (List ℕ)) (pieces buffered : List Piece) → AreOut before pieces held buffered
    → now ≡ appended held (bytes_of buffered) → now ≡ appended before (bytes_of pieces)
all_out before held now pieces buffered out took =
    took ∙ ap (λ h. appended h (bytes_of buffered)) out.stands
    ∙ appended-appended before (bytes_of out.written) (bytes_of buffered)
    ∙ ap (appended before) (sym (bytes_append out.written buffered) ∙ ap bytes_of (sym out.are))

-- the buffer is empty then
pub none_buffered : (before now : Option (List ℕ)) (pieces : List Piece) → now ≡ appended before (bytes_of pieces)
    → AreOut before pieces now []
none_buffered before now pieces stands = record {
  written = pieces;
  are = sym (append-nil pieces);
  stands = stands;
}

pub one_buffered : (before held : Option (List ℕ)) (pieces buffered : List Piece) (p : Piece)
    → AreOut before pieces held buffered → AreOut before (pieces ++ p ∷ []) held (buffered ++ p ∷ [])
one_buffered before held pieces buffered p out = record {
  written = out.written;
  are = ap (λ (ps : List Piece). ps ++ p ∷ []) out.are ∙ append_assoc out.written buffered (p ∷ []);
  stands = out.stands;
}

-- if writing the buffered pieces fails, so does writing all
pub breaks_all : (before held now : Option (List ℕ)) (pieces buffered : List Piece) (number : ℕ)
    → AreOut before pieces held buffered → BreaksOff buffered held now number → BreaksOff pieces before now number
breaks_all before held now pieces buffered number out off =
    let P : Option (List ℕ) → Type 0 = λ h. AppendsPart h now off.broken.bytes in
    let whole = out.written ++ off.whole in
    record {
      whole = whole;
      broken = off.broken;
      later = off.later;
      are = out.are ∙ ap (λ (ps : List Piece). out.written ++ ps) off.are
          ∙ sym (append_assoc out.written off.whole (off.broken ∷ off.later));
      number_is = off.number_is;
      stands = subst P
          (ap (λ h. appended h (bytes_of off.whole)) out.stands
          ∙ appended-appended before (bytes_of out.written) (bytes_of off.whole)
          ∙ ap (appended before) (sym (bytes_append out.written off.whole)))
          off.stands;
    }

pub breaks_more : (before now : Option (List ℕ)) (pieces more : List Piece) (number : ℕ)
    → BreaksOff pieces before now number → BreaksOff (pieces ++ more) before now number
breaks_more before now pieces more number off = record {
  whole = off.whole;
  broken = off.broken;
  later = off.later ++ more;
  are = ap (λ (ps : List Piece). ps ++ more) off.are ∙ append_assoc off.whole (off.broken ∷ off.later) more;
  number_is = off.number_is;
  stands = off.stands;
}
