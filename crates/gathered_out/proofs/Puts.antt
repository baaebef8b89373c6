-- Pieces of one event that are put one after another.
use Rattle.std.proofs.Common.{◌≡◌, ◌≤◌, ◌++◌, List, [], ◌∷◌, ℕ, Option, Result, Ok, Err, OnOk, IfErr, OnErr, refl}
use Rattle.std.proofs.Common.{append_assoc, ap, sym, ◌∙◌, arith, append-nil}
use Rattle.dev_io.specs.Device.{Rose}
use Rattle.gathered_out.specs.Pieces.{AreOut, BreaksOff, Piece, bytes_of, piece}
use Rattle.gathered_out.specs.Puts.{AreNumbered, ArePieces, BreaksPut, IsPut, Puts, SinkState, holding}
use Rattle.gathered_out.proofs.Pieces.{breaks_more, bytes_append}

-- ---- pieces of one number

numbered_append : (number : ℕ) (xs ys : List Piece) → AreNumbered number xs → AreNumbered number ys
    → AreNumbered number (xs ++ ys)
numbered_append number [] ys first last = last
numbered_append number (x ∷ xs) ys first last = (first.0, numbered_append number xs ys first.1 last)

are_one : (number : ℕ) (bytes : List ℕ) → ArePieces number bytes (piece number bytes ∷ [])
are_one number bytes = record { numbers = (refl, tt); bytes_are = append-nil bytes }

are_both : (number : ℕ) (xs ys : List ℕ) (ps qs : List Piece) → ArePieces number xs ps → ArePieces number ys qs
    → ArePieces number (xs ++ ys) (ps ++ qs)
are_both number xs ys ps qs first last = record {
  numbers = numbered_append number ps qs first.numbers last.numbers;
  bytes_are = bytes_append ps qs ∙ ap (λ bs. bs ++ bytes_of qs) first.bytes_are ∙ ap (λ bs. xs ++ bs) last.bytes_are;
}

out_same : (base held : Option (List ℕ)) (ps qs buffered : List Piece) → ps ≡ qs → AreOut base ps held buffered
    → AreOut base qs held buffered
out_same base held ps qs buffered same out = rw (← same) out

off_same : (base now : Option (List ℕ)) (ps qs : List Piece) (lacking : ℕ) → ps ≡ qs → BreaksOff ps base now lacking
    → BreaksOff qs base now lacking
off_same base now ps qs lacking same off = rw (← same) off

-- ---- one piece

pub put_one : {Value : Type 0} (number : ℕ) (bytes : List ℕ) (before now : SinkState) (result : Result Value ℕ)
    → ((base : Option (List ℕ)) (pieces : List Piece) → AreOut base pieces before.held before.buffered
    → OnOk result (AreOut base (pieces ++ piece number bytes ∷ []) now.held now.buffered))
    → ((base : Option (List ℕ)) (pieces : List Piece) → AreOut base pieces before.held before.buffered
    → IfErr result (BreaksOff pieces base now.held))
    → OnErr result (Rose before.faults now.faults) → before.faults ≤ now.faults
    → Puts (piece number bytes) before now result
put_one number bytes before now (Ok v) ok failed cause faults = record {
  ok = record { parts = piece number bytes ∷ []; are = are_one number bytes; out = ok };
  failed = tt;
  cause = tt;
  faults = faults;
}
put_one number bytes before now (Err e) ok failed cause faults = record {
  ok = tt;
  failed = record {
    parts = piece number bytes ∷ [];
    are = are_one number bytes;
    off = λ base pieces out.
        breaks_more base now.held pieces (piece number bytes ∷ []) e (failed base pieces out);
  };
  cause = cause;
  faults = faults;
}

-- ---- output that was put

-- this output was put between the states `before` and `now` of a sink and its buffer
pub record HasPut (due : Piece) (before now : SinkState) : Type 0 where
  pub put : IsPut due (holding before.held before.buffered) (holding now.held now.buffered)
  pub faults : before.faults ≤ now.faults

pub put_none : (number : ℕ) (at : SinkState) → HasPut (piece number []) at at
put_none number at = record {
  put = record {
    parts = [];
    are = record { numbers = tt; bytes_are = refl };
    out = λ base pieces out. out_same base at.held pieces (pieces ++ []) at.buffered (sym (append-nil pieces)) out;
  };
  faults = omega arith;
}

-- one more call that put all of its bytes
pub put_on : {Value : Type 0} (number : ℕ) (before mid now : SinkState) (xs ys : List ℕ) (v : Value)
    → HasPut (piece number xs) before mid → Puts {Value = Value} (piece number ys) mid now (Ok v)
    → HasPut (piece number (xs ++ ys)) before now
put_on number before mid now xs ys v first next =
    let last : IsPut (piece number ys) (holding mid.held mid.buffered) (holding now.held now.buffered) = next.ok in
    record {
      put = record {
        parts = first.put.parts ++ last.parts;
        are = are_both number xs ys first.put.parts last.parts first.put.are last.are;
        out = λ base pieces out.
            out_same base now.held ((pieces ++ first.put.parts) ++ last.parts)
            (pieces ++ (first.put.parts ++ last.parts)) now.buffered
            (append_assoc pieces first.put.parts last.parts)
            (last.out base (pieces ++ first.put.parts) (first.put.out base pieces out));
      };
      faults = let a = first.faults in let b = next.faults in omega (arith, a, b);
    }

-- one more call that failed, with further bytes to follow
pub put_fails : {Value Other : Type 0} (number : ℕ) (before mid now : SinkState) (xs ys zs : List ℕ) (e : ℕ)
    → HasPut (piece number xs) before mid → Puts {Value = Value} (piece number ys) mid now (Err e)
    → Puts {Value = Other} (piece number (xs ++ (ys ++ zs))) before now (Err e)
put_fails number before mid now xs ys zs e first next =
    let rest : List Piece = piece number zs ∷ [] in
    let last : BreaksPut (piece number ys) (holding mid.held mid.buffered) now.held e = next.failed in
    record {
      ok = tt;
      failed = record {
        parts = first.put.parts ++ (last.parts ++ rest);
        are = are_both number xs (ys ++ zs) first.put.parts (last.parts ++ rest) first.put.are
            (are_both number ys zs last.parts rest last.are (are_one number zs));
        off = λ base pieces out.
            let same : ((pieces ++ first.put.parts) ++ last.parts) ++ rest
            ≡ pieces ++ (first.put.parts ++ (last.parts ++ rest)) =
            append_assoc (pieces ++ first.put.parts) last.parts rest
            ∙ append_assoc pieces first.put.parts (last.parts ++ rest) in
            off_same base now.held _ _ e same
            (breaks_more base now.held ((pieces ++ first.put.parts) ++ last.parts) rest e
            (last.off base (pieces ++ first.put.parts) (first.put.out base pieces out)));
      };
      cause = let a = first.faults in let b = next.cause in omega (arith, a, b);
      faults = let a = first.faults in let b = next.faults in omega (arith, a, b);
    }

-- all output was put
pub puts_all : {Value : Type 0} (due : Piece) (before now : SinkState) (v : Value) → HasPut due before now
    → Puts {Value = Value} due before now (Ok v)
puts_all due before now v done = record { ok = done.put; failed = tt; cause = tt; faults = done.faults }

-- one more call, which is the last
pub puts_on : {Value : Type 0} (number : ℕ) (before mid now : SinkState) (xs ys : List ℕ) (result : Result Value ℕ)
    → HasPut (piece number xs) before mid → Puts (piece number ys) mid now result
    → Puts (piece number (xs ++ ys)) before now result
puts_on number before mid now xs ys (Ok v) first next =
    puts_all (piece number (xs ++ ys)) before now v (put_on number before mid now xs ys v first next)
puts_on number before mid now xs ys (Err e) first next =
    let on = put_fails number before mid now xs ys [] e first next in
    rw (← append-nil ys) on

-- the first of several calls put all of its bytes
pub put_first : {Value : Type 0} (due : Piece) (before now : SinkState) (v : Value)
    → Puts {Value = Value} due before now (Ok v) → HasPut due before now
put_first due before now v next = record { put = next.ok; faults = next.faults }
