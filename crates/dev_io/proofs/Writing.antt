-- Calls that write, one after another.
use Rattle.std.proofs.Common.{◌≡◌, ◌≤◌, ◌++◌, List, [], ℕ, Result, Ok, Err, refl, append_assoc, ap, sym, ◌∙◌}
use Rattle.std.proofs.Common.{arith}
use Rattle.std.proofs.lemmas.List.{append-nil}
use Rattle.dev_io.specs.Device.{SinkSide, Writes, appended}
use Rattle.dev_io.proofs.Appended.{appended-appended, appended-nil}
use Rattle.dev_io.proofs.Parts.{part_after}

-- these bytes were written since the sink's state `before`
pub record Wrote {Sink : Type 0} (told : Sink → SinkSide) (before now : Sink)
    (written : List ℕ) : Type 0 where
  pub bytes : (told now).held ≡ appended (told before).held written
  pub faults : (told before).faults ≤ (told now).faults

pub wrote_none : {Sink : Type 0} (told : Sink → SinkSide) (sink : Sink)
    → Wrote told sink sink []
wrote_none told sink = record { bytes = sym (appended-nil (told sink).held); faults = omega arith }

-- one more call, which wrote all of its bytes
pub wrote_on : {Sink Value Error : Type 0} (told : Sink → SinkSide)
    (before mid now : Sink) (xs ys : List ℕ) (v : Value)
    → Wrote told before mid xs → Writes {Value = Value} {Error = Error} told mid now ys (Ok v)
    → Wrote told before now (xs ++ ys)
wrote_on told before mid now xs ys v first next = record {
  bytes = next.ok ∙ ap (λ bytes. appended bytes ys) first.bytes ∙ appended-appended (told before).held xs ys;
  faults = omega (arith, first.faults, next.faults);
}

-- one more call, which failed; more bytes were to follow
pub fails_on : {Sink Value Error Other : Type 0} (told : Sink → SinkSide)
    (before mid now : Sink) (xs ys zs : List ℕ) (e : Error)
    → Wrote told before mid xs → Writes {Value = Value} {Error = Error} told mid now ys (Err e)
    → Writes {Value = Other} {Error = Error} told before now (xs ++ (ys ++ zs)) (Err e)
fails_on told before mid now xs ys zs e first next = record {
  ok = tt;
  failed = part_after (told before).held (told mid).held (told now).held xs ys zs first.bytes next.failed;
  cause = omega (arith, first.faults, next.cause);
  faults = omega (arith, first.faults, next.faults);
}

-- one more call, the last one
pub writes_on : {Sink Value Error : Type 0} (told : Sink → SinkSide)
    (before mid now : Sink) (xs ys : List ℕ) (result : Result Value Error)
    → Wrote told before mid xs → Writes told mid now ys result
    → Writes told before now (xs ++ ys) result
writes_on told before mid now xs ys (Ok v) first next =
    let on = wrote_on told before mid now xs ys v first next in
    record { ok = on.bytes; failed = tt; cause = tt; faults = on.faults }
writes_on told before mid now xs ys (Err e) first next =
    let on = fails_on told before mid now xs ys [] e first next in
    rw (← append-nil ys) on

-- all bytes were written
pub writes_all : {Sink Value Error : Type 0} (told : Sink → SinkSide) (before now : Sink)
    (xs : List ℕ) (v : Value)
    → Wrote told before now xs → Writes {Value = Value} {Error = Error} told before now xs (Ok v)
writes_all told before now xs v done =
    record { ok = done.bytes; failed = tt; cause = tt; faults = done.faults }

-- ---- some of the bytes were written, and the others are left

pub record IsUnderway {Sink : Type 0} (told : Sink → SinkSide) (before now : Sink)
    (left all : List ℕ) : Type 0 where
  pub written : List ℕ
  pub wrote : Wrote told before now written
  pub are : written ++ left ≡ all

pub underway_start : {Sink : Type 0} (told : Sink → SinkSide) (sink : Sink) (all : List ℕ)
    → IsUnderway told sink sink all all
underway_start told sink all = record { written = []; wrote = wrote_none told sink; are = refl }

-- the next piece was written
pub underway_on : {Sink Value Error : Type 0} (told : Sink → SinkSide)
    (before mid now : Sink) (left piece rest all : List ℕ) (v : Value)
    → IsUnderway told before mid left all → left ≡ piece ++ rest
    → Writes {Value = Value} {Error = Error} told mid now piece (Ok v)
    → IsUnderway told before now rest all
underway_on told before mid now left piece rest all v so_far is next = record {
  written = so_far.written ++ piece;
  wrote = wrote_on told before mid now so_far.written piece v so_far.wrote next;
  are = append_assoc so_far.written piece rest ∙ ap (λ bytes. so_far.written ++ bytes) (sym is) ∙ so_far.are;
}

-- the next piece failed
pub underway_fails : {Sink Value Error Other : Type 0} (told : Sink → SinkSide)
    (before mid now : Sink) (left piece rest all : List ℕ) (e : Error)
    → IsUnderway told before mid left all → left ≡ piece ++ rest
    → Writes {Value = Value} {Error = Error} told mid now piece (Err e)
    → Writes {Value = Other} {Error = Error} told before now all (Err e)
underway_fails told before mid now left piece rest all e so_far is next =
    rw (← so_far.are, is) (fails_on told before mid now so_far.written piece rest e so_far.wrote next)

-- the last piece was written, or failed
pub underway_last : {Sink Value Error : Type 0} (told : Sink → SinkSide)
    (before mid now : Sink) (left all : List ℕ) (result : Result Value Error)
    → IsUnderway told before mid left all → Writes told mid now left result
    → Writes told before now all result
underway_last told before mid now left all result so_far next =
    rw (← so_far.are) (writes_on told before mid now so_far.written left result so_far.wrote next)

-- nothing is left
pub underway_end : {Sink Value Error : Type 0} (told : Sink → SinkSide)
    (before now : Sink) (left all : List ℕ) (v : Value)
    → IsUnderway told before now left all → left ≡ []
    → Writes {Value = Value} {Error = Error} told before now all (Ok v)
underway_end told before now left all v so_far none =
    let are : so_far.written ≡ all = sym (append-nil so_far.written) ∙ ap (λ bytes. so_far.written ++ bytes) (sym none)
    ∙ so_far.are in
    rw (← are) (writes_all told before now so_far.written v so_far.wrote)
