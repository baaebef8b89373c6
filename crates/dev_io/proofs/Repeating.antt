-- Calls of a reader or a writer, repeated after interruptions.
use Rattle.std.proofs.Common.{◌≡◌, ◌≢◌, ◌+◌, ◌-◌, ◌^◌, ◌++◌, ◌∷◌, List, [], ℕ, Option, None, Some, Result, Ok, Err}
use Rattle.std.proofs.Common.{refl, ap, sym}
use Rattle.std.proofs.Common.{append_assoc, ◌∙◌, inl, inr, min, IfErr}
use Rattle.std.specs.Prelude.{replicate}
use Rattle.std.proofs.lemmas.List.{append-nil, replicate_more}
use Rattle.dev_io.specs.Calls.{CallsAgain, IsRead, IsSame, Repeats, then_called}

then-then : {Call : Type 0} (calls : Option (List Call)) (xs ys : List Call)
    → then_called (then_called calls xs) ys ≡ then_called calls (xs ++ ys)
then-then None xs ys = refl
then-then (Some calls) xs ys = ap Some (append_assoc calls xs ys)

-- no call yet
pub no_call : {Call : Type 0} (calls : Option (List Call)) → calls ≡ then_called calls []
no_call None = refl
no_call (Some calls) = ap Some (sym (append-nil calls))

-- one more call was interrupted
pub interrupted_on : {Call : Type 0} (x : Call) (before mid now : Option (List Call)) (n : ℕ)
    → mid ≡ then_called before (replicate n x) → now ≡ then_called mid (x ∷ [])
    → now ≡ then_called before (replicate (n + 1) x)
interrupted_on x before mid now n first next =
    next ∙ ap (λ calls. then_called calls (x ∷ [])) first ∙ then-then before (replicate n x) (x ∷ [])
    ∙ ap (then_called before) (replicate_more n x)

-- one more call, the last one
pub called_after : {Kind : Type 0} (interrupted : Kind) (before mid now : Option (List (Result ℕ Kind))) (n : ℕ)
    (outcome : Result ℕ Kind)
    → mid ≡ then_called before (replicate n (Err interrupted)) → now ≡ then_called mid (outcome ∷ [])
    → IfErr outcome (λ kind. kind ≢ interrupted)
    → Repeats interrupted before now outcome
called_after interrupted before mid now n outcome first next final = record {
  interruptions = n;
  last = outcome ∷ [];
  calls = next ∙ ap (λ calls. then_called calls (outcome ∷ [])) first
      ∙ then-then before (replicate n (Err interrupted)) (outcome ∷ []);
  final = final;
  ends = inl refl;
}

-- every call was interrupted
pub gives_up : {Kind : Type 0} (interrupted : Kind) (before now : Option (List (Result ℕ Kind))) (n : ℕ) (kind : Kind)
    → now ≡ then_called before (replicate n (Err interrupted)) → n ≡ 2 ^ 64 - 1
    → kind ≢ interrupted → Repeats interrupted before now (Err kind)
gives_up interrupted before now n kind first all other = record {
  interruptions = n;
  last = [];
  calls = first ∙ ap (then_called before) (sym (append-nil (replicate n (Err interrupted))));
  final = other;
  ends = inr (refl, all, refl);
}

given_by : {Kind Fault : Type 0} (interrupted : Kind) (before now : Option (List (Result ℕ Kind)))
    (asked filled given : ℕ) (last : Result ℕ Kind) → IsSame {Fault = Fault} last (Ok filled)
    → Repeats interrupted before now last
    → given ≡ min asked filled → CallsAgain {Fault = Fault} interrupted before now (IsRead asked) (Ok given)
given_by interrupted before now asked filled given (Ok n) same repeats is =
    record { last = Ok n; repeats = repeats; belongs = rw (← same) is }
given_by interrupted before now asked filled given (Err kind) none repeats is = absurd none

-- an adapter returns what fits of a filled buffer
pub given_of : {Kind Fault : Type 0} (interrupted : Kind) (before now : Option (List (Result ℕ Kind)))
    (asked filled given : ℕ) → CallsAgain {Fault = Fault} interrupted before now IsSame (Ok filled)
    → given ≡ min asked filled → CallsAgain {Fault = Fault} interrupted before now (IsRead asked) (Ok given)
given_of interrupted before now asked filled given calls is =
    given_by interrupted before now asked filled given calls.last calls.belongs calls.repeats is
