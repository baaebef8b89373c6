-- Slots that are written in order.
use Rattle.std.proofs.Common.{◌≡◌, ◌<◌, ◌≤◌, ◌+◌, ◌++◌, suc, List, [], ◌∷◌, Option, None, Some, drop, take, length}
use Rattle.std.proofs.Common.{ℕ, length-append, refl, ap, sym, subst, ◌∙◌, append_assoc, append-nil, arith}
use Rattle.gpu_capture.specs.declared.event.Event.{Event}
use Rattle.capture_slim.specs.File.{FailsFirst, FailsIn, FailsNext, FailsRest, Output}
use Rattle.capture_slim.specs.Places.{kept_of}
use Rattle.capture_slim.specs.Stream.{first_left}
use Rattle.capture_slim.specs.Window.{all_left, left_of}
use Rattle.capture_slim.specs.declared.ending.SlimEnding.{SlimEnding}
use Rattle.capture_slim.specs.declared.ending.SlimEnding.TheVariants.{Done, Stopped, NotFlat, TooLong, WriteFailed}
use Rattle.capture_slim.specs.declared.slot.Slot.{Slot}

pub left_long : (slots : List Slot) → length (all_left slots) ≡ length slots
left_long [] = refl
left_long (s ∷ slots) = ap suc (left_long slots)

pub kept_append : (xs ys : List (Option Event)) → kept_of (xs ++ ys) ≡ kept_of xs ++ kept_of ys
kept_append [] ys = refl
kept_append (None ∷ xs) ys = kept_append xs ys
kept_append (Some e ∷ xs) ys = ap (λ (es : List Event). e ∷ es) (kept_append xs ys)

pub left_append : (first last : List Slot) → all_left (first ++ last) ≡ all_left first ++ all_left last
left_append [] last = refl
left_append (s ∷ first) last = ap (λ (outs : List (Option Event)). left_of s.event s.mark ∷ outs)
    (left_append first last)

pub all_left_long : (outs : List (Option Event)) (slots : List Slot) → length (outs ++ all_left slots)
    ≡ length outs + length slots
all_left_long outs slots = omega (arith, length-append outs (all_left slots), left_long slots)

-- the first slot, whether its event stays or not
pub first_none : (slots : List Slot) → first_left slots ≡ None → kept_of (all_left (take 1 slots)) ≡ []
first_none [] none = refl
first_none (s ∷ slots) none = ap (λ (out : Option Event). kept_of (out ∷ [])) none

pub first_some : (slots : List Slot) (e : Event) → first_left slots ≡ Some e → all_left (take 1 slots) ≡ Some e ∷ []
first_some [] e some = absurd cc
first_some (s ∷ slots) e some = ap (λ (out : Option Event). out ∷ []) some

-- the first of the remaining slots is done
pub record MovesOn (all done slots : List Slot) : Type 0 where
  pub next : Slot
  pub after : List Slot
  pub slots_are : slots ≡ next ∷ after
  pub are : all ≡ (done ++ next ∷ []) ++ drop 1 slots
  pub counted : length (done ++ next ∷ []) ≡ length done + 1
  pub placed : (outs : List (Option Event)) → (outs ++ all_left done) ++ all_left (take 1 slots)
      ≡ outs ++ all_left (done ++ next ∷ [])

pub moves_on : (all done slots : List Slot) → all ≡ done ++ slots → length done < length all → MovesOn all done slots
moves_on all done [] are lt = absurd (omega (arith, ap length are, lt, length-append {A = Slot} done []))
moves_on all done (s ∷ slots) are lt = record {
  next = s;
  after = slots;
  slots_are = refl;
  are = are ∙ sym (append_assoc done (s ∷ []) slots);
  counted = omega (arith, length-append done (s ∷ []));
  placed = λ outs.
      append_assoc outs (all_left done) (left_of s.event s.mark ∷ [])
      ∙ ap (λ (os : List (Option Event)). outs ++ os) (sym (left_append done (s ∷ [])));
}

-- ---- a record that was not written, or would make the file too long

-- if more events follow
pub fails_wider : (output : Output) (outs more : List (Option Event)) (number : ℕ) (ending : SlimEnding)
    → FailsIn output outs number ending → FailsIn output (outs ++ more) number ending
fails_wider output outs more number ending fails = record {
  earlier = fails.earlier;
  event = fails.event;
  later = fails.later ++ more;
  are = ap (λ (os : List (Option Event)). os ++ more) fails.are
      ∙ append_assoc fails.earlier (Some fails.event ∷ fails.later) more;
  number_is = fails.number_is;
  fails = fails.fails;
}

module _ (output : Output) (outs : List (Option Event)) (all done : List Slot) where
  -- after some slots, before others
  rest_are : (slots : List Slot) → all ≡ done ++ slots
      → (outs ++ all_left done) ++ all_left slots ≡ outs ++ all_left all
  rest_are slots are =
      append_assoc outs (all_left done) (all_left slots)
      ∙ ap (λ (os : List (Option Event)). outs ++ os) (sym (left_append done slots) ∙ ap all_left (sym are))

  rest_fails : (slots : List Slot) (s : Slot) (e : Event) (ending : SlimEnding)
      → all ≡ done ++ s ∷ slots → left_of s.event s.mark ≡ Some e
      → FailsNext output (outs ++ all_left done) e ending → FailsRest output outs (all_left all) ending
  rest_fails slots s e (TooLong at) are left fails = (
    omega (arith, fails.0, length-append outs (all_left done)),
    record {
      earlier = outs ++ all_left done;
      event = e;
      later = all_left slots;
      are = sym (rest_are (s ∷ slots) are)
          ∙ ap (λ (out : Option Event). (outs ++ all_left done) ++ out ∷ all_left slots) left;
      number_is = fails.0;
      fails = (refl, fails.1);
    },
  )
  rest_fails slots s e (WriteFailed at) are left fails =
      let P : List (Option Event) → Type 0 = λ os. FailsIn output os at (WriteFailed at) in
      subst P (rest_are (s ∷ slots) are)
      (fails_wider output (outs ++ all_left done) (all_left (s ∷ slots)) at (WriteFailed at) fails)
  rest_fails slots s e Done are left fails = absurd fails
  rest_fails slots s e (Stopped at stop) are left fails = absurd fails
  rest_fails slots s e (NotFlat at) are left fails = absurd fails

  pub fails_slots : (slots : List Slot) (ending : SlimEnding) → all ≡ done ++ slots
      → FailsFirst output (outs ++ all_left done) (first_left slots) ending
      → FailsRest output outs (all_left all) ending
  fails_slots [] ending are first = let none = first.event_is in absurd cc
  fails_slots (s ∷ slots) ending are first = rest_fails slots s first.event ending are first.event_is first.fails

-- all are done
pub none_left : (all done slots : List Slot) → all ≡ done ++ slots → length all ≤ length done → done ≡ all
none_left all done [] are le = sym (are ∙ append-nil done)
none_left all done (s ∷ slots) are le = absurd (omega (arith, ap length are, le, length-append done (s ∷ slots)))
