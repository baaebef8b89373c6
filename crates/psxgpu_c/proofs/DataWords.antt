-- Data words of a load that are fed at once: they have no notes.
use Rattle.std.proofs.Common.{◌≡◌, ◌≤◌, ◌<◌, ◌+◌, ◌-◌, ◌++◌, ℕ, zero, suc, List, [], ◌∷◌, true, length, take, drop}
use Rattle.std.proofs.Common.{get_or, nat_lt, Some, refl, ap, sym, subst, arith, ◌∙◌}
use Rattle.std.proofs.lemmas.Bool.Decides.{nat_tests}
use Rattle.std.proofs.lemmas.List.Sums.{fold_more, fold-append}
use Rattle.std.proofs.Math.Seq.{take-add}
use Rattle.event_play.specs.PlayedWords.{after_word, after_words}
use Rattle.event_play.specs.Replay.{Replay, from_state, next_number}
use Rattle.event_play.specs.RigState.{RigState, Stands, StandsFor}
use Rattle.event_play.specs.Step.{Machine}
use Rattle.gp0_words.specs.Items.{pending_behind}
use Rattle.gp0_words.specs.Next.{next_pending, wanted, IsPending}
use Rattle.gp0_words.specs.Sizes.{most_data_words}
use Rattle.gp0_words.specs.declared.item.Item.TheVariants as item
use Rattle.gp0_words.specs.declared.pending.Pending.TheVariants as pending
use Rattle.gp0_words.proofs.Pushes.{pushed, wanted_is}
use Rattle.gpu_core.specs.Kept.{Kept, kept_of}
use Rattle.gpu_core.specs.Machine.{State, after_gp0, gp0_note}
use Rattle.gpu_core.proofs.Fed.{IsFed, fed}
use Rattle.psxgpu_c.specs.declared.note.ItemNote.{ItemNote}
use Rattle.psxgpu_c.specs.Notes.{first_notes, noted_at}
use Rattle.psxgpu_c.proofs.NoteLemmas.{HasNotedFirst}

-- ---- one data word

pub data_word : (s : State) (event word left : ℕ) → pending_behind s.words ≡ pending.Pixels left → 0 < left
    → left ≤ most_data_words
    → IsFed s (kept_of s) (next_pending (pending.Pixels left) word) event word (Some (item.Pixels word))
data_word s event word left is some few =
    fed s (kept_of s) (next_pending (pending.Pixels left) word) event word (Some (item.Pixels word)) refl
    (rw is (pushed (pending.Pixels left) (next_pending (pending.Pixels left) word) word (Some (item.Pixels word))
    (some, few) refl refl))

quiet_word : (s : State) (place event word left : ℕ) → pending_behind s.words ≡ pending.Pixels left → 0 < left
    → left ≤ most_data_words → noted_at place (gp0_note s event word) ≡ []
quiet_word s place event word left is some few =
    let f = data_word s event word left is some few in
    rw f.note refl

next_wanted : (s : State) (word left : ℕ) → pending_behind s.words ≡ pending.Pixels left → 1 < left
    → left ≤ most_data_words → pending_behind (after_gp0 s word).words ≡ pending.Pixels (left - 1)
next_wanted s word left is some few =
    let f = data_word s 0 word left is (omega (arith, some)) few in
    let on : nat_lt 1 left ≡ true = grind (arith, nat_tests, some) in
    ap (λ (k : Kept). k.pending) f.feed ∙ rw on refl

-- ---- data words in order

wanted_on : (t : Replay) (words : List ℕ) (at n left : ℕ) → at + n ≤ length words → n < left → left ≤ most_data_words
    → pending_behind (after_words t (take at words)).state.gpu.words ≡ pending.Pixels left
    → pending_behind (after_words t (take (at + n) words)).state.gpu.words ≡ pending.Pixels (left - n)
wanted_on t words at zero left within some few is =
    let e : at + 0 ≡ at = omega arith in let f : left - 0 ≡ left = omega arith in rw (e, f) is
wanted_on t words at (suc n) left within some few is =
    let before = wanted_on t words at n left (omega (arith, within)) (omega (arith, some)) few is in
    let e : at + suc n ≡ at + n + 1 = omega arith in
    let less : left - n - 1 ≡ left - suc n = omega arith in
    let u = after_words t (take (at + n) words) in
    let w = get_or words (at + n) 0 in
    let step = fold_more after_word t words (at + n) 0 (omega (arith, within)) in
    let next = next_wanted u.state.gpu w (left - n) before (omega (arith, some)) (omega (arith, few)) in
    rw (e, step, ← less) next

pub quiet_words : (t : Replay) (words : List ℕ) (at n left : ℕ) → at + n ≤ length words → n ≤ left
    → left ≤ most_data_words
    → pending_behind (after_words t (take at words)).state.gpu.words ≡ pending.Pixels left
    → first_notes t words (at + n) ≡ first_notes t words at
quiet_words t words at zero left within some few is = let e : at + 0 ≡ at = omega arith in rw e refl
quiet_words t words at (suc n) left within some few is =
    let so_far = quiet_words t words at n left (omega (arith, within)) (omega (arith, some)) few is in
    let before = wanted_on t words at n left (omega (arith, within)) (omega (arith, some)) few is in
    let e : at + suc n ≡ suc (at + n) = omega arith in
    let u = after_words t (take (at + n) words) in
    let none = quiet_word u.state.gpu (at + n) (next_number u.played) (get_or words (at + n) 0) (left - n) before
    (omega (arith, some)) (omega (arith, few)) in
    rw (e, so_far, none) (append_nil_is (first_notes t words at))
  where
    append_nil_is : (xs : List ItemNote) → xs ++ [] ≡ xs
    append_nil_is [] = refl
    append_nil_is (x ∷ xs) = ap (λ ys. x ∷ ys) (append_nil_is xs)

-- ---- the notes recorded before decide nothing

same_start : (t u : Replay) (words : List ℕ) (rig : RigState) → t.state ≡ u.state → t.played ≡ u.played
    → StandsFor rig (after_words t words) → StandsFor rig (after_words u words)
same_start t u [] rig state played h = record {
  state = subst (λ (s : Machine). Stands rig s) state h.state;
  played = sym played ∙ h.played;
}
same_start t u (word ∷ words) rig state played h =
    same_start (after_word t word) (after_word u word) words rig
    (ap (λ (s : Machine). record s { gpu = after_gp0 s.gpu word }) state) (ap next_number played) h

-- data words were fed at once after the first words
pub noted_data : (t : Replay) (words : List ℕ) (at n k : ℕ) (rig next : RigState) (before now : List ItemNote)
    (count : ℕ)
    → k ≡ n → 0 < n → at + n ≤ length words → n ≤ wanted rig.gpu.pending → IsPending rig.gpu.pending
    → HasNotedFirst t words at rig before now count
    → ((s : Machine) → Stands rig s → StandsFor next (after_words (from_state s rig.played) (take k (drop at words))))
    → HasNotedFirst t words (at + n) next before now count
noted_data t words at n k rig next before now count same some within few kept h goes =
    let u = after_words t (take at words) in
    let left = wanted rig.gpu.pending in
    let open_load : rig.gpu.pending ≡ pending.Pixels left = wanted_is rig.gpu.pending (omega (arith, some, few)) in
    let there : pending_behind u.state.gpu.words ≡ pending.Pixels left =
    ap (λ (k : Kept). k.pending) h.stands.state.gpu ∙ open_load in
    let bounds : IsPending (pending.Pixels left) = rw open_load at kept in
    let quiet = quiet_words t words at n left within few bounds.1 there in
    let cut = take-add at n words in
    let part : List ℕ = take n (drop at words) in
    let gone : StandsFor next (after_words (from_state u.state rig.played) part) =
    subst (λ (k : ℕ). StandsFor next (after_words (from_state u.state rig.played) (take k (drop at words)))) same
    (goes u.state h.stands.state) in
    let on = same_start (from_state u.state rig.played) u part next refl (sym h.stands.played) gone in
    record {
      stands = rw (cut, fold-append after_word t (take at words) part) on;
      front = rw quiet h.front;
      after = h.after;
      is_count = rw quiet h.is_count;
    }
