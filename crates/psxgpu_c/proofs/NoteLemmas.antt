-- The notes of words that are fed one after another.
use Rattle.std.proofs.Common.{◌≡◌, ◌≤◌, ◌<◌, ◌+◌, ◌++◌, ℕ, List, Option, length, take, drop, get_or}
use Rattle.std.proofs.Common.{refl, ap, sym, subst, arith, ◌∙◌, length-append, add-one}
use Rattle.std.proofs.lemmas.List.{take_all, drop-drop}
use Rattle.std.proofs.lemmas.List.Sums.{fold_more}
use Rattle.gp0_packets.specs.declared.note.Note.{Note}
use Rattle.psxgpu_c.specs.declared.note.ItemNote.{ItemNote}
use Rattle.event_play.specs.PlayedWords.{after_word, after_words}
use Rattle.event_play.specs.Replay.{Replay, from_state, next_number}
use Rattle.event_play.specs.RigState.{RigState, Stands, StandsFor}
use Rattle.event_play.specs.Step.{Machine}
use Rattle.gpu_core.specs.Machine.{gp0_note}
use Rattle.psxgpu_c.specs.Notes.{HasNoted, first_notes, noted_at, noting}

-- the first n words were fed, and their notes are at the start of the buffer
pub record HasNotedFirst (t : Replay) (words : List ℕ) (n : ℕ) (rig : RigState) (before now : List ItemNote) (count : ℕ)
    : Type 0 where
  pub stands : StandsFor rig (after_words t (take n words))
  pub front : take count now ≡ first_notes t words n
  pub after : drop count now ≡ drop count before
  pub is_count : count ≡ length (first_notes t words n)

pub noted_none : (s : Machine) (rig : RigState) (words : List ℕ) (before : List ItemNote) → Stands rig s
    → HasNotedFirst (from_state s rig.played) words 0 rig before before 0
noted_none s rig words before stands = record {
  stands = record { state = stands; played = refl };
  front = refl;
  after = refl;
  is_count = refl;
}

-- one more word
pub noted_more : (t : Replay) (words : List ℕ) (n : ℕ) (rig next : RigState) (before mid now : List ItemNote)
    (count more : ℕ) (note : Option Note) → n < length words
    → HasNotedFirst t words n rig before mid count
    → ((s : Machine) → Stands rig s → StandsFor next (after_word (from_state s rig.played) (get_or words n 0)))
    → ((s : Machine) → Stands rig s → gp0_note s.gpu (next_number rig.played) (get_or words n 0) ≡ note)
    → more ≡ count + length (noted_at n note)
    → take more now ≡ take count mid ++ noted_at n note
    → drop more now ≡ drop more mid
    → HasNotedFirst t words (n + 1) next before now more
noted_more t words n rig next before mid now count more note lt h goes tells is_more front back =
    let u = after_words t (take n words) in
    let w = get_or words n 0 in
    let step = fold_more after_word t words n 0 lt in
    let told : gp0_note u.state.gpu (next_number u.played) w ≡ note =
    rw h.stands.played (tells u.state h.stands.state) in
    let go = goes u.state h.stands.state in
    let after : StandsFor next (after_word u w) =
    record { state = go.state; played = ap next_number h.stands.played ∙ go.played } in
    let notes : first_notes t words (n + 1) ≡ first_notes t words n ++ noted_at n note =
    rw add-one (ap (λ o. first_notes t words n ++ noted_at n o) told) in
    record {
      stands = rw step after;
      front = rw (front, h.front, notes) refl;
      after = rw (back, is_more, ← drop-drop (length (noted_at n note)) count mid, h.after)
          (drop-drop (length (noted_at n note)) count before);
      is_count = rw (notes, length-append (first_notes t words n) (noted_at n note), ← h.is_count) is_more;
    }

pub noted_all : (t : Replay) (words : List ℕ) (n : ℕ) (rig : RigState) (before now : List ItemNote) (count : ℕ)
    → n ≡ length words → count ≤ length before
    → HasNotedFirst t words n rig before now count → HasNoted t words before (noting rig now) count
noted_all t words n rig before now count is fits h =
    let all : take n words ≡ words = take_all n words (omega (arith, is)) in
    let due : first_notes t words n ≡ first_notes t words (length words) = ap (λ k. first_notes t words k) is in
    let many : length (first_notes t words (length words)) ≡ count =
    sym (h.is_count ∙ ap (λ (xs : List ItemNote). length xs) due) in
    record {
      stands = subst (λ ws. StandsFor rig (after_words t ws)) all h.stands;
      front = record {
        fits = rw many fits;
        front = rw many (h.front ∙ due);
        after = rw many h.after;
      };
      is_count = sym many;
    }
