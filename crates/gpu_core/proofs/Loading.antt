-- Data words of the open load, one after another.
use Rattle.std.proofs.Common.{◌≡◌, ◌<◌, ◌≤◌, ◌+◌, ◌-◌, ◌*◌, ℕ, suc, List, [], ◌∷◌, Option, Some, None, length, fold}
use Rattle.std.proofs.Common.{map}
use Rattle.std.proofs.Common.{nat_lt, true, false, refl, ap, sym, ◌∙◌, inl, inr, arith}
use Rattle.std.proofs.lemmas.Bool.{cases_Bool, ltb-true}
use Rattle.std.proofs.lemmas.Bool.Decides.{nat_tests}
use Rattle.gp0_words.proofs.Pushes.{pushed}
use Rattle.gp0_words.specs.Next.{wanted, next_pending, IsPending}
use Rattle.gp0_words.specs.Pushed.{IsPushed}
use Rattle.gp0_words.specs.Skipped.{behind_pixels}
use Rattle.gp0_words.specs.declared.item.Item.TheVariants as item
use Rattle.gp0_words.specs.declared.pending.Pending.{Pending}
use Rattle.gp0_words.specs.declared.pending.Pending.TheVariants as pending
use Rattle.gpu_taps.specs.Bare.{bare_note, bare_notes, after_notes}
use Rattle.gpu_taps.specs.Tally.{capped}
use Rattle.vram_copy.proofs.LoadLemmas.{one_more_word, pixels_more}
use Rattle.vram_copy.specs.Words.{advanced, advanced_by, pixels_next, pixels_in, loaded_word, loaded_words}
use Rattle.vram_copy.specs.declared.transfer.Transfer.{Transfer}
use Rattle.gpu_core.specs.Cost.{gp0_cost, pixels_of}
use Rattle.gpu_core.specs.Kept.{Kept, kept_of, IsLinked}
use Rattle.gpu_core.specs.Feeds.{After, Hearing, TakesWords, but_pixels, feed_notes, feeds_cost}
use Rattle.gpu_core.specs.Loading.{open_still, with_words, pixels_in_load}
use Rattle.gpu_core.specs.Machine.{Parts, State, after_gp0, gp0_note, with_pixels}
use Rattle.gpu_core.proofs.Fed.{fed, data_effect, data_cost, data_note}
use Rattle.gpu_core.proofs.Link.{fewer, one_more}

-- the essential part while a load is open
abbrev loading : Parts → (left : ℕ) → Kept
loading p left = record { parts = p; pending = pending.Pixels left }

-- ---- one word

record IsOne (s : State) (p : Parts) (job : Transfer) (left word : ℕ) : Type 0 where
  pub feed : kept_of (after_gp0 s word)
      ≡ record { parts = with_pixels p (Some job) word; pending = next_pending (pending.Pixels left) word }
  pub note : (event : ℕ) → gp0_note s event word ≡ Some (bare_note 9 event word)
  pub cost : gp0_cost s word ≡ 2 * pixels_next job

one : (s : State) (p : Parts) (job : Transfer) (left word : ℕ) → kept_of s ≡ loading p left → p.load ≡ Some job
    → IsPending (pending.Pixels left) → IsOne s p job left word
one s p job left word e open_load kept =
    let push : IsPushed (pending.Pixels left) (next_pending (pending.Pixels left) word) word (Some (item.Pixels word)) =
    pushed (pending.Pixels left) (next_pending (pending.Pixels left) word) word
    (Some (item.Pixels word)) kept refl refl in
    let is = λ (event : ℕ). fed s (loading p left) (next_pending (pending.Pixels left) word) event word
    (Some (item.Pixels word)) e push in
    let f : Parts → Kept = λ p. record { parts = p; pending = next_pending (pending.Pixels left) word } in
    record {
      feed = (is 0).feed ∙ ap f (data_effect p word ∙ ap (λ load. with_pixels p load word) open_load);
      note = λ event. (is event).note ∙ ap Some (data_note p.regs event word);
      cost = (is 0).cost ∙ data_cost p word ∙ ap (λ load. 2 * pixels_of load) open_load;
    }

-- ---- more words

after_more : (left n : ℕ) → behind_pixels (pending.Pixels (left - 1)) n ≡ behind_pixels (pending.Pixels left) (suc n)
after_more left n =
    elim (cases_Bool (nat_lt (suc n) left)) [
      | inl is ↦
          let more : nat_lt n (left - 1) ≡ true = grind (arith, nat_tests, is) in
          let same : left - 1 - n ≡ left - suc n = omega arith in
          rw (is, more, same) refl
      | inr is ↦
          let none : nat_lt n (left - 1) ≡ false = grind (arith, nat_tests, is) in
          rw (is, none) refl
    ]

record IsLoaded (s : State) (p : Parts) (job : Transfer) (left : ℕ) (words : List ℕ) : Type 0 where
  pub feed : kept_of (fold after_gp0 s words)
      ≡ record { parts = with_words p (Some job) words; pending = behind_pixels (pending.Pixels left) (length words) }
  pub notes : (first : ℕ) → feed_notes s first words ≡ bare_notes 9 first words
  pub cost : feeds_cost s words ≡ 2 * pixels_in job (length words)

loaded : (words : List ℕ) (s : State) (p : Parts) (job : Transfer) (left : ℕ) → 0 < length words
    → kept_of s ≡ loading p left → p.load ≡ Some job → IsPending (pending.Pixels left)
    → IsLinked (pending.Pixels left) (Some job) → length words ≤ left → IsLoaded s p job left words
loaded [] s p job left some e open_load kept link few = absurd (omega (arith, some))
loaded (word ∷ []) s p job left some e open_load kept link few =
    let first = one s p job left word e open_load kept in
    record {
      feed = first.feed;
      notes = λ number. rw (first.note (capped number)) refl;
      cost = let c = first.cost in omega (arith, c);
    }
loaded (word ∷ next ∷ words) s p job left some e open_load kept link few =
    let first = one s p job left word e open_load kept in
    let n = length (next ∷ words) in
    let on : nat_lt 1 left ≡ true = grind (arith, few) in
    let still : nat_lt (job.at + pixels_next job) (job.w * job.h) ≡ true =
    sym (one_more (job.w * job.h) job.at left link.0 link.1) ∙ on in
    let within = ltb-true (job.at + pixels_next job) (job.w * job.h) still in
    let q : Parts = record p { m = loaded_word p.m p.regs.mask job word; load = Some (advanced job) } in
    let at_next : kept_of (after_gp0 s word) ≡ loading q (left - 1) = first.feed ∙ rw (on, still) refl in
    let rest = loaded (next ∷ words) (after_gp0 s word) q (advanced job) (left - 1) (omega arith) at_next refl
    (let most = kept.1 in (omega (arith, few), omega (arith, most)))
    (fewer (job.w * job.h) job.at left link.0 within, within) (omega (arith, few)) in
    let f : Transfer → Parts = λ j. record p {
      m = loaded_words (loaded_word p.m p.regs.mask job word) p.regs.mask (advanced job) (next ∷ words);
      load = open_still j;
    } in
    record {
      feed = rest.feed ∙ ap (λ (p : Parts). record { parts = p; pending = behind_pixels (pending.Pixels (left - 1)) n })
          (ap f (one_more_word job n))
          ∙ ap (λ (h : Pending). record { parts = f (advanced_by job (suc n)); pending = h }) (after_more left n);
      notes = λ number. rw (first.note (capped number), rest.notes (number + 1)) refl;
      cost = let a = first.cost in let b = rest.cost in let more = pixels_more job n in omega (arith, a, b, more);
    }

-- their notes are those of data words
pub pixels_unseen : (first : ℕ) (words : List ℕ) → but_pixels (bare_notes 9 first words) ≡ []
pixels_unseen first [] = refl
pixels_unseen first (word ∷ words) = pixels_unseen (first + 1) words

-- ---- a load that is open

-- its words were fed at once, and each has the note of a data word
pub loads : (s : State) (p : Parts) (load : Option Transfer) (h : Pending) (played : ℕ) (words : List ℕ)
    (before : Hearing) (now : After)
    → kept_of s ≡ record { parts = p; pending = h } → p.load ≡ load → IsPending h → IsLinked h load → 0 < length words
    → length words ≤ wanted h
    → now.gpu ≡ record { parts = with_words p load words; pending = behind_pixels h (length words) }
    → now.heard ≡ map (after_notes (bare_notes 9 (played + 1) words)) before.heard
    → now.steps ≤ before.steps + 2 * pixels_in_load load (length words)
    → TakesWords s (played + 1) words before now
    × (feed_notes s (played + 1) words ≡ bare_notes 9 (played + 1) words)
loads s p None (pending.Pixels left) played words before now e open_load kept link some few gpu told cost =
    absurd link
loads s p (Some job) (pending.Pixels left) played words before now e open_load kept link some few gpu told cost =
    let is = loaded words s p job left some e open_load kept link few in (
      record {
        feed = rw gpu is.feed;
        told = rw (is.notes (played + 1)) told;
        cost = let c = is.cost in omega (arith, c, cost);
      },
      is.notes (played + 1),
    )
loads s p load pending.Idle played words before now e open_load kept link some few gpu told cost =
    absurd (omega (arith, some, few))
loads s p load (pending.Packet held) played words before now e open_load kept link some few gpu told cost =
    absurd (omega (arith, some, few))
loads s p load (pending.Poly command color vertex half) played words before now e open_load kept link some few gpu
    told cost =
    absurd (omega (arith, some, few))
