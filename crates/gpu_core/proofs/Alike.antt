-- States with equal essential parts behave alike.
use Rattle.std.proofs.Common.{◌≡◌, ℕ, ◌*◌, Bool, true, false, cond, List, [], is_some, refl, sym, ap, ◌∙◌}
use Rattle.gp0_words.specs.Items.{pending_behind}
use Rattle.gp0_words.specs.Next.{next_item, next_pending}
use Rattle.gp0_words.proofs.Cut.{items_of-push, pending_behind-push}
use Rattle.gp1_status.specs.Registers.{gp1_of, is_clearing, status_of}
use Rattle.gpu_core.specs.Cost.{gp0_cost, gp0_box_cost, read_cost, read_box_cost, item_cost, item_box_cost, pixels_of}
use Rattle.gpu_core.specs.Kept.{Kept, kept_of}
use Rattle.gpu_core.specs.Laws.{GoOnAlike}
use Rattle.gpu_core.specs.Machine.{Parts, State, after_gp0, gp0_note, after_gp1, after_read, read_word, is_idle_state}
use Rattle.gpu_core.specs.Machine.{status_word}
use Rattle.gpu_core.specs.Machine.{new_item, after_item, noted, cleared, taken_from, is_idle}
use Rattle.gpu_core.proofs.States.{new_item-is}

-- what is pending decides which item a word completes
pub new_item-next : (words : List ℕ) (word : ℕ) → new_item words word ≡ next_item (pending_behind words) word
new_item-next words word = new_item-is words word (next_item (pending_behind words) word) (items_of-push words word)

-- ---- each step, by the essential part

fed_kept : (s : State) (word : ℕ) → kept_of (after_gp0 s word)
    ≡ record {
      parts = after_item s.parts (next_item (pending_behind s.words) word);
      pending = next_pending (pending_behind s.words) word;
    }
unfolding after_gp0
fed_kept s word = rw (new_item-next s.words word, pending_behind-push s.words word) refl

cond-keeps : (b : Bool) (s t : State) → kept_of (cond b s t) ≡ cond b (kept_of s) (kept_of t)
cond-keeps true s t = refl
cond-keeps false s t = refl

-- the essential part after a word of GP1
abbrev controlled : Kept → ℕ → Kept
controlled k word =
    let parts : Parts = record k.parts { regs = gp1_of k.parts.regs word } in
    cond (is_clearing word) (record { parts = cleared parts; pending = pending_behind [] })
    (record { parts = parts; pending = k.pending })

after_gp1-keeps : (s : State) (word : ℕ) → kept_of (after_gp1 s word) ≡ controlled (kept_of s) word
unfolding after_gp1
after_gp1-keeps s word = cond-keeps (is_clearing word) _ _

module _ (a b : State) (same : kept_of a ≡ kept_of b) where
  pub feed-alike : (word : ℕ) → kept_of (after_gp0 a word) ≡ kept_of (after_gp0 b word)
  feed-alike word =
      let f : Kept → Kept = λ k. record {
        parts = after_item k.parts (next_item k.pending word);
        pending = next_pending k.pending word;
      } in
      fed_kept a word ∙ ap f same ∙ sym (fed_kept b word)

  pub note-alike : (event word : ℕ) → gp0_note a event word ≡ gp0_note b event word
  unfolding gp0_note
  note-alike event word =
      rw (new_item-next a.words word, new_item-next b.words word)
      (ap (λ (k : Kept). noted k.parts.regs event (next_item k.pending word)) same)

  pub feed_cost-alike : (word : ℕ) → gp0_cost a word ≡ gp0_cost b word
  unfolding gp0_cost
  feed_cost-alike word =
      rw (new_item-next a.words word, new_item-next b.words word)
      (ap (λ (k : Kept). item_cost k.parts (next_item k.pending word)) same)

  pub feed_box_cost-alike : (word : ℕ) → gp0_box_cost a word ≡ gp0_box_cost b word
  unfolding gp0_box_cost
  feed_box_cost-alike word =
      rw (new_item-next a.words word, new_item-next b.words word)
      (ap (λ (k : Kept). item_box_cost k.parts (next_item k.pending word)) same)

  pub gp1-alike : (word : ℕ) → kept_of (after_gp1 a word) ≡ kept_of (after_gp1 b word)
  gp1-alike word = after_gp1-keeps a word ∙ ap (λ k. controlled k word) same ∙ sym (after_gp1-keeps b word)

  pub take-alike : kept_of (after_read a) ≡ kept_of (after_read b)
  unfolding after_read
  take-alike =
      let f : Kept → Kept = λ k. record { parts = (taken_from k.parts k.parts.store).parts; pending = k.pending } in
      ap f same

  pub taken-alike : read_word a ≡ read_word b
  unfolding read_word
  taken-alike = ap (λ (k : Kept). (taken_from k.parts k.parts.store).word) same

  pub take_cost-alike : read_cost a ≡ read_cost b
  unfolding read_cost
  take_cost-alike = ap (λ (k : Kept). pixels_of k.parts.store) same

  pub take_box_cost-alike : read_box_cost a ≡ read_box_cost b
  unfolding read_box_cost
  take_box_cost-alike = ap (λ (k : Kept). 4 * pixels_of k.parts.store) same

  pub status-alike : status_word a ≡ status_word b
  unfolding status_word is_idle_state
  status-alike = ap (λ (k : Kept). status_of k.parts.regs (is_idle k.pending) (is_some k.parts.store)) same

  pub go_on-alike : GoOnAlike a b
  go_on-alike = record {
    feed = feed-alike;
    note = note-alike;
    feed_cost = feed_cost-alike;
    feed_box_cost = feed_box_cost-alike;
    gp1 = gp1-alike;
    take = take-alike;
    taken = taken-alike;
    take_cost = take_cost-alike;
    take_box_cost = take_box_cost-alike;
    status = status-alike;
  }
