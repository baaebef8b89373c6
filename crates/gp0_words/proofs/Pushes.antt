-- A splitter is fed a word.
use Rattle.std.proofs.Common.{◌≡◌, ℕ, ◌<◌, ◌/◌, ◌^◌, ◌==◌, false, [], ◌∷◌, Some, Option, refl, arith}
use Rattle.std.proofs.lemmas.Bool.Decides.{nat_tests}
use Rattle.gp0_words.specs.Items.{IsIdle}
use Rattle.gp0_words.specs.Kinds.{kind_of}
use Rattle.gp0_words.specs.Next.{wanted, next_pending, next_item, IsPending}
use Rattle.gp0_words.specs.Pushed.{IsPushed}
use Rattle.gp0_words.specs.declared.item.Item.{Item}
use Rattle.gp0_words.specs.declared.item.Item.TheVariants.{Whole, Pixels}
use Rattle.gp0_words.specs.declared.kind.Kind.TheVariants.{Plain}
use Rattle.gp0_words.specs.declared.pending.Pending.{Pending}
use Rattle.gp0_words.specs.declared.pending.Pending.TheVariants as pending
use Rattle.gp0_words.proofs.Cut.{items_of-push, pending_behind-push, next_pending-kept}

pushed_next : (old : Pending) (word : ℕ) → IsPending old
    → IsPushed old (next_pending old word) word (next_item old word)
pushed_next old word kept = record {
  item = λ words e. rw (← e) (items_of-push words word);
  stands = λ words e. rw (← e) (pending_behind-push words word);
  pending = refl;
  decided = refl;
  bounds = (kept, next_pending-kept old word kept);
}

pub pushed : (old new : Pending) (word : ℕ) (answer : Option Item) → IsPending old → new ≡ next_pending old word
    → answer ≡ next_item old word
    → IsPushed old new word answer
pushed old new word answer kept p a = rw (p, a) (pushed_next old word kept)

-- ---- two cells of a load

pub wanted_is : (h : Pending) → 0 < wanted h → h ≡ pending.Pixels (wanted h)
wanted_is pending.Idle some = absurd (omega arith)
wanted_is (pending.Packet words) some = absurd (omega arith)
wanted_is (pending.Pixels left) some = refl
wanted_is (pending.Poly command color vertex half) some = absurd (omega arith)

pub pixels_pushed : (h new : Pending) (left word : ℕ) → IsPending h → left ≡ wanted h → (left ≡ 0 → ⊥)
    → ((w : ℕ) → new ≡ next_pending (pending.Pixels left) w) → IsPushed h new word (Some (Pixels word))
pixels_pushed h new left word kept is some after =
    let there : 0 < wanted h = rw (← is) (omega (arith, some)) in
    let is_open : h ≡ pending.Pixels left = rw is (wanted_is h there) in
    pushed h new word (Some (Pixels word)) kept (rw is_open (after word)) (rw is_open refl)

-- ---- a register's word

pub register_kind : (word : ℕ) → word / 2 ^ 29 ≡ 7 → kind_of word ≡ Plain 1
register_kind word class =
    let other : (word / 2 ^ 24 == 2) ≡ false = grind (arith, nat_tests) in
    rw (class, other) refl

idle_is : (h : Pending) → IsIdle h → h ≡ pending.Idle
idle_is pending.Idle idle = refl
idle_is (pending.Packet words) idle = absurd idle
idle_is (pending.Pixels left) idle = absurd idle
idle_is (pending.Poly command color vertex half) idle = absurd idle

pub register_pushed : (h : Pending) (word : ℕ) → IsIdle h → word / 2 ^ 29 ≡ 7
    → IsPushed h h word (Some (Whole (word ∷ [])))
register_pushed h word idle class =
    rw (idle_is h idle)
    (pushed pending.Idle pending.Idle word (Some (Whole (word ∷ []))) tt (rw (register_kind word class) refl)
    (rw (register_kind word class) refl))
