-- The effect of feeding a word to a splitter.
use Rattle.std.specs.Prelude.{◌≡◌, ℕ, List, [], ◌∷◌, ◌++◌, Option, option_to_list}
use Rattle.gp0_words.specs.Items.{items_of, pending_behind}
use Rattle.gp0_words.specs.Next.{next_pending, next_item, IsPending}
use Rattle.gp0_words.specs.declared.item.Item.{Item}
use Rattle.gp0_words.specs.declared.pending.Pending.{Pending}

-- a splitter with `old` pending is fed a word, and returns the item that it completes
pub record IsPushed (old new : Pending) (word : ℕ) (answer : Option Item) : Type 0 where
  -- for every list of words that leads to it
  pub item : (words : List ℕ) → pending_behind words ≡ old
      → items_of (words ++ word ∷ []) ≡ items_of words ++ option_to_list answer
  pub stands : (words : List ℕ) → pending_behind words ≡ old → pending_behind (words ++ word ∷ []) ≡ new
  -- what is pending and the word decide both
  pub pending : new ≡ next_pending old word
  pub decided : answer ≡ next_item old word
  -- the bounds that every splitter keeps
  pub bounds : IsPending old × IsPending new
