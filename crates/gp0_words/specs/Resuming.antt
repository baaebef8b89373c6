-- Which values may be pending, and for each one list of words that leads to it (our own rule).
use Rattle.std.specs.Prelude.{◌≡◌, ◌↔◌, ℕ, ◌-◌, List, [], ◌∷◌, ◌++◌, if◌then◌else◌, option_to_list, replicate}
use Rattle.gp0_words.specs.Kinds.{is_set}
use Rattle.gp0_words.specs.Sizes.{most_data_words}
use Rattle.gp0_words.specs.Items.{items_of, pending_behind}
use Rattle.gp0_words.specs.Next.{next_item, next_pending, IsPending}
use Rattle.gp0_words.specs.declared.pending.Pending.{Pending}
use Rattle.gp0_words.specs.declared.pending.Pending.TheVariants as pending

-- A list of words that leads to this value. For a packet, its words so far. For a load, the largest load and as many
-- data words as it no longer needs. For a polyline, its command word, a vertex of 0 and its last vertex, then the
-- colour of a begun joint.
unfoldable pub list_of : Pending → List ℕ
list_of pending.Idle = []
list_of (pending.Packet words) = words
list_of (pending.Pixels left) = 0xa0000000 ∷ 0 ∷ 0 ∷ replicate (most_data_words - left) 0
list_of (pending.Poly command color vertex half) =
    command ∷ 0 ∷ ((if is_set command 28 then color ∷ vertex ∷ [] else vertex ∷ []) ++ option_to_list half)

-- the values within the bounds are exactly those that some list of words leads to
abbrev pub WhatMayBePending : Type 0
WhatMayBePending = (p : Pending) → IsPending p ↔ ((words : List ℕ) × (pending_behind words ≡ p))

-- one more word adds at most one item; what is pending and the word decide that item, and what is pending after it
abbrev pub RestDecides : Type 0
RestDecides = (words : List ℕ) (word : ℕ) →
    (items_of (words ++ word ∷ []) ≡ items_of words ++ option_to_list (next_item (pending_behind words) word))
    × (pending_behind (words ++ word ∷ []) ≡ next_pending (pending_behind words) word)
