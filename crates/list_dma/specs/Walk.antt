-- The walk along a linked list in main memory: the list of its node addresses (our own rule).
use Rattle.std.specs.Prelude.{ℕ, zero, suc, ◌+◌, List, [], ◌∷◌, Option, Some, None, ◌==◌, if◌then◌else◌}
use Rattle.std.specs.List.{list_any, flat_map}
use Rattle.ot_clear_dma.specs.Ram.{cut, memory_words}
use Rattle.list_dma.specs.Node.{is_end, next_of, node_words}

-- the first n nodes of the walk from an address, or all if there are fewer
unfoldable pub chain : List ℕ → (start n : ℕ) → List ℕ
chain ram start zero = []
chain ram start (suc n) = if is_end start then [] else cut start ∷ chain ram (next_of ram (cut start)) n

-- the first member of a list that is in `seen` or equals a member before it
abbrev pub repeat_after : (seen nodes : List ℕ) → Option ℕ
repeat_after seen [] = None
repeat_after seen (node ∷ nodes) = if list_any (◌==◌ node) seen then Some node else repeat_after (node ∷ seen) nodes

-- the walk from an address; a walk that never ends is cut after more nodes than memory has addresses
unfoldable pub walk_of : List ℕ → (start : ℕ) → List ℕ
walk_of ram start = chain ram start (memory_words + 1)

-- the first address that the walk visits a second time, if any
unfoldable pub loop_of : List ℕ → (start : ℕ) → Option ℕ
loop_of ram start = repeat_after [] (walk_of ram start)

-- the words of all nodes of a list in order
unfoldable pub list_words : List ℕ → (start : ℕ) → List ℕ
list_words ram start = flat_map (node_words ram) (walk_of ram start)
