-- A node of a linked list in main memory: a header and the words that follow it (psx-spx, "DMA Channels", on SyncMode
-- 2 and its linked lists).
use Rattle.std.specs.Prelude.{ℕ, zero, suc, ◌+◌, ◌/◌, ◌%◌, ◌^◌, ◌==◌}
use Rattle.std.specs.Prelude.{List, [], ◌∷◌, Bool, Option, Some, None, if◌then◌else◌}
use Rattle.std.specs.Int.{bit_at}
use Rattle.ot_clear_dma.specs.Ram.{word_at, cut}

-- an address with bit 23 ends a list
abbrev pub is_end : ℕ → Bool
is_end address = bit_at address 23 == 1

-- bits 0 to 23 of a node's header: the next address
abbrev pub next_of : List ℕ → (node : ℕ) → ℕ
next_of ram node = word_at ram node % 2 ^ 24

-- bits 24 to 31 of a node's header: the number of words that follow it
abbrev pub word_count : List ℕ → (node : ℕ) → ℕ
word_count ram node = word_at ram node / 2 ^ 24

-- the node at an address, unless the address ends a list
abbrev pub node_of : ℕ → Option ℕ
node_of address = if is_end address then None else Some (cut address)

-- the n words that follow an address, at increasing addresses
abbrev pub words_behind : List ℕ → (address n : ℕ) → List ℕ
words_behind ram address zero = []
words_behind ram address (suc n) = word_at ram (address + 4) ∷ words_behind ram (address + 4) n

-- the words of a node
abbrev pub node_words : List ℕ → (node : ℕ) → List ℕ
node_words ram node = words_behind ram node (word_count ram node)
