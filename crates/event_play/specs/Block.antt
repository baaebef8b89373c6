-- Blocks of words in main memory, and the words of one.
use Rattle.std.specs.Prelude.{ℕ, zero, suc, List, [], ◌∷◌, ◌++◌, ◌+◌, ◌-◌, ◌*◌, ◌^◌, ◌≤◌, if◌then◌else◌}
use Rattle.ot_clear_dma.specs.Ram.{cut, memory_words, word_at}
use Rattle.event_play.specs.declared.block.Block.{Block}

-- the address of word `i` of a block: each is 4 after the one before it, or 4 before it if `back`
unfoldable pub address_in : Block → ℕ → ℕ
address_in block i = if block.back then cut (block.at + 2 ^ 21 - 4 * i) else cut (block.at + 4 * i)

-- the first words of a block
abbrev pub first_words : List ℕ → Block → ℕ → List ℕ
first_words ram block zero = []
first_words ram block (suc i) = first_words ram block i ++ word_at ram (address_in block i) ∷ []

abbrev pub block_words : List ℕ → Block → List ℕ
block_words ram block = first_words ram block block.n

-- a block has no more words than memory
abbrev pub IsBlock : Block → Type 0
IsBlock block = block.n ≤ memory_words
