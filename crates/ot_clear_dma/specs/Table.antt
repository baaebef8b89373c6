-- An ordering table that channel 6 clears (psx-spx, "DMA Channels", on OTC).
use Rattle.std.specs.Prelude.{◌≡◌, ◌≢◌, ◌<◌, ℕ, List, ◌+◌, ◌-◌, ◌*◌, ◌^◌}
use Rattle.px_num.specs.Fold.{each_below}
use Rattle.ot_clear_dma.specs.Ram.{cut, word_at, set}

-- the address k words below, which wraps at the start of memory
unfoldable pub below : (address k : ℕ) → ℕ
below address k = cut (address + 2 ^ 21 - 4 * k)

-- the address that ends a list
abbrev pub end_mark : ℕ
end_mark = 2 ^ 24 - 1

-- the word k words below the first is set to the address 4 bytes below its own
abbrev pub linked : (first k : ℕ) → List ℕ → List ℕ
linked first k ram = set ram (below first k) (below (below first k) 1)

-- memory after n words of a table are written, the first at an address and each later one 4 bytes below the one
-- before; the last word is the end mark
unfoldable pub cleared_table : List ℕ → (first n : ℕ) → List ℕ
cleared_table ram first n = set (each_below (linked first) (n - 1) ram) (below first (n - 1)) end_mark

-- a table of n words in which each word is the address of the next, from the highest down, and the last ends the
-- list; words outside the table are unchanged
pub record IsOrderingTable (old new : List ℕ) (first n : ℕ) : Type 0 where
  pub links : (k : ℕ) → k + 1 < n → word_at new (below first k) ≡ below first (k + 1)
  pub last : word_at new (below first (n - 1)) ≡ end_mark
  pub others : (address : ℕ) → ((k : ℕ) → k < n → cut address ≢ below first k)
      → word_at new address ≡ word_at old address
