-- Flat events are valid in version 2.
use Rattle.std.proofs.Common.{◌<◌, ◌≤◌, ◌+◌, ◌++◌, ◌^◌, ℕ, zero, suc, List, [], ◌∷◌, map, replicate, flat_map, arith}
use Rattle.std.proofs.Common.{slice_index}
use Rattle.gpu_capture.specs.Written.{Allows, AllowsAll}
use Rattle.gpu_capture.specs.declared.event.Event.{Event}
use Rattle.gpu_capture.specs.declared.event.Event.TheVariants as event
use Rattle.ot_clear_dma.specs.Ram.{word_at}
use Rattle.list_dma.specs.Node.{words_behind, node_words, word_count}
use Rattle.list_dma.specs.Walk.{list_words, walk_of}
use Rattle.event_play.specs.Block.{first_words, block_words, address_in}
use Rattle.event_play.specs.declared.block.Block.{Block}

-- each has 32 bits
abbrev AreWords : List ℕ → Type 0
AreWords [] = Unit {0}
AreWords (word ∷ words) = (word < 2 ^ 32) × AreWords words

words_append : (xs ys : List ℕ) → AreWords xs → AreWords ys → AreWords (xs ++ ys)
words_append [] ys first next = next
words_append (x ∷ xs) ys first next = (first.0, words_append xs ys first.1 next)

module _ (ram : List ℕ) (fits : (address : ℕ) → word_at ram address < 2 ^ 32) where
  after_fit : (address n : ℕ) → AreWords (words_behind ram address n)
  after_fit address zero = tt
  after_fit address (suc n) = (fits (address + 4), after_fit (address + 4) n)

  first_fit : (block : Block) (i : ℕ) → AreWords (first_words ram block i)
  first_fit block zero = tt
  first_fit block (suc i) = words_append (first_words ram block i) (word_at ram (address_in block i) ∷ [])
      (first_fit block i) (fits (address_in block i), tt)

  nodes_fit : (nodes : List ℕ) → AreWords (flat_map (node_words ram) nodes)
  nodes_fit [] = tt
  nodes_fit (node ∷ nodes) =
      words_append (node_words ram node) (flat_map (node_words ram) nodes) (after_fit node (word_count ram node))
      (nodes_fit nodes)

  list_fit : (start : ℕ) → AreWords (list_words ram start)
  unfolding list_words
  list_fit start = nodes_fit (walk_of ram start)

words_allowed : (words : List ℕ) → AreWords words → AllowsAll 2 (map event.Gp0 words)
words_allowed [] fit = tt
words_allowed (word ∷ words) fit =
    (record { known = omega arith; event = tt; words = fit.0 }, words_allowed words fit.1)

-- words of 32 bits
pub words_fit : (words : List ℕ) → ((k : ℕ) → slice_index words k < 2 ^ 32) → AllowsAll 2 (map event.Gp0 words)
words_fit words fit = words_allowed words (all_fit words fit)
  where
    all_fit : (words : List ℕ) → ((k : ℕ) → slice_index words k < 2 ^ 32) → AreWords words
    all_fit [] fit = tt
    all_fit (word ∷ words) fit = (fit 0, all_fit words (λ k. fit (suc k)))

pub block_allowed : (ram : List ℕ) (block : Block) → ((address : ℕ) → word_at ram address < 2 ^ 32)
    → AllowsAll 2 (map event.Gp0 (block_words ram block))
block_allowed ram block fits = words_allowed (block_words ram block) (first_fit ram fits block block.n)

pub node_allowed : (ram : List ℕ) (node : ℕ) → ((address : ℕ) → word_at ram address < 2 ^ 32)
    → AllowsAll 2 (map event.Gp0 (node_words ram node))
node_allowed ram node fits = words_allowed (node_words ram node) (after_fit ram fits node (word_count ram node))

pub list_allowed : (ram : List ℕ) (start : ℕ) → ((address : ℕ) → word_at ram address < 2 ^ 32)
    → AllowsAll 2 (map event.Gp0 (list_words ram start))
list_allowed ram start fits = words_allowed (list_words ram start) (list_fit ram fits start)

pub skips_allowed : (n : ℕ) → AllowsAll 2 (replicate n event.Skip)
skips_allowed zero = tt
skips_allowed (suc n) = (record { known = omega arith; event = tt; words = tt }, skips_allowed n)

-- what a version allows, later versions allow
pub later_allows : (low high : ℕ) (events : List Event) → low ≤ high → AllowsAll low events → AllowsAll high events
later_allows low high [] le allows = tt
later_allows low high (given ∷ events) le allows =
    let here : Allows high given =
    record { known = omega (arith, le, allows.0.known); event = allows.0.event; words = allows.0.words } in
    (here, later_allows low high events le allows.1)
