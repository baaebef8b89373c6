-- The remaining words of those that an operation feeds.
use Rattle.std.specs.Prelude.{◌≡◌, ◌<◌, ◌+◌, ◌-◌, ◌++◌, ℕ, zero, suc, List, [], ◌∷◌, flat_map}
use Rattle.ot_clear_dma.specs.Ram.{word_at}
use Rattle.list_dma.specs.Node.{node_words}
use Rattle.list_dma.specs.Walk.{chain}
use Rattle.event_play.specs.Block.{address_in, block_words, IsBlock}
use Rattle.event_play.specs.declared.block.Block.{Block}
use Rattle.event_play.specs.declared.words.Following.{Following}
use Rattle.event_play.specs.declared.words.Following.TheVariants.{Nothing, Word, Nodes}
use Rattle.event_play.specs.declared.words.Node.{Node}
use Rattle.event_play.specs.declared.words.NodeList.{NodeList}

-- `count` words of a block, from index `at` on
abbrev pub words_from : List ℕ → Block → (at count : ℕ) → List ℕ
words_from ram block at zero = []
words_from ram block at (suc count) = word_at ram (address_in block at) ∷ words_from ram block (at + 1) count

-- the words of the first nodes of a list
abbrev pub nodes_words : List ℕ → NodeList → List ℕ
nodes_words ram list = flat_map (node_words ram) (chain ram list.start list.limit)

-- the words that follow a block
abbrev pub following_words : List ℕ → Following → List ℕ
following_words ram Nothing = []
following_words ram (Word word) = word ∷ []
following_words ram (Nodes list) = nodes_words ram list

-- the words of a block from index `at` on, and those that follow the block
abbrev pub words_left : List ℕ → Block → (at : ℕ) → Following → List ℕ
words_left ram block at following = words_from ram block at (block.n - at) ++ following_words ram following

-- the first node of a list that has words
pub record IsNextNode (ram : List ℕ) (list : NodeList) (node : Node) : Type 0 where
  pub some : 0 < node.words.n
  pub bounds : IsBlock node.words
  pub words : nodes_words ram list ≡ block_words ram node.words ++ following_words ram node.following
