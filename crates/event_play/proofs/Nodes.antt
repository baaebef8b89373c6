-- The words of blocks and of nodes, one after another.
use Rattle.std.proofs.Common.{◌≡◌, ◌≤◌, ◌<◌, ℕ, zero, suc, ◌+◌, ◌-◌, ◌*◌, ◌++◌, List, [], ◌∷◌, None, Some, true}
use Rattle.std.proofs.Common.{false, flat_map, refl, ap, sym, ◌∙◌, append_assoc, append-nil, arith, inl, inr}
use Rattle.std.proofs.lemmas.Bool.{cases_Bool}
use Rattle.ot_clear_dma.specs.Ram.{cut, word_at, place_of}
use Rattle.list_dma.specs.Node.{is_end, next_of, node_of, words_behind, node_words, word_count}
use Rattle.list_dma.specs.Walk.{chain}
use Rattle.event_play.specs.Block.{address_in, first_words, block_words}
use Rattle.event_play.specs.Cursor.{IsNextNode, following_words, nodes_words, words_from, words_left}
use Rattle.event_play.specs.declared.block.Block.{Block}
use Rattle.event_play.specs.declared.words.Following.{Following}
use Rattle.event_play.specs.declared.words.Following.TheVariants.{Nodes}
use Rattle.event_play.specs.declared.words.Node.{Node}
use Rattle.event_play.specs.declared.words.NodeList.{NodeList}

-- ---- blocks

-- one more word
words_next : (ram : List ℕ) (block : Block) (i word : ℕ) → word ≡ word_at ram (address_in block i)
    → first_words ram block (i + 1) ≡ first_words ram block i ++ word ∷ []
words_next ram block i word is = let e : i + 1 ≡ suc i = omega arith in rw (e, is) refl

-- the first i words of a block, and the `count` words after them
words_split : (ram : List ℕ) (block : Block) (i count : ℕ)
    → first_words ram block (i + count) ≡ first_words ram block i ++ words_from ram block i count
words_split ram block i zero = let e : i + 0 ≡ i = omega arith in rw (e, append-nil) refl
words_split ram block i (suc count) =
    let word = word_at ram (address_in block i) in
    let rest = words_from ram block (i + 1) count in
    let e : i + suc count ≡ i + 1 + count = omega arith in
    ap (first_words ram block) e ∙ words_split ram block (i + 1) count
    ∙ ap (λ words. words ++ rest) (words_next ram block i word refl)
    ∙ append_assoc (first_words ram block i) (word ∷ []) rest

-- all words of a block, and those that follow it
pub left_whole : (ram : List ℕ) (block : Block) (following : Following)
    → words_left ram block 0 following ≡ block_words ram block ++ following_words ram following
left_whole ram block following =
    let count : block.n - 0 ≡ block.n = omega arith in
    let end : 0 + block.n ≡ block.n = omega arith in
    ap (λ words. words ++ following_words ram following)
    (ap (words_from ram block 0) count ∙ sym (words_split ram block 0 block.n) ∙ ap (first_words ram block) end)

-- one word of the block, and those left after it
pub left_goes : (ram : List ℕ) (block : Block) (at : ℕ) (following : Following) (word : ℕ) → at < block.n
    → word ≡ word_at ram (address_in block at)
    → words_left ram block at following ≡ word ∷ words_left ram block (at + 1) following
left_goes ram block at following word below is =
    let more : block.n - at ≡ suc (block.n - (at + 1)) = omega (arith, below) in rw (more, is) refl

-- The block has no word left, and the next node with words follows.
pub left_enters : (ram : List ℕ) (block : Block) (at : ℕ) (list : NodeList) (node : Node) (word : ℕ) → block.n ≤ at
    → IsNextNode ram list node → word ≡ word_at ram (address_in node.words 0)
    → words_left ram block at (Nodes list) ≡ word ∷ words_left ram node.words 1 node.following
left_enters ram block at list node word none next is =
    let end : block.n - at ≡ 0 = omega (arith, none) in
    ap (λ count. words_from ram block at count ++ nodes_words ram list) end
    ∙ next.words ∙ sym (left_whole ram node.words node.following)
    ∙ left_goes ram node.words 0 node.following word next.some is

-- ---- nodes

after-next : (ram : List ℕ) (address n : ℕ) → words_behind ram address
    (suc n) ≡ words_behind ram address n ++ word_at ram (address + 4 * n + 4) ∷ []
after-next ram address zero = let e : address + 4 * 0 + 4 ≡ address + 4 = omega arith in rw e refl
after-next ram address (suc n) =
    let e : address + 4 * suc n + 4 ≡ address + 4 + 4 * n + 4 = omega arith in
    rw e (ap (λ words. word_at ram (address + 4) ∷ words) (after-next ram (address + 4) n))

-- `cut` does not change which word of memory an address names.
word_cut : (ram : List ℕ) (address : ℕ) → word_at ram (cut address) ≡ word_at ram address
word_cut ram address = let e : place_of (cut address) ≡ place_of address = omega arith in rw e refl

node_first : (ram : List ℕ) (node n i : ℕ) → first_words ram
    (record { at = node + 4; n = n; back = false }) i ≡ words_behind ram node i
unfolding address_in
node_first ram node n zero = refl
node_first ram node n (suc i) =
    let e : node + 4 + 4 * i ≡ node + 4 * i + 4 = omega arith in
    let here : word_at ram (cut (node + 4 + 4 * i)) ≡ word_at ram (node + 4 * i + 4) = word_cut ram (node + 4 + 4 * i)
    ∙ ap (word_at ram) e in
    ap (λ words. words ++ word_at ram (cut (node + 4 + 4 * i)) ∷ []) (node_first ram node n i)
    ∙ ap (λ word. words_behind ram node i ++ word ∷ []) here
    ∙ sym (after-next ram node i)

-- the words of a node are a block
pub node_block : (ram : List ℕ) (node n : ℕ) → n ≡ word_count ram node
    → block_words ram (record { at = node + 4; n = n; back = false }) ≡ node_words ram node
node_block ram node n is = node_first ram node n n ∙ ap (words_behind ram node) is

-- a node without words
pub node_none : (ram : List ℕ) (node : ℕ) (block : Block) → block_words ram block ≡ node_words ram node → block.n ≤ 0
    → node_words ram node ≡ []
node_none ram node block are none =
    let end : block.n ≡ 0 = omega (arith, none) in sym are ∙ ap (first_words ram block) end

-- ---- lists

ends_there : (address : ℕ) → None ≡ node_of address → is_end address ≡ true
ends_there address at = elim (cases_Bool (is_end address))
    [ inl end ↦ end | inr on ↦ absurd (let no = rw on at at in cc) ]

goes_there : (address node : ℕ) → Some node ≡ node_of address → (is_end address ≡ false) × (node ≡ cut address)
goes_there address node at = elim (cases_Bool (is_end address))
    [ inl end ↦ absurd (let no = rw end at at in cc) | inr on ↦ let is = rw on at at in (on, cc) ]

pub chain_ends : (ram : List ℕ) (address left : ℕ) → is_end address ≡ true → chain ram address left ≡ []
unfolding chain
chain_ends ram address zero end = refl
chain_ends ram address (suc n) end = rw end refl

pub chain_goes : (ram : List ℕ) (address left next : ℕ) → next + 1 ≡ left → is_end address ≡ false
    → chain ram address left ≡ cut address ∷ chain ram (next_of ram (cut address)) next
unfolding chain
chain_goes ram address zero next e on = absurd (omega (arith, e))
chain_goes ram address (suc n) next e on = let same : next ≡ n = omega (arith, e) in rw (on, same) refl

-- no more nodes are visited
pub nodes_none : (ram : List ℕ) (start limit : ℕ) → limit ≡ 0
    → nodes_words ram (record { start = start; limit = limit }) ≡ []
unfolding chain
nodes_none ram start limit none = rw none refl

-- the list ends
pub nodes_end : (ram : List ℕ) (start limit : ℕ) → None ≡ node_of start
    → nodes_words ram (record { start = start; limit = limit }) ≡ []
nodes_end ram start limit at = ap (flat_map (node_words ram)) (chain_ends ram start limit (ends_there start at))

-- a node, and those after it
pub nodes_go : (ram : List ℕ) (start node limit next then : ℕ) → next + 1 ≡ limit → Some node ≡ node_of start
    → then ≡ next_of ram node
    → nodes_words ram (record { start = start; limit = limit })
    ≡ node_words ram node ++ nodes_words ram (record { start = then; limit = next })
nodes_go ram start node limit next then e at is =
    let on = goes_there start node at in
    rw (is, on.1) (ap (flat_map (node_words ram)) (chain_goes ram start limit next e on.0))
