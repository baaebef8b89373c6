-- Numbers of words and bytes.
use Rattle.std.proofs.Common.{◌≡◌, ◌+◌, ◌*◌, ℕ, zero, suc, List, [], ◌∷◌, length, replicate, refl, length-append, arith}
use Rattle.list_dma.specs.Node.{words_behind, node_words, word_count}
use Rattle.ot_clear_dma.specs.Ram.{word_at}
use Rattle.event_play.specs.Block.{first_words, block_words, address_in}
use Rattle.event_play.specs.declared.block.Block.{Block}
use Rattle.gpu_capture.specs.Written.{spell, spelled}
use Rattle.gpu_capture.proofs.Spelled.{record_length}
use Rattle.gpu_capture.specs.declared.event.Event.TheVariants.{Gp0, Skip}
use Rattle.capture_flat.specs.Out.{spell_words}

pub after_length : (ram : List ℕ) (address n : ℕ) → length (words_behind ram address n) ≡ n
after_length ram address zero = refl
after_length ram address (suc n) = let e = after_length ram (address + 4) n in omega arith

pub node_length : (ram : List ℕ) (node : ℕ) → length (node_words ram node) ≡ word_count ram node
node_length ram node = after_length ram node (word_count ram node)

first_length : (ram : List ℕ) (block : Block) (i : ℕ) → length (first_words ram block i) ≡ i
first_length ram block zero = refl
first_length ram block (suc i) =
    let e = length-append (first_words ram block i) (word_at ram (address_in block i) ∷ []) in
    omega (arith, e, first_length ram block i)

pub block_length : (ram : List ℕ) (block : Block) → length (block_words ram block) ≡ block.n
block_length ram block = first_length ram block block.n

pub words_bytes : (words : List ℕ) → length (spell_words words) ≡ 8 * length words
words_bytes [] = refl
words_bytes (word ∷ words) =
    let e = length-append (spelled (Gp0 word)) (spell_words words) in
    omega (arith, e, record_length (Gp0 word), words_bytes words)

pub skips_bytes : (n : ℕ) → length (spell (replicate n Skip)) ≡ 4 * n
skips_bytes zero = refl
skips_bytes (suc n) =
    let e = length-append (spelled Skip) (spell (replicate n Skip)) in
    omega (arith, e, record_length Skip, skips_bytes n)
