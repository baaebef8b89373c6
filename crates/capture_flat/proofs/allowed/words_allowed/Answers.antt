use Rattle.capture_flat.proofs.Allows.{block_allowed, node_allowed, list_allowed}
use Rattle.capture_flat.proofs.allowed.words_allowed.Goals as goal

pub returns-in-Block : goal.returns-in-Block
returns-in-Block c = rw c.in-Block.is (block_allowed c.args.ram.now c.in-Block.block c.words_fit.ensures)

pub returns-in-Node : goal.returns-in-Node
returns-in-Node c = rw c.in-Node.is (node_allowed c.args.ram.now c.in-Node.node c.words_fit.ensures)

pub returns-in-List : goal.returns-in-List
returns-in-List c = rw c.in-List.is (list_allowed c.args.ram.now c.in-List.start c.words_fit.ensures)
