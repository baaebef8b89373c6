use Rattle.std.proofs.Common.{◌≡◌, ◌≤◌, ◌+◌, ◌-◌, ◌*◌, ℕ, flat_map, length}
use Rattle.list_dma.specs.Node.{node_of, node_words}
use Rattle.list_dma.specs.Walk.{chain}
use Rattle.capture_flat.proofs.count.count_nodes.Given as goal

abbrev pub invariant-nodes : goal.invariant-nodes
invariant-nodes l = record {
  address : ℕ;
  at : l.next ≡ node_of address;
  count : length (flat_map (node_words l.ram) (chain l.ram l.start l.limit))
      ≡ l.n + length (flat_map (node_words l.ram) (chain l.ram address (l.limit - l.k)));
  few : l.n ≤ 255 * l.k;
}
