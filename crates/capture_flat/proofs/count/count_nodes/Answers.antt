use Rattle.std.proofs.Common.{◌≡◌, ◌-◌, ◌+◌, ◌∙◌, ap, sym, refl, arith, flat_map, length, length-append}
use Rattle.list_dma.specs.Node.{next_of, node_words}
use Rattle.list_dma.specs.Walk.{chain}
use Rattle.event_play.proofs.Nodes.{nodes_end, nodes_go, nodes_none}
use Rattle.capture_flat.proofs.count.count_nodes.Goals as goal

pub nodes-init : goal.nodes-init
nodes-init c =
    let all : c.args.limit - 0 ≡ c.args.limit = omega arith in
    record {
      address = c.args.start;
      at = c.node_at-next.ensures.value;
      count = rw all (omega arith);
      few = omega arith;
    }

pub returns-in-None-clause-value : goal.returns-in-None-clause-value
returns-in-None-clause-value c =
    let at = c.nodes.invariant in
    let end = ap length (nodes_end c.args.ram.now at.address (c.args.limit - c.nodes.k) (sym c.in-None.is ∙ at.at)) in
    omega (arith, at.count, end)

pub nodes-preserved : goal.nodes-preserved
nodes-preserved c =
    let at = c.nodes.invariant in
    let ram = c.args.ram.now in
    let node = c.in-Some.node in
    let left = c.args.limit - (c.nodes.k + 1) in
    let next = next_of ram node in
    let go = ap length (nodes_go ram at.address node (c.args.limit - c.nodes.k) left next (omega arith)
    (sym c.in-Some.is ∙ at.at) refl) in
    let more = length-append (node_words ram node) (flat_map (node_words ram) (chain ram next left)) in
    record {
      address = next;
      at = c.next_node-next.ensures.value;
      count = omega (arith, at.count, go, more, c.count_node-n.ensures.value);
      few = omega (arith, at.few, c.count_node-n.ensures.few);
    }

pub returns-clause-value : goal.returns-clause-value
returns-clause-value c =
    let at = c.nodes.invariant in
    let end = ap length (nodes_none c.args.ram.now at.address (c.args.limit - c.nodes.k) (omega arith)) in
    omega (arith, at.count, end)
