use Rattle.std.proofs.Common.{◌++◌, ◌+◌, ◌-◌, ◌∙◌, ap, sym, arith}
use Rattle.event_play.specs.Cursor.{nodes_words}
use Rattle.event_play.proofs.Nodes.{node_none, nodes_end, nodes_go, nodes_none}
use Rattle.event_play.proofs.words.next_node.Goals as goal

pub returns-in-None : goal.returns-in-None
returns-in-None c = c.nodes.invariant ∙ nodes_end _ _ _ (sym c.in-None.is ∙ c.node_at.ensures.value)

pub returns-then-words-gt0 : goal.returns-then-words-gt0
returns-then-words-gt0 c =
    let left = c.args.list.limit - (c.nodes.k + 1) in
    let following = nodes_words c.args.ram.now (record { start = c.next_address-start.result; limit = left }) in
    record {
      some = c.if-words-gt0.true;
      bounds = c.block_at-words.ensures.bounds;
      words = c.nodes.invariant
          ∙ nodes_go _ _ c.in-Some.node _ left _ (omega (arith, c.nodes-test.true))
          (sym c.in-Some.is ∙ c.node_at.ensures.value) c.next_address-start.ensures
          ∙ ap (λ words. words ++ following) (sym c.block_at-words.ensures.words);
    }

pub nodes-preserved : goal.nodes-preserved
nodes-preserved c =
    let left = c.args.list.limit - (c.nodes.k + 1) in
    let following = nodes_words c.args.ram.now (record { start = c.next_address-start.result; limit = left }) in
    c.nodes.invariant
    ∙ nodes_go _ _ c.in-Some.node _ left _ (omega (arith, c.nodes-test.true))
    (sym c.in-Some.is ∙ c.node_at.ensures.value) c.next_address-start.ensures
    ∙ ap (λ words. words ++ following) (node_none _ _ _ c.block_at-words.ensures.words c.if-words-gt0.false)

pub returns : goal.returns
returns c = c.nodes.invariant ∙ nodes_none _ _ _ (omega (arith, c.nodes-test.false))
