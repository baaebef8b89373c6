use Rattle.std.proofs.Common.{◌≡◌, ◌-◌}
use Rattle.event_play.specs.Cursor.{nodes_words}
use Rattle.event_play.proofs.words.next_node.Given as goal

abbrev pub invariant-nodes : goal.invariant-nodes
invariant-nodes l = nodes_words l.ram l.fn.list
    ≡ nodes_words l.ram (record { start = l.start; limit = l.fn.list.limit - l.k })
