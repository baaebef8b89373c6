use Rattle.packet_text.specs.Tap.{item_line}
use Rattle.packet_text.proofs.tap.write_item.Goals as goal

pub returns : goal.returns
unfolding item_line
returns g c =
    rw (← c.decimal_text-event.ensures.text, ← c.decimal_text-class.ensures.text, ← c.decimal_text-head.ensures.text)
    c.write_pieces.ensures
