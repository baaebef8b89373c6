-- The note of an item (our own rule).
use Rattle.std.specs.Prelude.{ℕ}
use Rattle.gp0_packets.specs.declared.note.Note.{Note}
use Rattle.gp0_packets.specs.Notes.{class_of_item, head_of_item}
use Rattle.gp0_packets.specs.Packets.{packet_of}
use Rattle.gp0_words.specs.declared.item.Item.{Item}
use Rattle.gp1_status.specs.Registers.{Registers}
use Rattle.prim_draw.specs.Areas.{area_of}

-- the note of an item that event `event` completed, with the area computed from the registers before it
abbrev pub note_of : Registers → (event : ℕ) → Item → Note
note_of r event item = record {
  event = event;
  class = class_of_item item;
  head = head_of_item item;
  area = area_of r (packet_of r.height item);
}
