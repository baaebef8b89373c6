use Rattle.std.proofs.Common.{◌≡◌, ◌++◌, take}
use Rattle.capture_slim.specs.Window.{packet_slots}
use Rattle.capture_slim.proofs.slots.Slots.put_packet.Given as goal

abbrev pub invariant-loop-word : goal.invariant-loop-word
invariant-loop-word l = record {
  slots : l.self ≡ l.initial.self ++ packet_slots (take l.word-index l.words) l.area;
  offset : l.offset ≡ l.word-index;
}
