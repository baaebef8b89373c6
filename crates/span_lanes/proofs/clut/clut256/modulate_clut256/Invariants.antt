use Rattle.std.proofs.Common.{◌≡◌, ◌≤◌, ◌+◌, ◌*◌, length}
use Rattle.span_lanes.specs.Clut.ModulatedClut.{AreEntriesOf, AreModulatedBy}
use Rattle.span_lanes.specs.Clut.ModulatedClut256.{entry_in, modulated_in}
use Rattle.span_lanes.proofs.clut.clut256.modulate_clut256.Given as goal

abbrev pub invariant-loop-piece : goal.invariant-loop-piece
invariant-loop-piece g l = record {
  long : length l.words ≡ 256;
  entry : AreEntriesOf l.texture l.vram (16 * l.piece) (entry_in l.words);
  front : AreModulatedBy l.texture.raw l.color (16 * l.piece) (entry_in l.words) (modulated_in l.words);
  cost : l.steps ≤ l.initial.steps + l.piece;
}
