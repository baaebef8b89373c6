use Rattle.std.proofs.Common.{◌+◌, min}
use Rattle.span_lanes.proofs.ChunkDrawLemmas.{saved}
use Rattle.span_lanes.proofs.ChunkLemmas.{AreDrawn}
use Rattle.span_lanes.proofs.chunks.loops.draw_chunks.Given as goal

abbrev pub invariant-loop-c : goal.invariant-loop-c
invariant-loop-c g l = record {
  drawn : AreDrawn l.span l.c l.initial.steps
      (l.steps + saved (g.C.ChunkDrawer.spared l.chunks (min l.span.n 16)) l.c) l.initial.vram l.vram;
  serves : g.C.ChunkDrawer.serves l.chunks l.span l.vram;
}
