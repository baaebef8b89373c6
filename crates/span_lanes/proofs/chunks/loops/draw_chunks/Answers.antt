use Rattle.std.proofs.Common.{ap, min, arith, ◌+◌}
use Rattle.span_lanes.proofs.ChunkDrawLemmas.{parts_begun, parts_next, parts_all}
use Rattle.span_lanes.proofs.chunks.loops.draw_chunks.Goals as goal

pub loop-c-init : goal.loop-c-init
loop-c-init g c = record {
  drawn = parts_begun c.args.span.now (g.C.ChunkDrawer.spared c.args.chunks.now (min c.args.span.now.n 16))
      c.args.steps.now c.args.vram.now;
  serves = c.requires;
}

pub loop-c-preserved : goal.loop-c-preserved
loop-c-preserved g c = record {
  drawn = parts_next c.loop-c.c _ _ _ _ _ _ _ _ _ c.loop-c.invariant.drawn (omega arith) (omega arith)
      (omega arith) (λ first. ap (g.C.ChunkDrawer.spared c.args.chunks.now) (omega arith))
      c.draw_chunk.ensures.drawn;
  serves = c.draw_chunk.ensures.serves;
}

pub returns-then-rest-clause-drawn : goal.returns-then-rest-clause-drawn
returns-then-rest-clause-drawn g c =
    let can = g.met.C.ChunkDrawer.can _ _ _ c.requires in
    parts_all c.args.span.now (c.loop-c.c + 1) _ _ _ _ _
    (parts_next c.loop-c.c _ _ _ _ _ _ _ _ _ c.loop-c.invariant.drawn (omega arith) (omega arith)
    (omega arith) (λ first. ap (g.C.ChunkDrawer.spared c.args.chunks.now) (omega arith))
    c.draw_chunk-then-rest.ensures.drawn)
    (omega arith) can.span.some

pub returns-then-rest-gt0-clause-drawn : goal.returns-then-rest-gt0-clause-drawn
returns-then-rest-gt0-clause-drawn g c =
    let can = g.met.C.ChunkDrawer.can _ _ _ c.requires in
    parts_all c.args.span.now (c.loop-c.c + 1) _ _ _ _ _
    (parts_next c.loop-c.c _ _ _ _ _ _ _ _ _ c.loop-c.invariant.drawn (omega arith) (omega arith)
    (omega arith) (λ first. ap (g.C.ChunkDrawer.spared c.args.chunks.now) (omega arith))
    c.draw_chunk-then-rest-gt0.ensures.drawn)
    (omega arith) can.span.some

pub returns-else-rest-gt0-clause-drawn : goal.returns-else-rest-gt0-clause-drawn
returns-else-rest-gt0-clause-drawn g c =
    let can = g.met.C.ChunkDrawer.can _ _ _ c.requires in
    parts_all c.args.span.now c.loop-c.c _ _ _ _ _ c.loop-c.invariant.drawn (omega arith) can.span.some
