use Rattle.vram_store.proofs.ChunkLaw.{chunk_law}
use Rattle.span_lanes.proofs.BlindLemmas.{span_blind}
use Rattle.span_lanes.proofs.chunks.loops.store_chunk.Goals as goal

pub returns-clause-cells : goal.returns-clause-cells
returns-clause-cells g c =
    let chunk = c.args.chunk.now in
    chunk_law _ _ _ _ _ _
    (span_blind c.args.chunk.now.span.now chunk.first chunk.k c.args.vram.now c.requires.can.span
    c.requires.chunk.within
    c.requires.free)
    c.requires.lanes c.store16.ensures.cells

pub returns-clause-others : goal.returns-clause-others
returns-clause-others g c = record { count = c.store16.ensures.cells.count; others = c.store16.ensures.cells.others }
