-- The chunks in which a span is drawn.
use Rattle.std.specs.Prelude.{ℕ, ◌+◌, ◌*◌, List}
use Rattle.vram_store.specs.Plot.{drawn_lanes, later}
use Rattle.vram_store.specs.Chunk.{HasLanes}
use Rattle.span_lanes.specs.declared.span.Chunk.{Chunk}
use Rattle.span_lanes.specs.declared.span.Span.{Span}
use Rattle.span_lanes.specs.Shade.{shade}

-- the index in video memory of cell `first` of a span
abbrev pub chunk_place : Span → ℕ → ℕ
chunk_place span first = 1024 * span.y + (span.x + first)

-- the cells of a chunk, drawn one after another
abbrev pub drawn_chunk : Chunk → List ℕ → List ℕ
drawn_chunk p m =
    drawn_lanes (later (shade p.span.now) p.first) p.span.now.brush.mask (chunk_place p.span.now p.first) p.k m

-- lanes with the values that the cells of a chunk become, if all are computed in the state m
abbrev pub HasChunk : Chunk → (m lanes : List ℕ) → Type 0
HasChunk p m lanes =
    HasLanes (later (shade p.span.now) p.first) p.span.now.brush.mask (chunk_place p.span.now p.first) m
    (record { n = p.k; lanes = lanes; bits = 65535 })
