use Rattle.std.proofs.Common.{◌≡◌, ◌+◌, ◌&&◌, not, ℕ, List, length, slice_index, ◌<◌, ◌≤◌, ◌∙◌, refl, arith}
use Rattle.px_num.specs.Lanes.{EachLane}
use Rattle.texel_lanes.specs.declared.texture.Texture.{Texture}
use Rattle.texel_lanes.specs.Table.{entry_at}
use Rattle.span_lanes.specs.declared.clut.modulated.ModulatedClut.{ModulatedClut}
use Rattle.span_lanes.specs.declared.span.Chunk.{Chunk}
use Rattle.span_lanes.specs.Clut.CachedClut.{HasIndexes}
use Rattle.span_lanes.specs.Clut.ModulatedClut.{IsModulatedClutOf}
use Rattle.span_lanes.specs.RowSetup.{HasTexels}
use Rattle.span_lanes.proofs.TexelLemmas.{empty_chunk}
use Rattle.span_lanes.proofs.ColorLemmas.{no_shift}
use Rattle.span_lanes.proofs.ModulatedClutLemmas.{clut_missed, swatches_kept}
use Rattle.span_lanes.proofs.PlanLemmas.{apart_cost}
use Rattle.span_lanes.proofs.ChunkDrawLemmas.{sample_stays}
use Rattle.span_lanes.proofs.chunks.textured.CachedClutChunkDrawer.draw_chunk.Goals as goal

-- the entries at the indexes of a chunk's texels are its texels
cached_texels : (t : Texture) (p : Chunk) (m index texels : List ℕ) (cached : ModulatedClut)
    → IsModulatedClutOf t m cached → HasIndexes t 16 p m index → p.k ≤ 16 → length texels ≡ 16
    → EachLane (λ i. slice_index texels i ≡ entry_at cached.entries (slice_index index i)) → HasTexels t p m texels
cached_texels t p m index texels cached clut has few long entry = record {
  long = long;
  value = λ j lt.
      let lane : j < 16 = omega arith in
      entry j lane ∙ clut.entry _ (has.low j lane) ∙ has.entry j lt;
}

pub draw_texels-requires-clause-free : goal.draw_texels-requires-clause-free
draw_texels-requires-clause-free g c =
    let is = c.requires.chunk in
    c.requires.serves.can.suits.hazard_free.free c.args.chunk.now.first c.args.chunk.now.k is.cut is.few is.within

pub draw_texels-requires-clause-drawn : goal.draw_texels-requires-clause-drawn
draw_texels-requires-clause-drawn g c =
    let chunk = c.args.chunk.now in
    let span = chunk.span.now in
    record {
      texels = cached_texels c.args.self.now.texture chunk c.args.vram.now _ c.texels_by_index-drawn.result.texels
          c.args.self.now.modulated_clut.now c.requires.serves.entries c.read_indexes-index.ensures.indexes
          c.requires.chunk.few c.texels_by_index-drawn.ensures.long.0 c.texels_by_index-drawn.ensures.texels;
      long = c.texels_by_index-drawn.ensures.long.1;
      front = λ j lt.
          let x : ℕ = span.x + chunk.first + j in
          let lane : j < 16 = omega arith in
          let same_x : span.x + (chunk.first + j) ≡ x = omega arith in
          let one = rw same_x at (c.requires.serves.can.one_color chunk.first j lane (omega arith)) in
          let even = c.requires.serves.can.suits.even in
          rw (← one, no_shift (span.brush.dither && not c.args.self.now.texture.raw) x span.y even)
          (c.texels_by_index-drawn.ensures.modulated j lane);
    }

pub returns-then-not-SKIPS_EMPTY_CHUNKS-clause-drawn : goal.returns-then-not-SKIPS_EMPTY_CHUNKS-clause-drawn
returns-then-not-SKIPS_EMPTY_CHUNKS-clause-drawn g c =
    let chunk = c.args.chunk.now in
    let suits = c.requires.serves.can.suits in
    let cost = (rw suits.depth at
    (apart_cost chunk c.args.self.now.texture c.requires.chunk suits.hazard_free
    c.requires.serves.can.sample.texture)) in
    record {
      cells = c.draw_texels.ensures.cells;
      long = c.draw_texels.ensures.others.count;
      cost = omega (arith, cost, c.read_indexes-index.ensures.cost, c.draw_texels.ensures.cost);
    }

pub returns-then-not-SKIPS_EMPTY_CHUNKS-clause-serves : goal.returns-then-not-SKIPS_EMPTY_CHUNKS-clause-serves
returns-then-not-SKIPS_EMPTY_CHUNKS-clause-serves g c =
    let is = c.requires.serves in
    let part = c.requires.chunk in
    let chunk = c.args.chunk.now in
    let none = clut_missed chunk.span.now c.args.self.now.texture chunk.first chunk.k 16 is.can.sample.texture
    (rw is.can.suits.depth refl) (is.can.suits.hazard_free.free chunk.first chunk.k part.cut part.few part.within) in
    record {
      can = record {
        sample = sample_stays is.can.sample c.draw_texels.ensures.others.count;
        suits = is.can.suits;
        one_color = is.can.one_color;
      };
      finds = is.finds;
      raw = is.raw;
      modulated = is.modulated;
      entries = swatches_kept c.args.self.now.texture (chunk.span.now.x + chunk.first) chunk.span.now.y chunk.k _ _ _
          c.draw_texels.ensures.others (omega arith) none is.entries;
    }

pub returns-else-not-are_zero-clause-drawn : goal.returns-else-not-are_zero-clause-drawn
returns-else-not-are_zero-clause-drawn g c =
    let chunk = c.args.chunk.now in
    let texture = c.args.self.now.texture in
    let sample = c.requires.serves.can.sample in
    let suits = c.requires.serves.can.suits in
    let cost = (rw suits.depth at (apart_cost chunk texture c.requires.chunk suits.hazard_free sample.texture)) in
    let texels = cached_texels texture chunk c.args.vram.now _ c.texels_by_index-drawn.result.texels
    c.args.self.now.modulated_clut.now c.requires.serves.entries c.read_indexes-index.ensures.indexes
    c.requires.chunk.few c.texels_by_index-drawn.ensures.long.0 c.texels_by_index-drawn.ensures.texels in
    record {
      cells = empty_chunk texture chunk c.args.vram.now _ sample.texture texels c.requires.chunk.few
          (c.are_zero.ensures.0 (rw c.if-not-are_zero.false refl));
      long = refl;
      cost = omega (arith, cost, c.read_indexes-index.ensures.cost);
    }

pub returns-else-not-are_zero-clause-serves : goal.returns-else-not-are_zero-clause-serves
returns-else-not-are_zero-clause-serves g c = c.requires.serves
