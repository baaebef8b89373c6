use Rattle.std.proofs.Common.{◌≡◌, ◌+◌, ◌&&◌, not, ℕ, ◌<◌, ◌∙◌, refl, arith}
use Rattle.span_lanes.proofs.ColorLemmas.{no_shift}
use Rattle.span_lanes.proofs.ModulatedClutLemmas.{clut_missed, swatches256_kept}
use Rattle.span_lanes.proofs.PlanLemmas.{apart_cost}
use Rattle.span_lanes.proofs.ChunkDrawLemmas.{sample_stays}
use Rattle.span_lanes.proofs.clut.clut256.CachedClut256ChunkDrawer.draw_chunk.Goals as goal

pub draw_texels-requires-clause-free : goal.draw_texels-requires-clause-free
draw_texels-requires-clause-free g c =
    let is = c.requires.chunk in
    c.requires.serves.0.can.suits.hazard_free.free c.args.chunk.now.first c.args.chunk.now.k is.cut is.few is.within

pub draw_texels-requires-clause-drawn : goal.draw_texels-requires-clause-drawn
draw_texels-requires-clause-drawn g c =
    let chunk = c.args.chunk.now in
    let span = chunk.span.now in
    let indexes = c.read_octets-index.ensures.indexes in
    let drawn = c.texels_by_octet-drawn.ensures in
    record {
      texels = record {
        long = drawn.long.0;
        value = λ j lt.
            let lane : j < 16 = omega arith in
            drawn.texels j lane
            ∙ c.requires.serves.0.entries.entry _ (indexes.low j lane)
            ∙ indexes.entry j lt;
      };
      long = drawn.long.1;
      front = λ j lt.
          let x : ℕ = span.x + chunk.first + j in
          let lane : j < 16 = omega arith in
          let same_x : span.x + (chunk.first + j) ≡ x = omega arith in
          let one = rw same_x at (c.requires.serves.0.can.one_color chunk.first j lane (omega arith)) in
          let even = c.requires.serves.0.can.suits.even in
          rw (← one, no_shift (span.brush.dither && not c.args.self.now.texture.raw) x span.y even, drawn.texels j lane)
          (drawn.modulated j lane ∙ c.requires.serves.0.entries.front _ (indexes.low j lane));
    }

pub returns-clause-drawn : goal.returns-clause-drawn
returns-clause-drawn g c =
    let chunk = c.args.chunk.now in
    let suits = c.requires.serves.0.can.suits in
    let cost = (rw suits.depth at
    (apart_cost chunk c.args.self.now.texture c.requires.chunk suits.hazard_free
    c.requires.serves.0.can.sample.texture)) in
    record {
      cells = c.draw_texels.ensures.cells;
      long = c.draw_texels.ensures.others.count;
      cost = omega
          (arith, cost, c.read_octets-index.ensures.cost, c.draw_texels.ensures.cost, c.requires.chunk.some);
    }

pub returns-clause-serves : goal.returns-clause-serves
returns-clause-serves g c =
    let is = c.requires.serves.0 in
    let part = c.requires.chunk in
    let chunk = c.args.chunk.now in
    let none = clut_missed chunk.span.now c.args.self.now.texture chunk.first chunk.k 256 is.can.sample.texture
    (rw is.can.suits.depth refl)
    (is.can.suits.hazard_free.free chunk.first chunk.k part.cut part.few part.within) in (
      record {
        can = record {
          sample = sample_stays is.can.sample c.draw_texels.ensures.others.count;
          suits = is.can.suits;
          one_color = is.can.one_color;
        };
        entries = swatches256_kept c.args.self.now.texture (chunk.span.now.x + chunk.first) chunk.span.now.y chunk.k _ _
            _
            _ c.draw_texels.ensures.others (omega arith) none is.entries;
      },
      c.requires.serves.1,
    )
