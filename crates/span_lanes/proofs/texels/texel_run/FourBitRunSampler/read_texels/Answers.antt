use Rattle.std.proofs.Common.{◌≡◌, ◌<◌, ◌+◌, ◌∙◌, arith}
use Rattle.span_lanes.proofs.TexelRunLemmas.{four_texel}
use Rattle.span_lanes.proofs.texels.texel_run.FourBitRunSampler.read_texels.Goals as goal

pub sixteen_indexes-index-requires-clause-in_row : goal.sixteen_indexes-index-requires-clause-in_row
sixteen_indexes-index-requires-clause-in_row g c =
    let room = c.requires.finds.0.fours c.requires.finds.1 in
    omega (arith, room)

pub returns-clause-texels : goal.returns-clause-texels
returns-clause-texels g c = record {
  long = c.entries_at.ensures.long;
  value = λ j lt.
      let lane : j < 16 = omega arith in
      let few = c.sixteen_indexes-index.ensures.low j lane in
      let s = c.args.self.now.texel_run in
      let column : s.u + c.args.chunk.now.first + j ≡ s.u + (c.args.chunk.now.first + j) = omega arith in
      let position = rw column at (c.sixteen_indexes-index.ensures.value j lane) in
      four_texel c.args.chunk.now.span.now c.args.texture.now s _ (c.args.chunk.now.first + j) _ c.args.vram.now
      c.requires.finds.0 c.requires.finds.1 (omega arith) (omega arith)
      (rw position at
      (c.entries_at.ensures.value j lane ∙ c.table_of.ensures.value _ few
      ∙ c.sixteen_entries-entries.ensures.value _ few));
}

pub sixteen_indexes-index-requires-clause-in_height : goal.sixteen_indexes-index-requires-clause-in_height
sixteen_indexes-index-requires-clause-in_height g c =
    let page = rw c.requires.sample.texture at c.requires.sample.can.lies.page in
    omega (arith, page, c.requires.finds.0.low)
