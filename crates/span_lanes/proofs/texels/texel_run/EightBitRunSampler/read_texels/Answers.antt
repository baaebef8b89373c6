use Rattle.std.proofs.Common.{◌∙◌}
use Rattle.span_lanes.proofs.texels.texel_run.EightBitRunSampler.read_texels.Goals as goal

pub returns-clause-texels : goal.returns-clause-texels
returns-clause-texels g c = record {
  long = c.gather_entries.ensures.long;
  value = λ j lt. c.gather_entries.ensures.value j lt ∙ c.read_octets-index.ensures.indexes.entry j lt;
}
