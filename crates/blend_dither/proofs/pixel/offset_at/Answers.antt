use Rattle.blend_dither.proofs.Offsets.{small_offset, small_read}
use Rattle.blend_dither.proofs.pixel.offset_at.Goals as goal

pub returns-clause-small : goal.returns-clause-small
returns-clause-small c = small_read _ (small_offset c.args.place c.requires)
