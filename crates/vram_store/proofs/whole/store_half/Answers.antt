use Rattle.std.proofs.Common.{arith, inl, inr, ◌∙◌}
use Rattle.std.proofs.lemmas.Simd.{length-put_chunk, get_or-put_chunk_below, get_or-put_chunk_at}
use Rattle.std.proofs.lemmas.Simd.{get_or-put_chunk_above}
use Rattle.vram_store.proofs.Puts.{first_half, half_lane}
use Rattle.vram_store.proofs.whole.store_half.Goals as goal

pub returns : goal.returns
returns c =
    let m = c.args.cells.now in
    let start = c.args.start in
    let lanes = c.args.lanes in
    record {
      count = length-put_chunk start m (first_half lanes);
      written = λ j lt. get_or-put_chunk_at start m (first_half lanes) j 0 lt (omega (arith, c.requires.in_cells))
          ∙ half_lane lanes c.requires.long j lt;
      others = λ k away. elim away [
        | inl lt ↦ get_or-put_chunk_below start m (first_half lanes) k 0 lt
        | inr le ↦ get_or-put_chunk_above start m (first_half lanes) k 0 le
      ];
    }
