use Rattle.std.proofs.Common.{◌≡◌, ◌%◌, ◌^◌, ℕ, pos, ap, sym, ◌∙◌, arith}
use Rattle.texture_page.specs.Page.{clut_place}
use Rattle.texel_lanes.specs.Texture.{at_cell}
use Rattle.span_lanes.specs.Clut.ModulatedClut256.{entry_in, modulated_in}
use Rattle.span_lanes.specs.Shade.{modulated_texel}
use Rattle.span_lanes.proofs.ModulatedClutLemmas.{piece_more}
use Rattle.span_lanes.proofs.clut.clut256.modulate_clut256.Goals as goal

pub loop-piece-preserved : goal.loop-piece-preserved
loop-piece-preserved g c =
    let words = c.store_piece.new.words in
    let others = c.store_piece.ensures.others in
    let piece = c.modulated_piece.ensures in
    let so_far = c.loop-piece.invariant in
    let t = c.args.texture.now in
    record {
      long = c.store_piece.ensures.long;
      entry = piece_more (λ (i : ℕ). entry_in words i ≡ at_cell c.args.vram.now (clut_place t.clut i))
          c.loop-piece.piece (λ i lt. ap (λ (word : ℕ). word % 2 ^ 16) (others i lt) ∙ so_far.entry i lt)
          (λ i lt. c.store_piece.ensures.entry i lt ∙ piece.entry i lt);
      front = piece_more
          (λ (i : ℕ). modulated_in words i ≡ modulated_texel t.raw c.args.color (pos 0) (entry_in words i))
          c.loop-piece.piece (λ i lt. rw (others i lt) (so_far.front i lt))
          (λ i lt. c.store_piece.ensures.front i lt ∙ piece.front i lt
          ∙ ap (λ (entry : ℕ). modulated_texel t.raw c.args.color (pos 0) entry)
          (sym (c.store_piece.ensures.entry i lt)));
      cost = omega (arith, so_far.cost, piece.cost);
    }

pub returns-clause-modulated : goal.returns-clause-modulated
returns-clause-modulated g c = record {
  long = c.loop-piece.invariant.long;
  entry = λ i lt. c.loop-piece.invariant.entry i (omega arith);
  front = λ i lt. c.loop-piece.invariant.front i (omega arith);
}
