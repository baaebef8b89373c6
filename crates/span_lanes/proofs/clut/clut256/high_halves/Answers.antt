use Rattle.std.proofs.Common.{ℕ, ◌<◌, ◌^◌, Fits, w32, sym, subst, arith}
use Rattle.std.proofs.lemmas.Simd.{Each1-get_or}
use Rattle.px_num.proofs.LaneOps.{long_splat, at_splat}
use Rattle.span_lanes.proofs.clut.clut256.high_halves.Goals as goal

pub returns-clause-long : goal.returns-clause-long
returns-clause-long c = long_splat _ c.args.a 16 c.requires

pub returns-clause-value : goal.returns-clause-value
returns-clause-value c = at_splat _ c.args.a 16 c.requires

pub returns-clause-low : goal.returns-clause-low
returns-clause-low c i lt =
    let word = (Each1-get_or (Fits w32) c.args.a i 0 (omega (arith, c.requires)) c.fits-a.1).fits in
    subst (λ (h : ℕ). h < 2 ^ 16) (sym (at_splat _ c.args.a 16 c.requires i lt)) (omega (arith, word))
