use Rattle.std.proofs.Common.{refl, arith}
use Rattle.capture_cut.proofs.Cutting.{state_written, state_lacks}
use Rattle.capture_cut.proofs.whole.cut.Goals as goal

pub returns-in-Ok-write_state-clause-ends : goal.returns-in-Ok-write_state-clause-ends
returns-in-Ok-write_state-clause-ends g c = λ s e.
    c.write_rest.ensures.ends _ _ _ _ _
    (state_written _ _ _ _ _ (c.in-Ok.ensures.ok s (g.K.Sink.held c.args.out.now) e) refl
    (g.K.Sink.held c.write_state.new.out) _ c.write_state.ensures.cost c.state_size.result
    c.in-Ok-write_state.ensures.writes.ok c.state_size.ensures.value (omega (arith, c.state_size.ensures.few))
    c.keep_bounds.ensures c.ranges.n.fits)

pub returns-in-Err-write_state-clause-ends : goal.returns-in-Err-write_state-clause-ends
returns-in-Err-write_state-clause-ends g c = λ s e.
    state_lacks _ _ _ _ _ (c.in-Ok.ensures.ok s (g.K.Sink.held c.args.out.now) e) refl
    (g.K.Sink.held c.write_state.new.out) _ c.write_state.ensures.cost c.from.result c.from.ensures
    c.in-Err-write_state.ensures.writes.failed
