use Rattle.std.proofs.Common.{refl, inl, map, rules}
use Rattle.event_play.specs.Streams.{Outlets, outlets}
use Rattle.event_play.proofs.rig.Rig.end_reading.Goals as goal

pub returns-in-End-clause-ends : goal.returns-in-End-clause-ends
returns-in-End-clause-ends g c = λ s e.
    let mid : Outlets = outlets (g.K.Sink.held c.write.new.out) (g.K.Sink.faults c.write.new.out)
    (map g.T.Listener.heard c.args.taps.now.items) c.args.steps.now in
    inl (mid, record { stands = c.in-Ok.ensures.ok }, refl, refl, rw c.in-End.is (c.finish.ensures.ends s e))

pub returns-in_default-clause-ends : goal.returns-in_default-clause-ends
returns-in_default-clause-ends g c = λ s e.
    let mid : Outlets = outlets (g.K.Sink.held c.write.new.out) (g.K.Sink.faults c.write.new.out)
    (map g.T.Listener.heard c.args.taps.now.items) c.args.steps.now in
    inl (mid, record { stands = c.in-Ok.ensures.ok }, refl, refl, (c.next_number.ensures, refl, search rules, refl))
