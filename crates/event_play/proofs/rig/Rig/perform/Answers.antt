use Rattle.std.proofs.Common.{refl, map, rules}
use Rattle.event_play.specs.Streams.{Outlets, with_sink}
use Rattle.event_play.specs.Operation.{FeedsNoWord}
use Rattle.event_play.proofs.Operations.{quiet_performs, quiet_puts}
use Rattle.event_play.proofs.rig.Rig.perform.Goals as goal

pub returns-in_default-clause-performs : goal.returns-in_default-clause-performs
returns-in_default-clause-performs g c =
    let quiet : FeedsNoWord c.args.operation.value = search rules in
    let did = c.perform_quiet.ensures in
    quiet_performs (g.O.Outlet.mode c.args.lines.now) c.args.operation.number c.args.operation.value
    c.args.self.now
    c.perform_quiet.new.self _ _
    c.perform_quiet.result quiet refl refl refl refl did.shown did.stands did.cost did.played

pub returns-in_default-clause-puts : goal.returns-in_default-clause-puts
returns-in_default-clause-puts g c =
    let quiet : FeedsNoWord c.args.operation.value = search rules in
    let at : Outlets = with_sink (g.O.Outlet.state c.args.lines.now) (map g.T.Listener.heard c.args.taps.now.items)
    c.args.steps.now in
    quiet_puts (g.O.Outlet.mode c.args.lines.now) c.args.operation.number c.args.operation.value
    c.args.self.now
    c.perform_quiet.new.self at at
    c.perform_quiet.result quiet refl refl refl
