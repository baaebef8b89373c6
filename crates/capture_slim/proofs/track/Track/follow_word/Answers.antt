use Rattle.std.proofs.Common.{◌∙◌, ap}
use Rattle.gp1_status.specs.Registers.{Registers}
use Rattle.gpu_capture.specs.declared.event.Event.TheVariants.{Gp0}
use Rattle.dead_drawing.specs.Control.{Control, controlled, regs_after}
use Rattle.capture_slim.specs.Effect.{event_effect}
use Rattle.capture_slim.specs.Telling.{area_at}
use Rattle.capture_slim.proofs.Registers.{inside_control, register_control, register_no_effect}
use Rattle.capture_slim.proofs.track.Track.follow_word.Goals as goal

pub returns-then-passes-clause-control : goal.returns-then-passes-clause-control
returns-then-passes-clause-control c =
    let k : Control = record { regs = c.self.inside.regs; pending = c.self.inside.splitter } in
    let f : Registers → Control = λ regs. record { regs = regs; pending = c.self.inside.splitter } in
    ap f (c.put.ensures ∙ ap (regs_after k.regs) c.decode_environment-packet.ensures.value)
    ∙ register_control k c.args.word (c.passes.ensures.packet c.if-passes.true)
    (c.passes.ensures.class c.if-passes.true)
    ∙ ap (λ (k : Control). controlled k (Gp0 c.args.word)) c.self.view_is

pub put-requires : goal.put-requires
put-requires c = c.decode_environment-packet.ensures.ranges c.self.inside.regs.height

pub returns-then-passes-clause-effect : goal.returns-then-passes-clause-effect
returns-then-passes-clause-effect c =
    let k : Control = record { regs = c.self.inside.regs; pending = c.self.inside.splitter } in
    let no_effect = register_no_effect k c.args.word (c.passes.ensures.packet c.if-passes.true)
    (c.passes.ensures.class c.if-passes.true) in
    c.no_effect.ensures.effect ∙ no_effect.effect
    ∙ ap (λ (k : Control). event_effect k (Gp0 c.args.word)) c.self.view_is

pub returns-then-passes-clause-area : goal.returns-then-passes-clause-area
returns-then-passes-clause-area c =
    let k : Control = record { regs = c.self.inside.regs; pending = c.self.inside.splitter } in
    let no_effect = register_no_effect k c.args.word (c.passes.ensures.packet c.if-passes.true)
    (c.passes.ensures.class c.if-passes.true) in
    c.no_effect.ensures.area ∙ no_effect.area ∙ ap (λ (k : Control). area_at k (Gp0 c.args.word)) c.self.view_is

pub returns-then-push_inside-clause-control : goal.returns-then-push_inside-clause-control
returns-then-push_inside-clause-control c =
    let k : Control = record { regs = c.self.inside.regs; pending = c.self.inside.splitter } in
    inside_control k c.push_inside.new.self c.args.word (c.push_inside.ensures.inside c.if-push_inside.true)
    ∙ ap (λ (k : Control). controlled k (Gp0 c.args.word)) c.self.view_is
