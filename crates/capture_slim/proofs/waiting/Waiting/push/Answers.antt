use Rattle.std.proofs.Common.{◌≡◌, length, ap, ◌∙◌, arith}
use Rattle.capture_slim.specs.Places.{kept_of}
use Rattle.capture_slim.specs.Stream.{leaving, staying}
use Rattle.capture_slim.specs.Window.{Window, within, pushed}
use Rattle.capture_slim.specs.declared.queue.Queue.{Queue}
use Rattle.capture_slim.proofs.Ports.{pushed_ports, left_ports}
use Rattle.capture_slim.proofs.PushLemmas.{few_words, pushed_is, pushed_keeps}
use Rattle.capture_slim.proofs.SettlingLemmas.{settled_by_long}
use Rattle.capture_slim.proofs.waiting.Waiting.push.Goals as goal

pub apply_effect-requires : goal.apply_effect-requires
apply_effect-requires c = omega (
  arith,
  ap length c.as_slice-after.ensures,
  few_words c.self.inside.queue.words c.self.inside.track c.self.invariant.begun,
)

pub add-requires-clause-few : goal.add-requires-clause-few
add-requires-clause-few c = few_words c.self.inside.queue.words c.self.inside.track c.self.invariant.begun

pub add-requires-clause-room : goal.add-requires-clause-room
add-requires-clause-room c = omega (
  arith,
  ap length c.apply_effect.ensures,
  c.self.invariant.few,
  settled_by_long c.self.inside.queue.slots (length c.as_slice-after.result.now) c.follow-told.result.effect,
)

added_is : (c : goal.After-leave) → within c.add.new.self c.follow-told.new.self
    ≡ pushed (within c.self.inside.queue c.self.inside.track) c.args.event
added_is c = rw (
  c.add.ensures,
  c.apply_effect.ensures,
  c.as_slice-after.ensures,
  c.follow-told.ensures.effect,
  c.follow-told.ensures.area,
  c.is_idle-idle.ensures,
  c.follow-told.ensures.control,
) (pushed_is (within c.self.inside.queue c.self.inside.track) c.args.event c.self.invariant.begun)

stays : (c : goal.After-leave) → within c.leave.new.self c.follow-told.new.self
    ≡ staying (pushed (within c.self.inside.queue c.self.inside.track) c.args.event)
stays c = ap (λ (q : Queue). within q c.follow-told.new.self) c.leave.ensures.now ∙ ap staying (added_is c)

pub returns-clause-ports : goal.returns-clause-ports
returns-clause-ports c =
    let p = pushed (within c.self.inside.queue c.self.inside.track) c.args.event in
    left_ports p.slots p.words c.leave.result (pushed_ports _ c.args.event c.self.invariant.ports c.requires)
    (c.leave.ensures.left ∙ ap (λ (w : Window). kept_of (leaving w)) (added_is c))

pub returns-clause-left : goal.returns-clause-left
returns-clause-left c =
    c.leave.ensures.left
    ∙ ap (λ (w : Window). kept_of (leaving w)) (added_is c ∙ ap (λ (w : Window). pushed w c.args.event) c.self.view_is)

pub returns-clause-now : goal.returns-clause-now
returns-clause-now c = stays c ∙ ap (λ (w : Window). staying (pushed w c.args.event)) c.self.view_is

pub invariant_of-self : goal.invariant_of-self
invariant_of-self c = rw (stays c) (pushed_keeps _ c.args.event c.self.invariant c.requires)
