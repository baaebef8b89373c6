use Rattle.std.proofs.Common.{◌∙◌, take, sym}
use Rattle.std.proofs.lemmas.Result.{IfErr-weaker}
use Rattle.capture_slim.specs.Window.{all_left}
use Rattle.capture_slim.proofs.Files.{passed_draft}
use Rattle.capture_slim.proofs.Rests.{first_none, first_some}
use Rattle.capture_slim.proofs.rest.add_next.Goals as goal

pub returns-in-None-clause-ok : goal.returns-in-None-clause-ok
returns-in-None-clause-ok g c = λ base outs is at.
    let slots = c.args.window.now.slots in
    passed_draft c.args.draft.now base (g.K.Sink.held c.args.out.now) outs (all_left (take 1 slots)) is
    (first_none slots (sym c.pop.ensures.event ∙ c.in-None.is))

pub returns-in-Some-clause-ok : goal.returns-in-Some-clause-ok
returns-in-Some-clause-ok g c = λ base outs is at.
    let slots = c.args.window.now.slots in
    rw (first_some slots c.in-Some.event (sym c.pop.ensures.event ∙ c.in-Some.is))
    (c.add_record.ensures.ok base outs is at)

pub returns-in-Some-clause-ends : goal.returns-in-Some-clause-ends
returns-in-Some-clause-ends g c = λ base outs is at.
    IfErr-weaker c.add_record.result _ _
    (λ ending fails. record {
      event = c.in-Some.event;
      event_is = sym c.pop.ensures.event ∙ c.in-Some.is;
      fails = fails;
    })
    (c.add_record.ensures.ends base outs is at)

pub returns-in-None-clause-late : goal.returns-in-None-clause-late
returns-in-None-clause-late g c = λ least from at. from

pub returns-in-Some-clause-late : goal.returns-in-Some-clause-late
returns-in-Some-clause-late g c = c.add_record.ensures.late
