use Rattle.std.proofs.Common.{◌++◌, List, Option, option_to_list, refl, ap, ◌∙◌, sym, subst, arith}
use Rattle.std.proofs.lemmas.Result.{IfErr-weaker, on_ok_weaker}
use Rattle.gpu_capture.specs.declared.event.Event.{Event}
use Rattle.capture_slim.specs.File.{IsDraft}
use Rattle.capture_slim.specs.Stream.{leaving}
use Rattle.capture_slim.specs.Window.{pushed}
use Rattle.capture_slim.proofs.Files.{passed_draft}
use Rattle.capture_slim.proofs.Firsts.{counted, size, waiting_size, pushed_size, leaves_size, comes, gone, leaves_one}
use Rattle.capture_slim.proofs.Firsts.{now_fails, number_is}
use Rattle.capture_slim.proofs.slim.push_event.Goals as goal

pub overflow_sub-number : goal.overflow_sub-number
overflow_sub-number g c =
    let p = pushed c.args.window.now c.args.event in
    omega (
      arith,
      c.len.ensures.value,
      ap size c.push.ensures.now,
      pushed_size c.args.window.now c.args.event,
      leaves_size p.slots p.words,
      waiting_size c.args.window.now,
      c.requires.count.most,
    )

pub returns-in-None-clause-ok : goal.returns-in-None-clause-ok
returns-in-None-clause-ok g c = λ passed came.
    let none = ap (λ (o : Option Event). option_to_list o) (sym c.in-None.is) ∙ c.push.ensures.left in
    comes _ _ _ _ _ came c.args.event c.push.new.self c.push.ensures.now c.requires.port c.holds_words.ensures
    c.args.draft.now _ refl
    (passed_draft c.args.draft.now passed.base _ (gone _ _ _ _ _ came)
    (leaving (pushed c.args.window.now c.args.event)) came.draft_is (sym none))

pub returns-in-Some-clause-ok : goal.returns-in-Some-clause-ok
returns-in-Some-clause-ok g c = λ passed came.
    let now = g.K.Sink.held c.add_record.new.out in
    let left = ap (λ (o : Option Event). option_to_list o) (sym c.in-Some.is) ∙ c.push.ensures.left in
    let one = leaves_one _ _ _ _ _ came c.args.event c.push.new.self c.push.ensures.now c.requires.port
    c.holds_words.ensures c.in-Some.left c.len.result left c.len.ensures.value c.len.ensures.few in
    let position = number_is _ _ _ _ _ came c.args.event c.push.new.self c.push.ensures.now c.requires.port
    c.holds_words.ensures c.in-Some.left c.len.result left c.len.ensures.value c.len.ensures.few in
    let P : List (Option Event) → Type 0 = λ more. IsDraft c.add_record.new.draft passed.base now
    (gone _ _ _ _ _ came ++ more) in
    on_ok_weaker c.add_record.result
    (λ is. comes _ _ _ _ _ came c.args.event c.push.new.self c.push.ensures.now c.requires.port c.holds_words.ensures
    c.add_record.new.draft now c.add_record.ensures.version (subst P (sym one) is))
    (c.add_record.ensures.ok passed.base (gone _ _ _ _ _ came) came.draft_is position)

pub returns-in-Some-clause-ends : goal.returns-in-Some-clause-ends
returns-in-Some-clause-ends g c = λ passed came.
    let left = ap (λ (o : Option Event). option_to_list o) (sym c.in-Some.is) ∙ c.push.ensures.left in
    let position = number_is _ _ _ _ _ came c.args.event c.push.new.self c.push.ensures.now c.requires.port
    c.holds_words.ensures c.in-Some.left c.len.result left c.len.ensures.value c.len.ensures.few in
    IfErr-weaker c.add_record.result _ _
    (now_fails _ _ _ _ _ came c.args.event c.push.new.self c.push.ensures.now c.requires.port c.holds_words.ensures
    c.in-Some.left c.len.result left c.len.ensures.value c.len.ensures.few (g.K.Sink.held c.add_record.new.out))
    (c.add_record.ensures.ends passed.base (gone _ _ _ _ _ came) came.draft_is position)

pub returns-in-None-clause-late : goal.returns-in-None-clause-late
returns-in-None-clause-late g c = λ passed least came from. from.buffered

pub returns-in-Some-clause-late : goal.returns-in-Some-clause-late
returns-in-Some-clause-late g c = λ passed least came from.
    let left = ap (λ (o : Option Event). option_to_list o) (sym c.in-Some.is) ∙ c.push.ensures.left in
    let position = number_is _ _ _ _ _ came c.args.event c.push.new.self c.push.ensures.now c.requires.port
    c.holds_words.ensures c.in-Some.left c.len.result left c.len.ensures.value c.len.ensures.few in
    c.add_record.ensures.late least from.buffered
    (omega (arith, position, counted _ _ _ _ _ came, from.later))
