use Rattle.std.proofs.Common.{◌≡◌, rules, arith, sym, ◌∙◌}
use Rattle.gpu_capture.specs.Reader.{work_left}
use Rattle.gpu_capture.proofs.Steps.{takes_none, head_takes, head_stops, head_short, head_fails}
use Rattle.gpu_capture.proofs.progress.take_head.Goals as goal

pub returns-then-progress-gt0-clause-takes : goal.returns-then-progress-gt0-clause-takes
returns-then-progress-gt0-clause-takes g c = takes_none _

pub returns-in-Ok-version_of-clause-takes : goal.returns-in-Ok-version_of-clause-takes
returns-in-Ok-version_of-clause-takes g c =
    let unstarted : c.args.progress.now.version ≡ 0 = omega arith in
    let is = sym c.version_of.ensures.version ∙ c.in-Ok-version_of.is in
    rw c.at_tag.ensures.value
    (head_takes _ c.fill.new.buf _ _ c.in-Ok-version_of.version unstarted (search rules)
    (search rules) is c.in-Ok-version_of.ensures.known.0)

pub returns-in-Ok-version_of-clause-forward : goal.returns-in-Ok-version_of-clause-forward
unfolding work_left
returns-in-Ok-version_of-clause-forward g c =
    let unstarted : c.args.progress.now.version ≡ 0 = omega arith in
    let zero = c.requires.start unstarted in rw c.at_tag.ensures.value (omega (arith, zero))

pub returns-in-Err-version_of-clause-stop : goal.returns-in-Err-version_of-clause-stop
returns-in-Err-version_of-clause-stop g c =
    let unstarted : c.args.progress.now.version ≡ 0 = omega arith in
    head_stops _ c.fill.new.buf _ _ _ unstarted (search rules) (search rules)
    (sym c.version_of.ensures.version ∙ c.in-Err-version_of.is)

pub returns-in-Ok-clause-stop : goal.returns-in-Ok-clause-stop
returns-in-Ok-clause-stop g c =
    head_short _ c.fill.new.buf _ _ c.in-Ok.n (let none : c.args.progress.now.version ≡ 0 = omega arith in none)
    (search rules) (search rules) (search rules) (search rules)

pub returns-in-Err-clause-stop : goal.returns-in-Err-clause-stop
returns-in-Err-clause-stop g c =
    head_fails _ c.fill.new.buf _ _ c.in-Err.n (let none : c.args.progress.now.version ≡ 0 = omega arith in none)
    (search rules) (search rules) (search rules)
