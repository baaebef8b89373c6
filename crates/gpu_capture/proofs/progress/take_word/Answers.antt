use Rattle.std.proofs.Common.{◌≡◌, ◌-◌, arith}
use Rattle.std.proofs.lemmas.Result.{err_from_is_err_and}
use Rattle.gpu_capture.specs.Reader.{work_left}
use Rattle.gpu_capture.proofs.Steps.{gives_repeated, no_word_stops, opens_word, gives_word, word_stops, after_less}
use Rattle.gpu_capture.proofs.progress.take_word.Goals as goal

pub returns-then-progress-gt0-clause-takes : goal.returns-then-progress-gt0-clause-takes
returns-then-progress-gt0-clause-takes g c = gives_repeated c.args.progress.now _ c.requires.started (omega arith)

pub returns-then-progress-gt0-clause-forward : goal.returns-then-progress-gt0-clause-forward
unfolding work_left
returns-then-progress-gt0-clause-forward g c = omega arith

pub returns-in_err-word-clause-stop : goal.returns-in_err-word-clause-stop
returns-in_err-word-clause-stop g c =
    let p = err_from_is_err_and c.from_residual.result c.from_residual.ensures.1 in
    let none : c.args.progress.now.left ≡ 0 = omega arith in
    rw (p.1, p.2) (no_word_stops _ _ _ _ c.requires.started none c.in_err-word.ensures.stop)

pub returns-in-Opens-clause-takes : goal.returns-in-Opens-clause-takes
returns-in-Opens-clause-takes g c =
    let none : c.args.progress.now.left ≡ 0 = omega arith in
    rw c.progress_after_word.ensures
    (opens_word c.args.progress.now _ _ c.in_ok-word.word c.in-Opens.next c.requires.started none
    c.in_ok-word.ensures.word c.in-Opens.ensures.value)

pub returns-in-Opens-clause-forward : goal.returns-in-Opens-clause-forward
returns-in-Opens-clause-forward g c = rw c.progress_after_word.ensures
    (after_less c.args.progress.now c.in-Opens.next _ 0 c.in_ok-word.ensures.word.below_limit (omega arith))

pub returns-in-Gives-clause-takes : goal.returns-in-Gives-clause-takes
returns-in-Gives-clause-takes g c =
    let none : c.args.progress.now.left ≡ 0 = omega arith in
    rw c.progress_after_word-in-Gives.ensures
    (gives_word c.args.progress.now _ _ c.in_ok-word.word c.in-Gives.event c.in-Gives.count c.in-Gives.next
    c.requires.started none c.in-Gives.ensures.bounds.1 c.in_ok-word.ensures.word c.in-Gives.ensures.value)

pub returns-in-Gives-clause-forward : goal.returns-in-Gives-clause-forward
returns-in-Gives-clause-forward g c = let few = c.in-Gives.ensures.bounds.2 in
    rw c.progress_after_word-in-Gives.ensures
    (after_less c.args.progress.now c.in-Gives.next _ (c.in-Gives.count - 1) c.in_ok-word.ensures.word.below_limit
    (omega (arith, few)))

pub returns-in-Closes-clause-stop : goal.returns-in-Closes-clause-stop
returns-in-Closes-clause-stop g c =
    let none : c.args.progress.now.left ≡ 0 = omega arith in
    word_stops c.args.progress.now _ _ c.in_ok-word.word c.in-Closes.stop c.requires.started none
    c.in_ok-word.ensures.word c.in-Closes.ensures.value c.in-Closes.ensures.bounds
