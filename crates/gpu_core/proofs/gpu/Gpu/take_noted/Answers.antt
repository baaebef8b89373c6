use Rattle.std.proofs.Common.{◌≡◌, ◌+◌, ◌∷◌, [], ℕ, List, take, get_or, map, sym, ap, subst, ◌∙◌}
use Rattle.std.proofs.lemmas.List.{take_more}
use Rattle.gpu_core.specs.Feeds.{After, Hearing, TakesWords, but_pixels}
use Rattle.gpu_core.specs.Machine.{gp0_note}
use Rattle.gpu_core.proofs.Feeds.{one_taken}
use Rattle.gpu_core.proofs.Loading.{pixels_unseen}
use Rattle.gpu_core.proofs.gpu.Gpu.take_noted.Goals as goal

pub returns-then-count-gt0-clause-gives : goal.returns-then-count-gt0-clause-gives
returns-then-count-gt0-clause-gives g c = λ s e.
    ap but_pixels (c.load.ensures s e).1
    ∙ pixels_unseen (c.args.played + 1) (take c.min-count.result c.args.words.now)

pub returns-clause-takes : goal.returns-clause-takes
returns-clause-takes g c = λ s e.
    let words = c.args.words.now in
    let word = get_or words 0 0 in
    let one : take 1 words ≡ word ∷ [] = take_more words 0 0 c.requires in
    let before : Hearing = record {
      heard = map g.T.Listener.heard c.args.taps.now.items;
      steps = c.args.steps.now;
    } in
    let now : After = record {
      gpu = c.gp0-note.new.self;
      heard = map g.T.Listener.heard c.gp0-note.new.taps.items;
      steps = c.gp0-note.new.steps;
    } in
    let note = ap (λ n. gp0_note s n word) (sym c.saturating_add.ensures) ∙ c.gp0-note.ensures.note s e in
    subst (λ (l : List ℕ). TakesWords s (c.args.played + 1) l before now) (sym one)
    (one_taken s (c.args.played + 1) word c.gp0-note.result before now
    (c.gp0-note.ensures.feed s e) note c.gp0-note.ensures.taps (c.gp0-note.ensures.cost s e))
