use Rattle.std.proofs.Common.{◌≡◌, ◌+◌, ◌∷◌, [], ℕ, List, take, get_or, map, refl, sym, ap, subst, ◌∙◌, arith}
use Rattle.std.proofs.lemmas.List.{take_more}
use Rattle.gpu_core.specs.Feeds.{After, Hearing, SetsRegisters, TakesWords}
use Rattle.gpu_core.specs.Kept.{kept_of}
use Rattle.gpu_core.specs.Machine.{gp0_note}
use Rattle.gpu_core.proofs.Feeds.{one_taken, set_taken}
use Rattle.gpu_core.proofs.gpu.Gpu.take_first.Goals as goal

pub returns-then-set-gt0-clause-takes : goal.returns-then-set-gt0-clause-takes
returns-then-set-gt0-clause-takes g c = λ s e.
    set_taken s (c.args.played + 1) (take c.set_registers-set.result c.args.words.now) _ _
    (c.set_registers-set.ensures.sets s (c.args.played + 1) e) c.tell_all_bare.ensures.told refl

pub returns-then-len-gt0-clause-takes : goal.returns-then-len-gt0-clause-takes
returns-then-len-gt0-clause-takes g c = λ s e.
    let none : c.set_registers-set.result ≡ 0 = omega arith in
    let P : ℕ → Type 0 = λ n. SetsRegisters s 0 (take n c.args.words.now) c.set_registers-set.new.self in
    (c.take_packet.ensures.takes s (subst P none (c.set_registers-set.ensures.sets s 0 e)).feed).0

pub returns-clause-takes : goal.returns-clause-takes
returns-clause-takes g c = λ s e.
    let words = c.args.words.now in
    let word = get_or words 0 0 in
    let none : c.set_registers-set.result ≡ 0 = omega arith in
    let P : ℕ → Type 0 = λ n. SetsRegisters s 0 (take n words) c.set_registers-set.new.self in
    let kept : kept_of s
    ≡ c.set_registers-set.new.self = (subst P none (c.set_registers-set.ensures.sets s 0 e)).feed in
    let one : take 1 words ≡ word ∷ [] = take_more words 0 0 c.requires in
    let before : Hearing = record {
      heard = map g.T.Listener.heard c.args.taps.now.items;
      steps = c.args.steps.now;
    } in
    let now : After = record {
      gpu = c.gp0.new.self;
      heard = map g.T.Listener.heard c.gp0.new.taps.items;
      steps = c.gp0.new.steps;
    } in
    let note = ap (λ n. gp0_note s n word) (sym c.saturating_add.ensures) ∙ c.gp0.ensures.note s kept in
    subst (λ (l : List ℕ). TakesWords s (c.args.played + 1) l before now) (sym one)
    (one_taken s (c.args.played + 1) word c.gp0.result before now
    (c.gp0.ensures.feed s kept) note c.gp0.ensures.taps (c.gp0.ensures.cost s kept))
