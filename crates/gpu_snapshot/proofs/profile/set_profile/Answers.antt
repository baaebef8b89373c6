use Rattle.std.proofs.Common.{◌∙◌, ap, length}
use Rattle.event_play.specs.RigState.{RigState, Stands}
use Rattle.event_play.specs.Step.{first_machine}
use Rattle.gpu_snapshot.proofs.Profiles.{first_stands, first_rows, first_words, rows_of_tall, words_of_tall}
use Rattle.gpu_snapshot.proofs.profile.set_profile.Goals as goal

pub returns-then-tall-clause-rows : goal.returns-then-tall-clause-rows
returns-then-tall-clause-rows c =
    let stands : Stands c.args.rig.now first_machine = rw c.requires.new first_stands in
    rw c.if-tall.true (rows_of_tall c.set_tall.new.self (c.set_tall.ensures.stands first_machine stands))

pub returns-then-tall-clause-words : goal.returns-then-tall-clause-words
returns-then-tall-clause-words c =
    let stands : Stands c.args.rig.now first_machine = rw c.requires.new first_stands in
    words_of_tall c.set_tall.new.self (c.set_tall.ensures.stands first_machine stands)

pub returns-else-tall-clause-rows : goal.returns-else-tall-clause-rows
returns-else-tall-clause-rows c =
    rw c.if-tall.false (ap (λ (rig : RigState). length rig.gpu.parts.m) c.requires.new ∙ first_rows)

pub returns-else-tall-clause-words : goal.returns-else-tall-clause-words
returns-else-tall-clause-words c = ap (λ (rig : RigState). length rig.ram) c.requires.new ∙ first_words
