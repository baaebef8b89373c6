use Rattle.std.proofs.Common.{sym, ◌∙◌}
use Rattle.gpu_taps.proofs.Numbers.{number_at, has_note}
use Rattle.gpu_taps.proofs.trace.number_of.Goals as goal

pub returns-in-Some : goal.returns-in-Some
returns-in-Some c = c.number.ensures ∙ number_at c.args.notes.now.items c.args.i c.in-Some.note.now
    (sym c.in-Some.ensures)

pub returns-in-None : goal.returns-in-None
returns-in-None c = absurd (has_note c.args.notes.now.items c.args.i c.requires c.in-None.ensures)
