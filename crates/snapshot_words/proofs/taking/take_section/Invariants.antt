use Rattle.std.proofs.Common.{◌≡◌, ◌≤◌, ◌+◌, ◌*◌, ◌-◌, length}
use Rattle.snapshot_words.specs.Taking.{Goes, remainder}
use Rattle.snapshot_words.specs.Sections.{AreAllowed}
use Rattle.snapshot_words.proofs.taking.take_section.Given as goal

abbrev pub invariant-words : goal.invariant-words
invariant-words g l = record {
  goes : Goes l.section (remainder l.initial.offset (g.S.Source.left l.initial.source))
      (remainder l.offset (g.S.Source.left l.source)) l.words.items;
  allowed : AreAllowed l.section l.words.items;
  offset : l.offset ≡ l.initial.offset + 4 * length l.words.items;
  few : length l.words.items ≤ 13;
  faults : g.S.Source.faults l.initial.source ≤ g.S.Source.faults l.source;
}

abbrev pub decreases-words : goal.decreases-words
decreases-words g l = 13 - length l.words.items
