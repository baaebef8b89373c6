use Rattle.std.proofs.Common.{◌∙◌, ap, sym}
use Rattle.ot_clear_dma.specs.Ram.{word_at}
use Rattle.event_play.proofs.Nodes.{left_goes, left_enters}
use Rattle.event_play.proofs.words.WordCursor.next.Goals as goal

pub returns-then-self : goal.returns-then-self
returns-then-self c =
    let is = c.get-word.ensures.value ∙ ap (word_at c.self.inside.ram.now) c.address_in.ensures.value in
    sym c.self.view_is ∙ left_goes _ _ _ _ _ c.if-self.true is

pub returns-in-Some : goal.returns-in-Some
returns-in-Some c =
    let is = c.get.ensures.value ∙ ap (word_at c.self.inside.ram.now) c.address_in-in-Some.ensures.value in
    sym c.self.view_is ∙ rw c.in-Nodes.is (left_enters _ _ _ _ _ _ c.if-self.false c.in-Some.ensures is)
