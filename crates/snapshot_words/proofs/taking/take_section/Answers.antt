use Rattle.std.proofs.Common.{◌≡◌, true, false, sym, ◌∙◌, arith}
use Rattle.std.proofs.lemmas.List.{length_push}
use Rattle.snapshot_words.specs.Sections.{allows, wants}
use Rattle.snapshot_words.proofs.Gathering.{bad_stops, no_word_stops, goes_on, allowed_on}
use Rattle.snapshot_words.proofs.taking.take_section.Goals as goal

pub returns-in-Err-clause-fault : goal.returns-in-Err-clause-fault
returns-in-Err-clause-fault g c =
    let due : wants c.args.section c.words.words.items ≡ true =
    rw (← c.as_slice.ensures.value) (sym c.wants.ensures.value ∙ c.words-test.true) in
    no_word_stops _ _ _ _ _ c.words.invariant.goes _ c.in-Err.ensures.fault due

pub returns-then-not-allows-clause-fault : goal.returns-then-not-allows-clause-fault
returns-then-not-allows-clause-fault g c =
    let due : wants c.args.section c.words.words.items ≡ true =
    rw (← c.as_slice.ensures.value) (sym c.wants.ensures.value ∙ c.words-test.true) in
    let may : allows c.args.section c.words.words.items c.in-Ok.word ≡ false =
    rw (← c.as_slice-in-words.ensures.value) (sym c.allows.ensures ∙ c.if-not-allows.true) in
    bad_stops _ _ _ _ _ c.words.invariant.goes _ c.in-Ok.ensures.word due may

pub words-preserved : goal.words-preserved
words-preserved g c =
    let due : wants c.args.section c.words.words.items ≡ true =
    rw (← c.as_slice.ensures.value) (sym c.wants.ensures.value ∙ c.words-test.true) in
    let may : allows c.args.section c.words.words.items c.in-Ok.word ≡ true =
    rw (← c.as_slice-in-words.ensures.value) (sym c.allows.ensures ∙ c.if-not-allows.false) in
    let few = c.wants.ensures.few c.words-test.true in
    let longer = length_push c.words.words.items c.in-Ok.word in
    record {
      goes = rw c.push.ensures.items (goes_on _ _ _ _ _ c.words.invariant.goes _ c.in-Ok.ensures.word due may);
      allowed = rw c.push.ensures.items (allowed_on _ _ _ c.words.invariant.allowed due may c.in-Ok.ensures.word.fits);
      offset = rw c.push.ensures.items (omega (arith, longer, c.words.invariant.offset));
      few = rw c.push.ensures.items (omega (arith, longer, rw c.as_slice.ensures.value at few));
      faults = omega (arith, c.words.invariant.faults, c.in-Ok.ensures.faults);
    }
