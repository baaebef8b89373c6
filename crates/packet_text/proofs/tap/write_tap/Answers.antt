use Rattle.std.proofs.Common.{refl}
use Rattle.std.proofs.lemmas.Result.{err_from_is_err_and}
use Rattle.dev_io.proofs.Writing.{underway_start, underway_on, underway_fails, underway_last}
use Rattle.packet_text.specs.Tap.{tap_line}
use Rattle.packet_text.proofs.tap.write_tap.Goals as goal

pub returns-in_err-write_kind : goal.returns-in_err-write_kind
unfolding tap_line
returns-in_err-write_kind g c =
    let p = err_from_is_err_and c.from_residual.result c.from_residual.ensures.1 in
    rw (p.1, p.2, ← c.kind.ensures)
    (underway_fails _ _ _ _ _ _ _ _ _ (underway_start _ _ _) refl c.in_err-write_kind.ensures)

pub returns-in_err-write_numbers : goal.returns-in_err-write_numbers
unfolding tap_line
returns-in_err-write_numbers g c =
    let p = err_from_is_err_and c.from_residual-in_err-write_numbers.result
    c.from_residual-in_err-write_numbers.ensures.1 in
    let kind = underway_on _ _ _ _ _ _ _ _ _ (underway_start _ _ _) refl c.in_ok-write_kind.ensures in
    rw (p.1, p.2, ← c.kind.ensures) (underway_fails _ _ _ _ _ _ _ _ _ kind refl c.in_err-write_numbers.ensures)

pub returns : goal.returns
unfolding tap_line
returns g c =
    let kind = underway_on _ _ _ _ _ _ _ _ _ (underway_start _ _ _) refl c.in_ok-write_kind.ensures in
    let numbers = underway_on _ _ _ _ _ _ _ _ _ kind refl c.in_ok-write_numbers.ensures in
    rw (← c.kind.ensures) (underway_last _ _ _ _ _ _ _ numbers c.write_all.ensures)
