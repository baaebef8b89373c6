use Rattle.std.proofs.Common.{◌≡◌, ◌-◌, ◌++◌, drop, length}
use Rattle.packet_text.specs.Number.{hex_digits_of}
use Rattle.packet_text.proofs.number.cell_digits.Given as goal

abbrev pub invariant-loop-i : goal.invariant-loop-i
invariant-loop-i l = record {
  count : length l.digits ≡ 4;
  digits : hex_digits_of (4 - l.i) l.rest ++ drop (4 - l.i) l.digits ≡ hex_digits_of 4 l.cell;
}
