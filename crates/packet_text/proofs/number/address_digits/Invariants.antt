use Rattle.std.proofs.Common.{◌≡◌, ◌-◌, ◌++◌, drop, length}
use Rattle.packet_text.specs.Number.{hex_digits_of}
use Rattle.packet_text.proofs.number.address_digits.Given as goal

abbrev pub invariant-loop-i : goal.invariant-loop-i
invariant-loop-i l = record {
  count : length l.digits ≡ 6;
  digits : hex_digits_of (6 - l.i) l.rest ++ drop (6 - l.i) l.digits ≡ hex_digits_of 6 l.address;
}
