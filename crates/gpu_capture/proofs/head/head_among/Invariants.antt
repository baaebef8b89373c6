use Rattle.std.proofs.Common.{◌≡◌, ◌<◌, ◌==◌, drop, max}
use Rattle.std.specs.List.{position_from}
use Rattle.gpu_capture.specs.Head.{offset_of_difference, furthest_offset, number_of_head}
use Rattle.gpu_capture.proofs.head.head_among.Given as goal

abbrev pub invariant-loop-number : goal.invariant-loop-number
invariant-loop-number l = record {
  found : position_from (λ head. offset_of_difference head l.bytes == 8) l.number (drop l.number l.heads)
      ≡ number_of_head l.heads l.bytes;
  offset : max l.furthest (furthest_offset (drop l.number l.heads) l.bytes) ≡ furthest_offset l.heads l.bytes;
  within : l.furthest < 8;
}
