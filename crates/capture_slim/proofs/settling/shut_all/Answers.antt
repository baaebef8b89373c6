use Rattle.std.proofs.Common.{◌++◌, length, take, drop, List, ap, ◌∙◌, arith, append_assoc}
use Rattle.std.proofs.lemmas.List.{length-append, length-take}
use Rattle.circular_buffer.specs.Buffer.{Buffer, buffer}
use Rattle.capture_slim.specs.Settling.{all_shut}
use Rattle.capture_slim.specs.declared.slot.Slot.{Slot}
use Rattle.capture_slim.proofs.SettlingLemmas.{shut_long, shut_next, drop_next}
use Rattle.capture_slim.proofs.settling.shut_all.Goals as goal

pub shut_first-requires : goal.shut_first-requires
shut_first-requires c =
    let all = c.args.recent.now.items in
    let long = ap (λ (b : Buffer Slot). length b.items) c.loop-i.invariant.settled in
    let capacity = ap (λ (b : Buffer Slot). b.capacity) c.loop-i.invariant.settled in
    omega (
      arith,
      long,
      capacity,
      c.requires,
      c.loop-i-test.true,
      c.len-count.ensures.len,
      length-append c.args.settled.now.items (all_shut (take c.loop-i.i all)),
      shut_long (take c.loop-i.i all),
      length-take c.loop-i.i all,
    )

pub loop-i-preserved : goal.loop-i-preserved
loop-i-preserved c =
    let i = c.loop-i.i in
    let old = c.args.settled.now.items in
    let all = c.args.recent.now.items in
    let lt = c.loop-i-test.true in
    record {
      settled = c.shut_first.ensures.settled
          ∙ ap (λ (b : Buffer Slot). buffer (b.items ++ all_shut (take 1 c.loop-i.recent.items)) b.capacity)
          c.loop-i.invariant.settled
          ∙ ap (λ (b : Buffer Slot). buffer ((old ++ all_shut (take i all)) ++ all_shut (take 1 b.items))
          c.args.settled.now.capacity) c.loop-i.invariant.rest
          ∙ ap (λ (l : List Slot). buffer l c.args.settled.now.capacity)
          (append_assoc old (all_shut (take i all)) (all_shut (take 1 (drop i all)))
          ∙ ap (λ (l : List Slot). old ++ l) (shut_next all i (omega (arith, lt, c.len-count.ensures.len))));
      rest = c.shut_first.ensures.recent
          ∙ ap (λ (b : Buffer Slot). buffer (drop 1 b.items) b.capacity) c.loop-i.invariant.rest
          ∙ ap (λ (l : List Slot). buffer l c.args.recent.now.capacity)
          (drop_next all i (omega (arith, lt, c.len-count.ensures.len)));
    }
