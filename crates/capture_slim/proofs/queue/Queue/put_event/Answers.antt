use Rattle.std.proofs.Common.{length, ap, arith}
use Rattle.std.proofs.lemmas.List.{length-append}
use Rattle.capture_slim.specs.Window.{kept_words}
use Rattle.capture_slim.specs.declared.queue.Queue.{Queue}
use Rattle.capture_slim.proofs.WindowLemmas.{kept_long}
use Rattle.capture_slim.proofs.queue.Queue.put_event.Goals as goal

pub push-requires : goal.push-requires
push-requires c =
    let q = c.args.self.now in
    omega (
      arith,
      c.requires,
      ap (λ (k : Queue). length k.slots) c.close.ensures,
      length-append q.slots (kept_words q.words),
      kept_long q.words,
    )
