use Rattle.std.proofs.Common.{arith}
use Rattle.std.proofs.lemmas.List.{length-append}
use Rattle.capture_slim.specs.Window.{kept_words}
use Rattle.capture_slim.proofs.Ports.{ports_append, kept_ports}
use Rattle.capture_slim.proofs.WindowLemmas.{kept_long}
use Rattle.capture_slim.proofs.waiting.Waiting.close.Goals as goal

pub invariant_of-self : goal.invariant_of-self
invariant_of-self c =
    let slots = c.self.inside.queue.slots in
    let words = c.self.inside.queue.words in
    rw (c.close.ensures) (record {
      ports = ports_append slots (kept_words words) c.self.invariant.ports (kept_ports words);
      few = omega (arith, c.self.invariant.few, length-append slots (kept_words words), kept_long words);
      begun = tt;
    })
