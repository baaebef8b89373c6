use Rattle.std.proofs.Common.{◌<◌, ◌^◌, ℕ, List, slice_index, subst}
use Rattle.gp0_words.specs.Next.{IsPending}
use Rattle.capture_cut.proofs.Fitting.{packet_fits}
use Rattle.capture_cut.proofs.bounds.keep_pending.Goals as goal

pub returns-in-Packet : goal.returns-in-Packet
returns-in-Packet c =
    let Fit : List ℕ → Type 0 = λ words. (k : ℕ) → slice_index words k < 2 ^ 32 in
    rw c.in-Packet.is
    (packet_fits c.in-Packet.words (subst IsPending c.in-Packet.is c.requires)
    (subst Fit c.as_slice.ensures c.keep_words.ensures))
