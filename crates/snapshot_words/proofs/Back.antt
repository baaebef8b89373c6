-- Values are read back from their words.
use Rattle.std.proofs.Common.{◌≡◌, ℕ, true, false, Option, None, Some, refl, sym, ap, arith}
use Rattle.gp0_words.specs.declared.pending.Pending.{Pending}
use Rattle.gp0_words.specs.declared.pending.Pending.TheVariants as pending
use Rattle.gpu_core.specs.Kept.{IsLinked}
use Rattle.list_dma.specs.declared.run.Run.{Run}
use Rattle.list_dma.specs.declared.run.Run.TheVariants as run
use Rattle.vram_copy.specs.declared.transfer.Transfer.{Transfer}
use Rattle.snapshot_words.specs.Values.{front_words, played_in, pending_words, pending_in, load_in, store_words}
use Rattle.snapshot_words.specs.Values.{store_in}
use Rattle.snapshot_words.specs.Values.{run_words, run_in}

pub played_back : (height played : ℕ) → played_in (front_words height played) ≡ played
played_back height played = omega arith

pub pending_back : (p : Pending) (load : Option Transfer) → IsLinked p load → pending_in (pending_words p load) ≡ p
pending_back pending.Idle load link = refl
pending_back (pending.Packet words) load link = refl
pending_back (pending.Pixels left) None link = absurd link
pending_back (pending.Pixels left) (Some job) link = ap pending.Pixels link.0
pending_back (pending.Poly command color vertex None) load link = refl
pending_back (pending.Poly command color vertex (Some half)) load link = refl

pub load_back : (p : Pending) (load : Option Transfer) → IsLinked p load → load_in (pending_words p load) ≡ load
load_back pending.Idle load link = sym link
load_back (pending.Packet words) load link = sym link
load_back (pending.Pixels left) None link = absurd link
load_back (pending.Pixels left) (Some job) link = refl
load_back (pending.Poly command color vertex None) load link = sym link
load_back (pending.Poly command color vertex (Some half)) load link = sym link

pub store_back : (store : Option Transfer) → store_in (store_words store) ≡ store
store_back None = refl
store_back (Some job) = refl

pub run_back : (r : Run) → run_in (run_words r) ≡ r
run_back run.Idle = refl
run_back (run.Words at left block true true) = refl
run_back (run.Words at left block true false) = refl
run_back (run.Words at left block false true) = refl
run_back (run.Words at left block false false) = refl
run_back (run.List node) = refl
