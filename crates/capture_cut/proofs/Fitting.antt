-- The values of a rig are in their bounds and fit their words.
use Rattle.std.proofs.Common.{◌≡◌, ◌≤◌, ◌<◌, ◌+◌, ◌*◌, ◌^◌, ◌++◌, inl, inr, ℕ, suc, Bool, true, false, List, []}
use Rattle.std.proofs.Common.{◌∷◌, Option, None, Some, length, slice_index, take, drop, sym, subst, arith}
use Rattle.std.proofs.lemmas.Bool.Decides.{nat_tests}
use Rattle.std.proofs.lemmas.List.{drop-drop, take_all}
use Rattle.std.proofs.lemmas.Nat.{mul-le}
use Rattle.std.proofs.Math.Seq.{take-add}
use Rattle.gp0_words.specs.Kinds.{first_len_of}
use Rattle.gp0_words.specs.Next.{IsPending}
use Rattle.gp0_words.specs.declared.pending.Pending.{Pending}
use Rattle.gp0_words.specs.declared.pending.Pending.TheVariants as pending
use Rattle.gp1_status.specs.Registers.{Registers, KeepsWidths, bit_of}
use Rattle.gp1_status.specs.Words.{words_of}
use Rattle.gp1_status.proofs.WordsBack.{words-allowed}
use Rattle.gpu_capture.specs.Whole.{AreWords}
use Rattle.gpu_core.specs.Kept.{IsJob, IsLinked, IsOpen}
use Rattle.list_dma.specs.Plans.{IsRun}
use Rattle.list_dma.specs.declared.run.Run.{Run}
use Rattle.list_dma.specs.declared.run.Run.TheVariants as run
use Rattle.ot_clear_dma.specs.Ram.{word_at, memory_words}
use Rattle.px_num.specs.Height.{IsHeight}
use Rattle.vram_copy.specs.declared.transfer.Transfer.{Transfer}
use Rattle.event_play.specs.RigState.{RigState}
use Rattle.snapshot_words.specs.Outline.{AreCells, outline_words}
use Rattle.snapshot_words.specs.Values.{front_words, job_words, pending_words, store_words, run_words}
use Rattle.snapshot_words.specs.declared.outline.Outline.{Outline}
use Rattle.capture_cut.specs.File.{IsWritable, outline_of}
use Rattle.capture_cut.proofs.Words.{ram_word}

-- ---- cells

pub cells_each : (cells : List ℕ) → ((k : ℕ) → slice_index cells k < 2 ^ 16) → AreCells cells
cells_each [] each = tt
cells_each (cell ∷ cells) each = (each 0, cells_each cells (λ k. each (suc k)))

cells_both : (a b : List ℕ) → AreCells a → AreCells b → AreCells (a ++ b)
cells_both [] b first next = next
cells_both (cell ∷ a) b first next = (first.0, cells_both a b first.1 next)

-- k cells from index `start` on, then n more
pub cells_on : (m : List ℕ) (start k n : ℕ) → AreCells (take k (drop start m)) → AreCells (take n (drop (start + k) m))
    → AreCells (take (k + n) (drop start m))
cells_on m start k n first next =
    let Next : List ℕ → Type 0 = λ cells. AreCells (take n cells) in
    subst AreCells (sym (take-add k n (drop start m)))
    (cells_both (take k (drop start m)) (take n (drop k (drop start m))) first
    (subst Next (sym (drop-drop k start m)) next))

-- the same if these n cells were loaded as lanes
pub cells_next : (m lanes : List ℕ) (start k next n : ℕ) → AreCells (take k (drop start m))
    → lanes ≡ take n (drop (start + k) m) → ((j : ℕ) → slice_index lanes j < 2 ^ 16) → next ≡ k + n
    → AreCells (take next (drop start m))
cells_next m lanes start k next n first loaded each is =
    let Upto : ℕ → Type 0 = λ count. AreCells (take count (drop start m)) in
    subst Upto (sym is) (cells_on m start k n first (subst AreCells loaded (cells_each lanes each)))

pub cells_whole : (m : List ℕ) (k n : ℕ) → AreCells (take k m) → k ≡ n → AreCells (take n m)
cells_whole m k n are is = let Upto : ℕ → Type 0 = λ count. AreCells (take count m) in subst Upto is are

-- all cells, if there are at most k
pub cells_all : (m : List ℕ) (k : ℕ) → AreCells (take k m) → length m ≤ k → AreCells m
cells_all m k are le = subst AreCells (take_all k m le) are

-- one more row of 1,024 cells
pub cells_row : (m : List ℕ) (k next : ℕ) → AreCells (take k m) → AreCells (take 1024 (drop k m)) → next ≡ k + 1024
    → AreCells (take next m)
cells_row m k next first row is =
    let Upto : ℕ → Type 0 = λ count. AreCells (take count m) in
    subst Upto (sym is)
    (subst AreCells (sym (take-add k 1024 m)) (cells_both (take k m) (take 1024 (drop k m)) first row))

-- ---- words

words_each : (words : List ℕ) → ((k : ℕ) → k < length words → slice_index words k < 2 ^ 32) → AreWords words
words_each [] each = tt
words_each (word ∷ words) each =
    (each 0 (omega arith), words_each words (λ k lt. each (suc k) (omega (arith, lt))))

all_words : (words : List ℕ) → ((k : ℕ) → slice_index words k < 2 ^ 32) → AreWords words
all_words words each = words_each words (λ k lt. each k)

words_both : (a b : List ℕ) → AreWords a → AreWords b → AreWords (a ++ b)
words_both [] b first next = next
words_both (word ∷ a) b first next = (first.0, words_both a b first.1 next)

ram_fits : (ram : List ℕ) → length ram ≡ memory_words → ((address : ℕ) → word_at ram address < 2 ^ 32) → AreWords ram
ram_fits ram long each =
    let Fits : ℕ → Type 0 = λ word. word < 2 ^ 32 in
    words_each ram (λ k lt. subst Fits (ram_word ram k (omega (arith, lt, long))) (each (4 * k)))

-- ---- values

height_few : (height : ℕ) → IsHeight height → height ≤ 1024
height_few height (inl is) = omega (arith, is)
height_few height (inr is) = omega (arith, is)

bit_few : (b : Bool) → bit_of b ≤ 1
bit_few true = omega arith
bit_few false = omega arith

front_fits : (height played : ℕ) → height ≤ 1024 → played < 2 ^ 63 → AreWords (front_words height played)
front_fits height played tall few = (omega (arith, tall), (omega arith, (omega (arith, few), tt)))

registers_fit : (r : Registers) → KeepsWidths r → r.held < 2 ^ 32 → r.height ≤ 1024 → AreWords (words_of r)
registers_fit r widths held tall =
    let e1 = widths.e1 in
    let window = widths.window in
    let top_left = widths.top_left in
    let bottom_right = widths.bottom_right in
    let offset = widths.offset in
    let mask = widths.mask in
    let irq = bit_few r.irq in
    let off = bit_few r.display_off in
    let direction = widths.direction in
    let start = widths.start in
    let hrange = widths.hrange in
    let vrange = widths.vrange in
    let mode = widths.mode in
    let after : AreWords (r.direction ∷ r.start ∷ r.hrange ∷ r.vrange ∷ r.mode ∷ r.held ∷ []) = (
      omega (arith, direction),
      (
        omega (arith, start, tall),
        (
          omega (arith, hrange),
          (
            omega (arith, vrange),
            (
              omega (
                arith,
                mode,
              ),
              (held, tt),
            ),
          ),
        ),
      ),
    ) in (
      omega (arith, e1),
      (
        omega (arith, window),
        (
          omega (arith, top_left, tall),
          (
            omega (arith, bottom_right, tall),
            (
              omega (arith, offset),
              (omega (arith, mask), (omega (arith, irq, off), after)),
            ),
          ),
        ),
      ),
    )

job_fits : (height : ℕ) (job : Transfer) → height ≤ 1024 → IsJob height job → AreWords (job_words job)
job_fits height job tall is =
    let most : job.w * job.h ≤ 1024 * 512 = mul-le job.w job.h 1024 512 is.w is.h in
    let x = is.x in
    let y = is.y in
    let w = is.w in
    let h = is.h in
    let more = is.more in
    let count : job.at < 2 ^ 32 = omega (arith, more, most) in
    (omega (arith, x), (omega (arith, y, tall), (omega (arith, w), (omega (arith, h), (count, tt)))))

first_most : (w : ℕ) → first_len_of w ≤ 12
first_most w = grind (arith, nat_tests)

-- the words of an incomplete packet
pub packet_fits : (words : List ℕ) → IsPending (pending.Packet words) → ((k : ℕ) → slice_index words k < 2 ^ 32)
    → AreWords (pending_words (pending.Packet words) None)
packet_fits words is each =
    let few = is.1 in
    let most = first_most (slice_index words 0) in
    (omega arith, (omega (arith, few, most), all_words words each))

pending_fits : (height : ℕ) (p : Pending) (load : Option Transfer) → height ≤ 1024 → IsOpen height load
    → AreWords (pending_words p None) → AreWords (pending_words p load)
pending_fits height pending.Idle load tall is are = are
pending_fits height (pending.Packet words) load tall is are = are
pending_fits height (pending.Pixels left) None tall is are = are
pending_fits height (pending.Pixels left) (Some job) tall is are = (omega arith, job_fits height job tall is)
pending_fits height (pending.Poly command color vertex None) load tall is are = are
pending_fits height (pending.Poly command color vertex (Some half)) load tall is are = are

store_fits : (height : ℕ) (store : Option Transfer) → height ≤ 1024 → IsOpen height store → AreWords (store_words store)
store_fits height None tall is = (omega arith, tt)
store_fits height (Some job) tall is = (omega arith, job_fits height job tall is)

run_fits : (r : Run) → IsRun r → AreWords (run_words r)
run_fits run.Idle is = (omega arith, tt)
run_fits (run.Words at left block back to_ram) is =
    let offset = is.0 in
    let most = is.1.1 in
    let widest = is.2.1 in
    let backward = bit_few back in
    let into = bit_few to_ram in (
      omega arith,
      (
        omega (arith, offset),
        (
          omega (arith, most),
          (
            omega (arith, widest),
            (
              omega (arith, backward, into),
              tt,
            ),
          ),
        ),
      ),
    )
run_fits (run.List node) is = (omega arith, (omega (arith, is), tt))

-- ---- an outline

outline_fits : (o : Outline) → o.regs.height ≤ 1024 → o.played < 2 ^ 63 → AreWords (words_of o.regs)
    → IsOpen o.regs.height o.load → IsOpen o.regs.height o.store → IsRun o.run → AreWords (pending_words o.pending None)
    → AreWords (outline_words o)
unfolding outline_words
outline_fits o tall few registers load store running pending =
    let front = front_words o.regs.height o.played in
    words_both (front ++ words_of o.regs ++ pending_words o.pending o.load ++ store_words o.store) (run_words o.run)
    (words_both (front ++ words_of o.regs ++ pending_words o.pending o.load) (store_words o.store)
    (words_both (front ++ words_of o.regs) (pending_words o.pending o.load)
    (words_both front (words_of o.regs) (front_fits o.regs.height o.played tall few) registers)
    (pending_fits o.regs.height o.pending o.load tall load pending))
    (store_fits o.regs.height o.store tall store))
    (run_fits o.run running)

pub rig_writable : (rig : RigState) → rig.played < 2 ^ 63 → KeepsWidths rig.gpu.parts.regs
    → rig.gpu.parts.regs.held < 2 ^ 32 → IsPending rig.gpu.pending → IsLinked rig.gpu.pending rig.gpu.parts.load
    → IsOpen rig.gpu.parts.regs.height rig.gpu.parts.load → IsOpen rig.gpu.parts.regs.height rig.gpu.parts.store
    → IsRun rig.running → AreWords (pending_words rig.gpu.pending None)
    → length rig.gpu.parts.m ≡ 1024 * rig.gpu.parts.regs.height → AreCells rig.gpu.parts.m
    → length rig.ram ≡ memory_words → ((address : ℕ) → word_at rig.ram address < 2 ^ 32) → IsWritable rig
rig_writable rig few widths held pending link load store running words rows cells long each =
    let o = outline_of rig in
    let tall = height_few rig.gpu.parts.regs.height widths.height in
    let registers = registers_fit rig.gpu.parts.regs widths held tall in
    record {
      outline = record {
        few = few;
        height = widths.height;
        bits = words-allowed rig.gpu.parts.regs widths held;
        pending = pending;
        link = link;
        load = load;
        store = store;
        run = running;
      };
      words = outline_fits o tall few registers load store running words;
      memories = record { cells = rows; each = cells; long = long; words = ram_fits rig.ram long each };
    }
