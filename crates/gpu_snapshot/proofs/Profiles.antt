-- The sizes of the memories of a new machine, with 512 or 1024 rows.
use Rattle.std.proofs.Common.{◌≡◌, ◌*◌, ◌-◌, ◌≤◌, ◌++◌, ℕ, List, length, refl, ap, sym, ◌∙◌, arith, append-nil}
use Rattle.std.proofs.lemmas.List.{length-append, length-replicate}
use Rattle.px_num.specs.Height.{tall_height, short_height}
use Rattle.px_num.specs.Zeros.{zeros}
use Rattle.gpu_core.specs.Kept.{Kept}
use Rattle.gpu_core.specs.Machine.{first_state, tall_state}
use Rattle.ot_clear_dma.specs.Ram as ram
use Rattle.vram_store.specs.Vram.{blank, tall, rows_behind}
use Rattle.event_play.specs.RigState.{RigState, first_rig, Stands}
use Rattle.event_play.specs.Step.{Machine, first_machine, tall_machine}

zeros_long : (n : ℕ) → length (zeros n) ≡ n
unfolding zeros
zeros_long n = length-replicate n 0

blank_long : length blank ≡ 1024 * short_height
unfolding blank
blank_long = zeros_long (1024 * short_height)

pub first_words : length first_rig.ram ≡ 524288
unfolding ram.first_memory
first_words = zeros_long 524288

pub first_rows : length first_rig.gpu.parts.m ≡ 1024 * short_height
unfolding first_state
first_rows = blank_long

-- a machine that a new rig represents
pub first_stands : Stands first_rig first_machine
unfolding first_machine
first_stands = record { gpu = refl; ram = refl; running = refl }

tall_long : (m : List ℕ) → length m ≤ 1024 * tall_height → length (tall m) ≡ 1024 * tall_height
unfolding tall
tall_long m few =
    let after = zeros_long (1024 * tall_height - length m) in
    let both = length-append m (rows_behind tall_height m) in
    omega (arith, after, both, few)

tall_rows : length (tall_machine first_machine).gpu.parts.m ≡ 1024 * tall_height
unfolding first_machine first_state tall_state
tall_rows = tall_long blank (let e = blank_long in omega (arith, e))

same_words : (tall_machine first_machine).ram ≡ first_rig.ram
unfolding first_machine
same_words = refl

-- a rig with 1024 rows that is otherwise new
pub rows_of_tall : (rig : RigState) → Stands rig (tall_machine first_machine)
    → length rig.gpu.parts.m ≡ 1024 * tall_height
rows_of_tall rig stands =
    let cells : Kept → ℕ = λ k. length k.parts.m in sym (ap cells stands.gpu) ∙ tall_rows

pub words_of_tall : (rig : RigState) → Stands rig (tall_machine first_machine) → length rig.ram ≡ 524288
words_of_tall rig stands = ap length (sym stands.ram ∙ same_words) ∙ first_words

pub no_zeros : (m : List ℕ) → m ++ zeros 0 ≡ m
unfolding zeros
no_zeros m = append-nil m

-- the height is set once
tall_again : (m : List ℕ) → tall (tall m) ≡ tall m
unfolding tall
tall_again m =
    let after = zeros_long (1024 * tall_height - length m) in
    let both = length-append m (rows_behind tall_height m) in
    let none : 1024 * tall_height - length (m ++ rows_behind tall_height m) ≡ 0 = omega (arith, after, both) in
    ap (λ n. (m ++ rows_behind tall_height m) ++ zeros n) none
    ∙ no_zeros (m ++ rows_behind tall_height m)

pub tall_twice : (s : Machine) → tall_machine (tall_machine s) ≡ tall_machine s
unfolding tall_state
tall_twice s =
    let with_cells : List ℕ → Machine = λ m. record (tall_machine s) {
      gpu = record (tall_machine s).gpu { parts = record (tall_machine s).gpu.parts { m = m } };
    } in
    ap with_cells (tall_again s.gpu.parts.m)
