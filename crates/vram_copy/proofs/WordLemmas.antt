-- Words of two pixels.
use Rattle.std.proofs.Common.{◌≡◌, ◌<◌, ◌≤◌, ◌+◌, ◌-◌, ◌*◌, ◌/◌, ◌%◌, ◌^◌, min, ℕ, List, arith, refl}
use Rattle.std.proofs.lemmas.Nat.{div-mul-add, mod-mul-add}
use Rattle.px_num.specs.declared.shape.Cell.{Cell}
use Rattle.vram_store.specs.Vram.{height_of, at}
use Rattle.vram_copy.specs.Places.{IsPlace}
use Rattle.vram_copy.specs.declared.place.Place.{Place}
use Rattle.vram_copy.specs.declared.transfer.Transfer.{Transfer}
use Rattle.vram_copy.specs.Words.{pixel_cell, stored_word}

-- the cell at a position
pub cell_is : (height : ℕ) (job : Transfer) (place : Place) (i x y : ℕ) → IsPlace job.w place i
    → x ≡ (job.x + place.column) % 1024 → y ≡ (job.y + place.row) % height
    → ◌≡◌ {A = Cell} (record { x = x; y = y }) (pixel_cell height job i)
cell_is height job place i x y is e f =
    let q : i / job.w ≡ place.row = rw is.number (div-mul-add place.row job.w place.column is.column) in
    let r : i % job.w ≡ place.column = rw is.number (mod-mul-add place.row job.w place.column is.column) in
    rw (e, f, q, r) refl

two_left : (n at : ℕ) → at + 1 < n → min 2 (n - at) ≡ 2
two_left n at more = omega arith

one_left : (n at : ℕ) → at < n → n ≤ at + 1 → min 2 (n - at) ≡ 1
one_left n at some last = omega arith

no_more : (n : ℕ) → n + 0 ≡ n
no_more n = omega arith

pub store_two : (height : ℕ) (m : List ℕ) (job : Transfer) (word low high : ℕ) (first second : Cell)
    → height ≡ height_of m
    → first ≡ pixel_cell height job job.at → second ≡ pixel_cell height job (job.at + 1)
    → low ≡ at m first.x first.y → job.at + 1 < job.w * job.h → high ≡ at m second.x second.y
    → word ≡ low + high * 2 ^ 16 → word ≡ stored_word m job
unfolding stored_word
store_two height m job word low high first second rows e f lows more highs joined =
    let twice = two_left (job.w * job.h) job.at more in
    rw (twice, joined, lows, highs, e, f, ← rows, no_more job.at) (omega arith)

pub store_one : (height : ℕ) (m : List ℕ) (job : Transfer) (word low : ℕ) (first : Cell) → height ≡ height_of m
    → first ≡ pixel_cell height job job.at → low ≡ at m first.x first.y
    → job.at < job.w * job.h → job.w * job.h ≤ job.at + 1
    → word ≡ low + 0 * 2 ^ 16 → word ≡ stored_word m job
unfolding stored_word
store_one height m job word low first rows e lows some last joined =
    let once = one_left (job.w * job.h) job.at some last in
    rw (once, joined, lows, e, ← rows, no_more job.at) (omega arith)

-- two pixels further
pub two_on : (width at : ℕ) (first second third : Place) → IsPlace width first at
    → ((i : ℕ) → IsPlace width first i → IsPlace width second (i + 1))
    → ((i : ℕ) → IsPlace width second i → IsPlace width third (i + 1))
    → IsPlace width third (at + 2)
two_on width at first second third is one two =
    let same : at + 1 + 1 ≡ at + 2 = omega arith in
    rw (← same) (two (at + 1) (one at is))
