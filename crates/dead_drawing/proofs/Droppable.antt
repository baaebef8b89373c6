-- Packets that may be dropped.
use Rattle.std.proofs.Common.{◌≡◌, ◌&&◌, ◌||◌, not, eqb, ℕ, List, Bool, true, false, cond, length, slice_index, refl}
use Rattle.std.proofs.Common.{sym, arith}
use Rattle.std.proofs.lemmas.Bool.Decides.{nat_tests}
use Rattle.gp0_words.specs.Kinds.{kind_of, first_len_of, class_of, is_set}
use Rattle.gp0_words.specs.declared.item.Item.TheVariants.{Whole}
use Rattle.gp0_words.specs.declared.kind.Kind.TheVariants.{Plain}
use Rattle.gp0_words.proofs.Cut.{start_len-positive}
use Rattle.gp0_packets.specs.Packets.{packet_of, whole_of, polygon_of, line_of, rectangle_of, segment_of}
use Rattle.gp0_packets.specs.declared.packet.Packet.{Packet}
use Rattle.gpu_core.specs.Machine.{Parts, effect_of}
use Rattle.prim_draw.specs.Draw.{drawn_packet}
use Rattle.dead_drawing.specs.Dead.{is_droppable}

-- which kind of droppable packet this first word starts
pub data Shape (word : ℕ) : Type 0 where
  polygon : class_of word ≡ 1 → is_set word 26 ≡ false → Shape word
  rectangle : class_of word ≡ 3 → is_set word 26 ≡ false → Shape word
  line : class_of word ≡ 2 → is_set word 27 ≡ false → Shape word

shape_by : (word : ℕ) (one three two textured many : Bool) → one ≡ eqb (class_of word) 1
    → three ≡ eqb (class_of word) 3 → two ≡ eqb (class_of word) 2
    → textured ≡ is_set word 26 → many ≡ is_set word 27
    → (((one || three) && not textured) || (two && not many)) ≡ true → Shape word
shape_by word true true true true true e f g h i is = absurd cc
shape_by word true true true true false e f g h i is = line (grind (arith, nat_tests)) (sym i)
shape_by word true true true false true e f g h i is = polygon (grind (arith, nat_tests)) (sym h)
shape_by word true true true false false e f g h i is = polygon (grind (arith, nat_tests)) (sym h)
shape_by word true true false true true e f g h i is = absurd cc
shape_by word true true false true false e f g h i is = absurd cc
shape_by word true true false false true e f g h i is = polygon (grind (arith, nat_tests)) (sym h)
shape_by word true true false false false e f g h i is = polygon (grind (arith, nat_tests)) (sym h)
shape_by word true false true true true e f g h i is = absurd cc
shape_by word true false true true false e f g h i is = line (grind (arith, nat_tests)) (sym i)
shape_by word true false true false true e f g h i is = polygon (grind (arith, nat_tests)) (sym h)
shape_by word true false true false false e f g h i is = polygon (grind (arith, nat_tests)) (sym h)
shape_by word true false false true true e f g h i is = absurd cc
shape_by word true false false true false e f g h i is = absurd cc
shape_by word true false false false true e f g h i is = polygon (grind (arith, nat_tests)) (sym h)
shape_by word true false false false false e f g h i is = polygon (grind (arith, nat_tests)) (sym h)
shape_by word false true true true true e f g h i is = absurd cc
shape_by word false true true true false e f g h i is = line (grind (arith, nat_tests)) (sym i)
shape_by word false true true false true e f g h i is = rectangle (grind (arith, nat_tests)) (sym h)
shape_by word false true true false false e f g h i is = rectangle (grind (arith, nat_tests)) (sym h)
shape_by word false true false true true e f g h i is = absurd cc
shape_by word false true false true false e f g h i is = absurd cc
shape_by word false true false false true e f g h i is = rectangle (grind (arith, nat_tests)) (sym h)
shape_by word false true false false false e f g h i is = rectangle (grind (arith, nat_tests)) (sym h)
shape_by word false false true true true e f g h i is = absurd cc
shape_by word false false true true false e f g h i is = line (grind (arith, nat_tests)) (sym i)
shape_by word false false true false true e f g h i is = absurd cc
shape_by word false false true false false e f g h i is = line (grind (arith, nat_tests)) (sym i)
shape_by word false false false true true e f g h i is = absurd cc
shape_by word false false false true false e f g h i is = absurd cc
shape_by word false false false false true e f g h i is = absurd cc
shape_by word false false false false false e f g h i is = absurd cc

pub shape_of : (word : ℕ) → is_droppable word ≡ true → Shape word
unfolding is_droppable
shape_of word is = shape_by word _ _ _ _ _ refl refl refl refl refl is

-- The packet is one item of `first_len_of word` words.
pub plain_kind : (word : ℕ) → Shape word → kind_of word ≡ Plain (first_len_of word)
plain_kind word (polygon class plain) = rw class refl
plain_kind word (rectangle class plain) = rw class refl
plain_kind word (line class single) = rw (class, single) refl

-- The packet only draws: it changes no register and no transfer.
pub record DrawsOnly (p : Parts) (what : Packet) : Type 0 where
  pub is : effect_of p what ≡ record p { m = drawn_packet p.regs what p.m }

pub polygon_draws : (p : Parts) (words : List ℕ) → is_set (slice_index words 0) 26 ≡ false
    → DrawsOnly p (polygon_of words)
unfolding effect_of polygon_of
polygon_draws p words plain = record { is = rw plain refl }

pub rectangle_draws : (p : Parts) (words : List ℕ) → DrawsOnly p (rectangle_of words)
unfolding effect_of rectangle_of
rectangle_draws p words = record { is = refl }

pub line_draws : (p : Parts) (words : List ℕ) → DrawsOnly p (line_of words)
unfolding effect_of line_of
line_draws p words = by_test (is_set (slice_index words 0) 28)
  where
    by_test : (b : Bool) → DrawsOnly p (cond b
        (segment_of (slice_index words 0) (slice_index words 0) (slice_index words 1) (slice_index words 2)
        (slice_index words 3))
        (segment_of (slice_index words 0) (slice_index words 0) (slice_index words 1) (slice_index words 0)
        (slice_index words 2)))
    by_test true = record { is = refl }
    by_test false = record { is = refl }

pub whole_draws : (p : Parts) (height : ℕ) (words : List ℕ) → Shape (slice_index words 0)
    → DrawsOnly p (whole_of height words)
unfolding whole_of
whole_draws p height words (polygon class plain) = rw class (polygon_draws p words plain)
whole_draws p height words (rectangle class plain) = rw class (rectangle_draws p words)
whole_draws p height words (line class single) = rw class (line_draws p words)

-- the packet that these words are
pub packet_is : (height : ℕ) (words : List ℕ) → length words ≡ first_len_of (slice_index words 0)
    → packet_of height (Whole words) ≡ whole_of height words
packet_is height words whole =
    let some = start_len-positive (slice_index words 0) in
    let not_none : eqb (length words) 0 ≡ false = grind (arith, nat_tests) in
    let all : eqb (length words) (first_len_of (slice_index words 0)) ≡ true = grind (arith, nat_tests) in
    rw (not_none, all) refl
