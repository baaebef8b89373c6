-- Polygons, lines and rectangles are the packets of their words, and draw.
use Rattle.std.proofs.Common.{◌≡◌, ℕ, ◌==◌, true, false, List, length, slice_index, refl, sym, subst, ◌∙◌}
use Rattle.std.proofs.Common.{arith}
use Rattle.std.proofs.lemmas.Bool.{cond_both}
use Rattle.std.proofs.lemmas.Bool.Decides.{nat_tests}
use Rattle.gp0_words.specs.Kinds.{first_len_of, is_set}
use Rattle.gp0_words.specs.declared.item.Item.TheVariants.{Whole}
use Rattle.gp0_packets.specs.Drawn.{IsDrawn, IsDrawnBy, IsOfClass}
use Rattle.gp0_packets.specs.Packets.{line_of, packet_of, polygon_of, rectangle_of, whole_of}
use Rattle.gp0_packets.specs.Ranges.{IsInRange}
use Rattle.gp0_packets.specs.declared.packet.Packet.{Packet}

whole_words : (class height : ℕ) (words : List ℕ) → IsOfClass class words
    → whole_of height words ≡ packet_of height (Whole words)
whole_words class height words of =
    let some : (length words == 0) ≡ false = let lt = of.some in grind (arith, nat_tests, lt) in
    let len : (length words == first_len_of (slice_index words 0)) ≡ true =
    let same = of.len in grind (arith, nat_tests, same) in
    rw (some, len) refl

-- a packet that draws, and is that of the words at every height
drawn_by : (class : ℕ) (words : List ℕ) (own found : Packet) → IsOfClass class words
    → ((height : ℕ) → own ≡ whole_of height words) → IsDrawn own → found ≡ own
    → ((height : ℕ) → IsInRange height found) → IsDrawnBy words found
drawn_by class words own found of whole drawn value ranges = record {
  is = λ height. value ∙ whole height ∙ whole_words class height words of;
  ranges = ranges;
  drawn = subst IsDrawn (sym value) drawn;
}

drawn-polygon : (words : List ℕ) → IsDrawn (polygon_of words)
unfolding polygon_of
drawn-polygon words = tt

drawn-line : (words : List ℕ) → IsDrawn (line_of words)
unfolding line_of
drawn-line words = cond_both (is_set (slice_index words 0) 28) _ _ IsDrawn (λ e. tt) (λ e. tt)

drawn-rectangle : (words : List ℕ) → IsDrawn (rectangle_of words)
unfolding rectangle_of
drawn-rectangle words = tt

whole-polygon : (words : List ℕ) → IsOfClass 1 words → (height : ℕ) → polygon_of words ≡ whole_of height words
unfolding whole_of
whole-polygon words of height = rw of.is refl

whole-line : (words : List ℕ) → IsOfClass 2 words → (height : ℕ) → line_of words ≡ whole_of height words
unfolding whole_of
whole-line words of height = rw of.is refl

whole-rectangle : (words : List ℕ) → IsOfClass 3 words → (height : ℕ) → rectangle_of words ≡ whole_of height words
unfolding whole_of
whole-rectangle words of height = rw of.is refl

pub polygon_drawn : (words : List ℕ) (found : Packet) → IsOfClass 1 words → found ≡ polygon_of words
    → ((height : ℕ) → IsInRange height found) → IsDrawnBy words found
polygon_drawn words found of = drawn_by 1 words _ found of (whole-polygon words of) (drawn-polygon words)

pub line_drawn : (words : List ℕ) (found : Packet) → IsOfClass 2 words → found ≡ line_of words
    → ((height : ℕ) → IsInRange height found) → IsDrawnBy words found
line_drawn words found of = drawn_by 2 words _ found of (whole-line words of) (drawn-line words)

pub rectangle_drawn : (words : List ℕ) (found : Packet) → IsOfClass 3 words → found ≡ rectangle_of words
    → ((height : ℕ) → IsInRange height found) → IsDrawnBy words found
rectangle_drawn words found of = drawn_by 3 words _ found of (whole-rectangle words of) (drawn-rectangle words)
