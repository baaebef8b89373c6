-- Packets that draw: polygons, lines and rectangles.
use Rattle.std.specs.Prelude.{ℕ, ◌≡◌, ◌<◌, List, length, slice_index}
use Rattle.gp0_words.specs.Kinds.{class_of, first_len_of}
use Rattle.gp0_words.specs.declared.item.Item.TheVariants.{Whole}
use Rattle.gp0_packets.specs.Packets.{packet_of}
use Rattle.gp0_packets.specs.Ranges.{IsInRange}
use Rattle.gp0_packets.specs.declared.packet.Packet.{Packet}
use Rattle.gp0_packets.specs.declared.packet.Packet.TheVariants as packet

-- a polygon, a line or a rectangle
abbrev pub IsDrawn : Packet → Type 0
IsDrawn (packet.Poly four a b c d shaded textured semi raw clut page) = Unit {0}
IsDrawn (packet.Segment a b semi) = Unit {0}
IsDrawn (packet.Rect x y w h color textured semi raw u v clut) = Unit {0}
IsDrawn other = ⊥

-- words of a packet of this class, as many as the first word requires
pub record IsOfClass (class : ℕ) (words : List ℕ) : Type 0 where
  pub some : 0 < length words
  pub is : class_of (slice_index words 0) ≡ class
  pub len : length words ≡ first_len_of (slice_index words 0)

-- these words are this packet at every height of video memory, and it is one that draws
pub record IsDrawnBy (words : List ℕ) (found : Packet) : Type 0 where
  pub is : (height : ℕ) → found ≡ packet_of height (Whole words)
  pub ranges : (height : ℕ) → IsInRange height found
  pub drawn : IsDrawn found
