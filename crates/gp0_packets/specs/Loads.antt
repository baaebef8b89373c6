-- Which packets open a load or contain data of one (psx-spx, "GPU Memory Transfer Commands").
use Rattle.std.specs.Prelude.{◌≡◌, ℕ, ◌+◌, ◌*◌, ◌/◌, List, slice_index}
use Rattle.gp0_words.specs.Kinds.{kind_of}
use Rattle.gp0_words.specs.Sizes.{width_of, height_of, data_words_of}
use Rattle.gp0_words.specs.declared.kind.Kind.{Kind}
use Rattle.gp0_words.specs.declared.kind.Kind.TheVariants.{Plain, Load, Polyline}
use Rattle.gp0_packets.specs.Packets.{load_of, whole_of}
use Rattle.gp0_packets.specs.declared.packet.Packet.{Packet}
use Rattle.gp0_packets.specs.declared.packet.Packet.TheVariants as packet

-- neither opens a load nor is data of one
abbrev pub IsOfNoLoad : Packet → Type 0
IsOfNoLoad (packet.Load x y w h) = ⊥
IsOfNoLoad (packet.Pixels word) = ⊥
IsOfNoLoad packet.Nop = Unit {0}
IsOfNoLoad packet.Irq = Unit {0}
IsOfNoLoad (packet.Fill color x y w h) = Unit {0}
IsOfNoLoad (packet.Poly four a b c d shaded textured semi raw clut page) = Unit {0}
IsOfNoLoad (packet.Segment a b semi) = Unit {0}
IsOfNoLoad (packet.Rect x y w h color textured semi raw u v clut) = Unit {0}
IsOfNoLoad (packet.Copy from to w h) = Unit {0}
IsOfNoLoad (packet.Store x y w h) = Unit {0}
IsOfNoLoad packet.Finish = Unit {0}
IsOfNoLoad (packet.Env index value) = Unit {0}

-- a load that needs as many data words as follow these words
pub record IsLoadOf (height : ℕ) (words : List ℕ) (found : Packet) : Type 0 where
  pub is : found ≡ load_of height words
  pub count : data_words_of (slice_index words 2)
      ≡ (width_of (slice_index words 2) * height_of (slice_index words 2) + 1) / 2

-- the packet opens a load exactly if the kind of its first word is `Load`, and needs as many data words as follow
abbrev pub OpensLoad : (height : ℕ) → Kind → (words : List ℕ) → Packet → Type 0
OpensLoad height (Plain len) words found = IsOfNoLoad found
OpensLoad height Load words found = IsLoadOf height words found
OpensLoad height (Polyline shaded) words found = IsOfNoLoad found

abbrev pub LoadsAreOpened : Type 0
LoadsAreOpened =
    (height : ℕ) (words : List ℕ) → OpensLoad height (kind_of (slice_index words 0)) words (whole_of height words)
