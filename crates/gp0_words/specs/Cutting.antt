-- Packets, and the items of packets.
use Rattle.std.specs.Prelude.{◌≡◌, ◌<◌, ◌⊎◌, ℕ, true, false, List, [], ◌∷◌, ◌++◌, length, flat_map, map, slice_index}
use Rattle.gp0_words.specs.Kinds.{kind_of, start_len, is_end}
use Rattle.gp0_words.specs.Sizes.{data_words_of}
use Rattle.gp0_words.specs.Items.{items_of, pending_behind}
use Rattle.gp0_words.specs.declared.kind.Kind.{Kind}
use Rattle.gp0_words.specs.declared.kind.Kind.TheVariants.{Plain, Load, Polyline}
use Rattle.gp0_words.specs.declared.item.Item.{Item}
use Rattle.gp0_words.specs.declared.item.Item.TheVariants.{Whole, Joint, Finish, Pixels}
use Rattle.gp0_words.specs.declared.pending.Pending.TheVariants as pending

-- joints of one word that is not an end word, then an end word
abbrev pub IsFlatTail : List ℕ → Type 0
IsFlatTail [] = ⊥
IsFlatTail (w ∷ []) = is_end w ≡ true
IsFlatTail (w ∷ v ∷ ws) = (is_end w ≡ false) × IsFlatTail (v ∷ ws)

-- joints of a colour and a vertex, the colour not an end word, then an end word
abbrev pub IsShadedTail : List ℕ → Type 0
IsShadedTail [] = ⊥
IsShadedTail (c ∷ []) = is_end c ≡ true
IsShadedTail (c ∷ v ∷ ws) = (is_end c ≡ false) × IsShadedTail ws

-- the words after the first item of a packet
abbrev pub IsTail : Kind → (start more : List ℕ) → Type 0
IsTail (Plain n) start more = more ≡ []
IsTail Load start more = length more ≡ data_words_of (slice_index start 2)
IsTail (Polyline true) start more = IsShadedTail more
IsTail (Polyline false) start more = IsFlatTail more

-- a packet: the words of its first item, and those after it
pub record IsPacket (packet : List ℕ) : Type 0 where
  pub start : List ℕ
  pub more : List ℕ
  pub parts : packet ≡ start ++ more
  pub len : length start ≡ start_len (kind_of (slice_index packet 0))
  pub tail : IsTail (kind_of (slice_index packet 0)) start more

-- A packet is cut off the front: its items come first, and the words after it decide what is pending.
abbrev pub PacketsAreCut : Type 0
PacketsAreCut =
    (packet words : List ℕ) → IsPacket packet →
    (items_of (packet ++ words) ≡ items_of packet ++ items_of words)
    × (pending_behind (packet ++ words) ≡ pending_behind words) × (pending_behind packet ≡ pending.Idle)

-- No packet is a proper prefix of another.
abbrev pub IsPrefixFree : Type 0
IsPrefixFree = (p q a b : List ℕ) → IsPacket p → IsPacket q → p ++ a ≡ q ++ b → p ≡ q

-- ---- the items of one packet

-- a joint from each vertex to the next, all in the command's colour, then the end
abbrev pub flat_tail_items : (command vertex : ℕ) → List ℕ → List Item
flat_tail_items command vertex [] = []
flat_tail_items command vertex (w ∷ []) = Finish w ∷ []
flat_tail_items command vertex (w ∷ v ∷ ws) =
    Joint command command vertex command w ∷ flat_tail_items command w (v ∷ ws)

-- a joint from each colour and vertex to the next, then the end
abbrev pub shaded_tail_items : (command color vertex : ℕ) → List ℕ → List Item
shaded_tail_items command color vertex [] = []
shaded_tail_items command color vertex (c ∷ []) = Finish c ∷ []
shaded_tail_items command color vertex (c ∷ v ∷ ws) =
    Joint command color vertex c v ∷ shaded_tail_items command c v ws

-- after its first item, a plain packet has no item, a load one for each data word, a polyline its joints and its end
abbrev pub items_behind : Kind → (start more : List ℕ) → List Item
items_behind (Plain n) start more = []
items_behind Load start more = map Pixels more
items_behind (Polyline true) start more =
    shaded_tail_items (slice_index start 0) (slice_index start 2) (slice_index start 3) more
items_behind (Polyline false) start more = flat_tail_items (slice_index start 0) (slice_index start 2) more

-- The items of a packet depend on its kind.
abbrev pub PacketsHaveTheirItems : Type 0
PacketsHaveTheirItems =
    (packet : List ℕ) (p : IsPacket packet) →
    items_of packet ≡ Whole p.start ∷ items_behind (kind_of (slice_index packet 0)) p.start p.more

-- ---- every list of words

abbrev pub ArePackets : List (List ℕ) → Type 0
ArePackets [] = Unit {0}
ArePackets (packet ∷ packets) = IsPacket packet × ArePackets packets

-- the words are a proper prefix of a packet
pub record BeginsPacket (words : List ℕ) : Type 0 where
  pub more : List ℕ
  pub some : 0 < length more
  pub packet : IsPacket (words ++ more)

-- the words are packets, one after another, then a proper prefix of one, or nothing
pub record IsCutUp (words : List ℕ) : Type 0 where
  pub packets : List (List ℕ)
  pub rest : List ℕ
  pub parts : words ≡ flat_map (λ packet. packet) packets ++ rest
  pub whole : ArePackets packets
  pub part : (rest ≡ []) ⊎ BeginsPacket rest

-- Every list of words is a sequence of packets, then a proper prefix of one, or nothing.
abbrev pub AllIsCutUp : Type 0
AllIsCutUp = (words : List ℕ) → IsCutUp words
