-- A list of words, cut into packets, as items (psx-spx, "GPU Render Line Commands" on polylines, "GPU Memory Transfer
-- Commands" on loads). The end of a packet depends on all words from its first one on.
use Rattle.std.specs.Prelude.{ℕ, zero, suc, ◌+◌, ◌-◌, true, false, Some, None, if◌then◌else◌, nat_lt}
use Rattle.std.specs.Prelude.{List, [], ◌∷◌, ◌++◌, length, take, drop, map, slice_index}
use Rattle.gp0_words.specs.Kinds.{kind_of, start_len, is_end}
use Rattle.gp0_words.specs.Sizes.{data_words_of}
use Rattle.gp0_words.specs.declared.kind.Kind.{Kind}
use Rattle.gp0_words.specs.declared.kind.Kind.TheVariants.{Plain, Load, Polyline}
use Rattle.gp0_words.specs.declared.item.Item.{Item}
use Rattle.gp0_words.specs.declared.item.Item.TheVariants.{Whole, Joint, Finish, Pixels}
use Rattle.gp0_words.specs.declared.pending.Pending.{Pending}
use Rattle.gp0_words.specs.declared.pending.Pending.TheVariants as pending

-- ---- a polyline after its first two vertices

-- joints of one word, up to an end word
abbrev pub flat_joints : (command vertex : ℕ) → List ℕ → List Item
flat_joints command vertex [] = []
flat_joints command vertex (w ∷ ws) =
    if is_end w then Finish w ∷ [] else Joint command command vertex command w ∷ flat_joints command w ws

-- the least length of this part in words, with its end word
abbrev pub flat_need : List ℕ → ℕ
flat_need [] = 1
flat_need (w ∷ ws) = if is_end w then 1 else suc (flat_need ws)

-- what is pending if there is no end word yet
abbrev pub flat_rest : (command vertex : ℕ) → List ℕ → Pending
flat_rest command vertex [] = pending.Poly command command vertex None
flat_rest command vertex (w ∷ ws) = flat_rest command w ws

-- joints of a colour and a vertex, up to an end word instead of a colour
abbrev pub shaded_joints : (command color vertex : ℕ) → List ℕ → List Item
shaded_joints command color vertex [] = []
shaded_joints command color vertex (c ∷ []) = if is_end c then Finish c ∷ [] else []
shaded_joints command color vertex (c ∷ v ∷ ws) =
    if is_end c then Finish c ∷ [] else Joint command color vertex c v ∷ shaded_joints command c v ws

abbrev pub shaded_need : List ℕ → ℕ
shaded_need [] = 1
shaded_need (c ∷ []) = if is_end c then 1 else 2
shaded_need (c ∷ v ∷ ws) = if is_end c then 1 else suc (suc (shaded_need ws))

abbrev pub shaded_rest : (command color vertex : ℕ) → List ℕ → Pending
shaded_rest command color vertex [] = pending.Poly command color vertex None
shaded_rest command color vertex (c ∷ []) = pending.Poly command color vertex (Some c)
shaded_rest command color vertex (c ∷ v ∷ ws) = shaded_rest command c v ws

-- ---- after the first item of a packet of a kind, whose words are `start`

abbrev pub tail_items : Kind → (start more : List ℕ) → List Item
tail_items (Plain n) start more = []
tail_items Load start more = map Pixels (take (data_words_of (slice_index start 2)) more)
tail_items (Polyline true) start more =
    shaded_joints (slice_index start 0) (slice_index start 2) (slice_index start 3) more
tail_items (Polyline false) start more = flat_joints (slice_index start 0) (slice_index start 2) more

-- the least number of these words
abbrev pub tail_need : Kind → (start more : List ℕ) → ℕ
tail_need (Plain n) start more = 0
tail_need Load start more = data_words_of (slice_index start 2)
tail_need (Polyline true) start more = shaded_need more
tail_need (Polyline false) start more = flat_need more

-- what is pending if there are fewer
abbrev pub tail_rest : Kind → (start more : List ℕ) → Pending
tail_rest (Plain n) start more = pending.Idle
tail_rest Load start more = pending.Pixels (data_words_of (slice_index start 2) - length more)
tail_rest (Polyline true) start more =
    shaded_rest (slice_index start 0) (slice_index start 2) (slice_index start 3) more
tail_rest (Polyline false) start more = flat_rest (slice_index start 0) (slice_index start 2) more

-- ---- a packet at the front of a list, of the kind that its first word has

abbrev pub packet_items : Kind → List ℕ → List Item
packet_items kind words =
    if nat_lt (length words) (start_len kind) then [] else
    Whole (take (start_len kind) words) ∷ tail_items kind (take (start_len kind) words) (drop (start_len kind) words)

-- the least length of the packet in words; its exact length if the list has as many words
abbrev pub packet_need : Kind → List ℕ → ℕ
packet_need kind words =
    if nat_lt (length words) (start_len kind) then start_len kind else
    start_len kind + tail_need kind (take (start_len kind) words) (drop (start_len kind) words)

abbrev pub packet_rest : Kind → List ℕ → Pending
packet_rest kind words =
    if nat_lt (length words) (start_len kind) then pending.Packet words else
    tail_rest kind (take (start_len kind) words) (drop (start_len kind) words)

-- ---- the whole list, of which `skip` words belong to a packet that began before it

abbrev pub items_from : (skip : ℕ) → List ℕ → List Item
items_from skip [] = []
items_from zero (w ∷ ws) =
    packet_items (kind_of w) (w ∷ ws) ++ items_from (packet_need (kind_of w) (w ∷ ws) - 1) ws
items_from (suc skip) (w ∷ ws) = items_from skip ws

abbrev pub rest_from : (skip : ℕ) → List ℕ → Pending
rest_from skip [] = pending.Idle
rest_from zero (w ∷ ws) =
    if nat_lt (length (w ∷ ws)) (packet_need (kind_of w) (w ∷ ws)) then packet_rest (kind_of w) (w ∷ ws) else
    rest_from (packet_need (kind_of w) (w ∷ ws) - 1) ws
rest_from (suc skip) (w ∷ ws) = rest_from skip ws

-- the items of a list of words, including the complete items of an incomplete packet
unfoldable pub items_of : List ℕ → List Item
items_of words = items_from 0 words

-- what is pending after the last complete packet
unfoldable pub pending_behind : List ℕ → Pending
pending_behind words = rest_from 0 words

-- nothing is pending: every packet is complete
abbrev pub IsIdle : Pending → Type 0
IsIdle pending.Idle = Unit {0}
IsIdle (pending.Packet words) = ⊥
IsIdle (pending.Pixels left) = ⊥
IsIdle (pending.Poly command color vertex half) = ⊥
