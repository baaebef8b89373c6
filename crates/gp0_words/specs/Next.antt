-- One more word, added to what is pending.
use Rattle.std.specs.Prelude.{◌≡◌, ℕ, ◌-◌, ◌<◌, ◌≤◌, true, false, Option, Some, None, if◌then◌else◌, nat_lt}
use Rattle.std.specs.Prelude.{List, [], ◌∷◌, ◌++◌, length, slice_index}
use Rattle.gp0_words.specs.Kinds.{kind_of, start_len, first_len_of, is_end, is_set}
use Rattle.gp0_words.specs.Sizes.{data_words_of, most_data_words}
use Rattle.gp0_words.specs.declared.kind.Kind.{Kind}
use Rattle.gp0_words.specs.declared.kind.Kind.TheVariants.{Plain, Load, Polyline}
use Rattle.gp0_words.specs.declared.item.Item.{Item}
use Rattle.gp0_words.specs.declared.item.Item.TheVariants.{Whole, Joint, Finish, Pixels}
use Rattle.gp0_words.specs.declared.pending.Pending.{Pending}
use Rattle.gp0_words.specs.declared.pending.Pending.TheVariants as pending

-- what is pending after the first item of a packet
abbrev pub pending_after : Kind → List ℕ → Pending
pending_after (Plain n) words = pending.Idle
pending_after Load words = pending.Pixels (data_words_of (slice_index words 2))
pending_after (Polyline true) words =
    pending.Poly (slice_index words 0) (slice_index words 2) (slice_index words 3) None
pending_after (Polyline false) words =
    pending.Poly (slice_index words 0) (slice_index words 0) (slice_index words 2) None

-- what is pending after the first words of a packet, which may be all of its first item
abbrev pub collected_pending : Kind → List ℕ → Pending
collected_pending kind words =
    if nat_lt (length words) (start_len kind) then pending.Packet words else pending_after kind words

abbrev pub collected_item : Kind → List ℕ → Option Item
collected_item kind words = if nat_lt (length words) (start_len kind) then None else Some (Whole words)

-- what is pending after the word
abbrev pub next_pending : Pending → ℕ → Pending
next_pending pending.Idle word = collected_pending (kind_of word) (word ∷ [])
next_pending (pending.Packet words) word = collected_pending (kind_of (slice_index words 0)) (words ++ word ∷ [])
next_pending (pending.Pixels left) word = if nat_lt 1 left then pending.Pixels (left - 1) else pending.Idle
next_pending (pending.Poly command color vertex None) word =
    if is_end word then pending.Idle else
    (if is_set command 28 then pending.Poly command color vertex (Some word)
    else pending.Poly command command word None)
next_pending (pending.Poly command color vertex (Some half)) word = pending.Poly command half word None

-- the item that the word completes, if any
abbrev pub next_item : Pending → ℕ → Option Item
next_item pending.Idle word = collected_item (kind_of word) (word ∷ [])
next_item (pending.Packet words) word = collected_item (kind_of (slice_index words 0)) (words ++ word ∷ [])
next_item (pending.Pixels left) word = Some (Pixels word)
next_item (pending.Poly command color vertex None) word =
    if is_end word then Some (Finish word) else
    (if is_set command 28 then None else Some (Joint command color vertex command word))
next_item (pending.Poly command color vertex (Some half)) word = Some (Joint command color vertex half word)

-- a polyline's command word
abbrev pub IsPolyline : ℕ → Type 0
IsPolyline command = kind_of command ≡ Polyline (is_set command 28)

-- The bounds that every splitter keeps. Words of an item are not all of it. A load needs at most 1024 * 512 / 2 data
-- words. The colour of an unshaded polyline is its command word. A joint is begun only if the polyline is shaded, by a
-- colour word that is not an end word.
abbrev pub IsPending : Pending → Type 0
IsPending pending.Idle = Unit {0}
IsPending (pending.Packet words) = (0 < length words) × (length words < first_len_of (slice_index words 0))
IsPending (pending.Pixels left) = (0 < left) × (left ≤ most_data_words)
IsPending (pending.Poly command color vertex None) =
    IsPolyline command × (is_set command 28 ≡ false → color ≡ command)
IsPending (pending.Poly command color vertex (Some half)) =
    IsPolyline command × (is_set command 28 ≡ true) × (is_end half ≡ false)

-- how many data words a load still needs
abbrev pub wanted : Pending → ℕ
wanted pending.Idle = 0
wanted (pending.Packet words) = 0
wanted (pending.Pixels left) = left
wanted (pending.Poly command color vertex half) = 0
