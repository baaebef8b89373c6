-- Drawing that is never seen: a packet that draws nothing, or whose cells a later fill covers before anything reads
-- them (our own rule).
use Rattle.std.specs.Prelude.{ℕ, zero, suc, ◌+◌, ◌-◌, ◌==◌, ◌&&◌, ◌||◌, Bool, true, false, not, List, [], ◌∷◌}
use Rattle.std.specs.Prelude.{Option, Some, None, if◌then◌else◌, length, drop, map}
use Rattle.std.specs.Int.Signed.{le_z}
use Rattle.px_num.specs.declared.shape.Box2.{Box2}
use Rattle.gp0_words.specs.Kinds.{class_of, first_len_of, is_set}
use Rattle.gp0_words.specs.Next.{next_item}
use Rattle.gp0_words.specs.declared.item.Item.{Item}
use Rattle.gp0_packets.specs.Packets.{packet_of, whole_of}
use Rattle.gp0_packets.specs.declared.packet.Packet.{Packet}
use Rattle.gp0_packets.specs.declared.packet.Packet.TheVariants as packet
use Rattle.gpu_capture.specs.declared.event.Event.{Event}
use Rattle.gpu_capture.specs.declared.event.Event.TheVariants as event
use Rattle.gpu_core.specs.Machine.{is_idle}
use Rattle.prim_draw.specs.Areas.{area_of, moved_box}
use Rattle.dead_drawing.specs.Control.{Control, controlled, controls}

-- the most events from the first word of a packet to the last word of a fill that covers it
abbrev pub window_events : ℕ
window_events = 4096

-- the first word of a polygon or rectangle without texture, or of a single line
unfoldable pub is_droppable : ℕ → Bool
is_droppable word =
    ((class_of word == 1 || class_of word == 3) && not (is_set word 26)) ||
    (class_of word == 2 && not (is_set word 27))

-- ---- a later fill

-- a box contains another
unfoldable pub holds_box : Box2 → Box2 → Bool
holds_box outer inner =
    (le_z outer.x1 inner.x1 && le_z outer.y1 inner.y1) && (le_z inner.x2 outer.x2 && le_z inner.y2 outer.y2)

abbrev pub holds_in : Option Box2 → Box2 → Bool
holds_in None inner = false
holds_in (Some outer) inner = holds_box outer inner

-- a fill whose area contains a box
abbrev pub fills : Packet → Box2 → Bool
fills (packet.Fill color x y w h) area = holds_in (moved_box x y w h) area
fills other area = false

-- the packet samples no texture and is no copy and no store
abbrev pub is_calm : Packet → Bool
is_calm (packet.Poly four a b c d shaded textured semi raw clut page) = not textured
is_calm (packet.Rect x y w h color textured semi raw u v clut) = not textured
is_calm (packet.Copy from to w h) = false
is_calm (packet.Store x y w h) = false
is_calm other = true

abbrev pub fills_by : (height : ℕ) → Option Item → Box2 → Bool
fills_by height None area = false
fills_by height (Some item) area = fills (packet_of height item) area

abbrev pub is_calm_by : (height : ℕ) → Option Item → Bool
is_calm_by height None = true
is_calm_by height (Some item) = is_calm (packet_of height item)

-- the event completes a fill whose area contains a box
abbrev pub fills_at : Control → Event → Box2 → Bool
fills_at c (event.Gp0 word) area = fills_by c.regs.height (next_item c.pending word) area
fills_at c other area = false

-- the event is no read of GPUREAD, and completes no item that reads other cells
abbrev pub is_calm_at : Control → Event → Bool
is_calm_at c (event.Gp0 word) = is_calm_by c.regs.height (next_item c.pending word)
is_calm_at c (event.Gp1 word) = true
is_calm_at c event.Stat = true
is_calm_at c other = false

-- one of the first n events completes a fill whose area contains a box, and those before it read no other cells
abbrev pub is_covered : List Event → Control → ℕ → Box2 → Bool
is_covered [] c n area = false
is_covered (e ∷ events) c zero area = false
is_covered (e ∷ events) c (suc n) area =
    if fills_at c e area then true else (is_calm_at c e && is_covered events (controlled c e) n area)

-- ---- the packet at the front of a list

abbrev pub word_before : ℕ → Option (List ℕ) → Option (List ℕ)
word_before word None = None
word_before word (Some words) = Some (word ∷ words)

-- the words of the first n events if all of these are Gp0 events
abbrev pub words_of : ℕ → List Event → Option (List ℕ)
words_of zero events = Some []
words_of (suc n) [] = None
words_of (suc n) (event.Gp0 word ∷ events) = word_before word (words_of n events)
words_of (suc n) (other ∷ events) = None

-- the words of a droppable packet if one starts at the first event and its words are consecutive events
abbrev pub front : Control → List Event → Option (List ℕ)
front c (event.Gp0 word ∷ events) =
    if is_idle c.pending && is_droppable word then words_of (first_len_of word) (event.Gp0 word ∷ events) else None
front c other = None

-- the area is empty, or one of the next n events covers it
abbrev pub is_hidden : Option Box2 → List Event → Control → ℕ → Bool
is_hidden None following c n = true
is_hidden (Some area) following c n = is_covered following c n area

-- the packet of these words, at the front of the events, is dead
abbrev pub is_dead : Control → List Event → List ℕ → Bool
is_dead c events words =
    is_hidden (area_of c.regs (whole_of c.regs.height words)) (drop (length words) events)
    (controls (map event.Gp0 words) c) (window_events + 1 - length words)

abbrev pub dead_words : Control → List Event → Option (List ℕ) → ℕ
dead_words c events None = 0
dead_words c events (Some words) = if is_dead c events words then length words else 0

-- the number of words of the dead packet at the front of the events, or 0 if there is none
unfoldable pub dead_len : Control → List Event → ℕ
dead_len c events = dead_words c events (front c events)
