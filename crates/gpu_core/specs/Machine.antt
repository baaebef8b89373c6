-- The GPU as a state machine. Its state contains all GP0 words since the last clearing (psx-spx, "GPU I/O Ports, DMA
-- Channels, Commands, VRAM", "GPU Memory Transfer Commands").
use Rattle.std.specs.Prelude.{ℕ, Bool, true, false, List, [], ◌∷◌, ◌++◌, Option, Some, None, is_some, if◌then◌else◌}
use Rattle.std.specs.Prelude.{length, slice_get, map}
use Rattle.px_num.specs.Height.{tall_height}
use Rattle.gp0_words.specs.Items.{items_of, pending_behind}
use Rattle.gp0_words.specs.declared.item.Item.{Item}
use Rattle.gp0_words.specs.declared.pending.Pending.{Pending}
use Rattle.gp0_words.specs.declared.pending.Pending.TheVariants as pending
use Rattle.gp0_packets.specs.Packets.{packet_of}
use Rattle.gp0_packets.specs.declared.note.Note.{Note}
use Rattle.gp0_packets.specs.declared.packet.Packet.{Packet}
use Rattle.gp0_packets.specs.declared.packet.Packet.TheVariants as packet
use Rattle.gp1_status.specs.Registers.{Registers, env_of, gp1_of, is_clearing, page_of, reset, status_of}
use Rattle.gpu_taps.specs.Tally.{Reading, reading_after}
use Rattle.prim_draw.specs.Draw.{drawn_packet}
use Rattle.vram_store.specs.Vram.{blank, tall}
use Rattle.vram_copy.specs.Fill.{filled_rectangle}
use Rattle.vram_copy.specs.Copy.{copied_rectangle}
use Rattle.vram_copy.specs.Words.{loaded_word, stored_word, after_word}
use Rattle.vram_copy.specs.declared.transfer.Transfer.{Transfer}
use Rattle.gpu_core.specs.Area.{note_of}

-- everything but the words: video memory, the registers, and the open load and store
pub record Parts : Type 0 where
  pub m : List ℕ
  pub regs : Registers
  pub load : Option Transfer
  pub store : Option Transfer

-- a state: the parts, and all GP0 words since the last clearing
pub record State : Type 0 where
  pub parts : Parts
  pub words : List ℕ

-- zeros, the registers after a reset with latch 0, no transfer and no words
unfoldable pub first_state : State
first_state = record { parts = record { m = blank; regs = reset 0 512; load = None; store = None }; words = [] }

-- the tall profile (our own rule): video memory and the registers have 1024 rows, and everything else stays
abbrev pub tall_parts : Parts → Parts
tall_parts p = record p { m = tall p.m; regs = record p.regs { height = tall_height } }

unfoldable pub tall_state : State → State
tall_state s = record s { parts = tall_parts s.parts }

-- ---- one item

-- a load or store at its first cell
abbrev pub opened : (x y w h : ℕ) → Option Transfer
opened x y w h = Some (record { x = x; y = y; w = w; h = h; at = 0 })

-- the effect of a data word of a load; none if no load is open
abbrev pub with_pixels : Parts → Option Transfer → ℕ → Parts
with_pixels p None word = p
with_pixels p (Some job) word = record p { m = loaded_word p.m p.regs.mask job word; load = after_word job }

-- a textured polygon writes its page attribute into the draw mode, even if nothing of it is drawn
abbrev pub with_page : Registers → Bool → ℕ → Registers
with_page r textured page = if textured then record r { e1 = page_of r.height page r.e1 } else r

-- the registers that a packet is drawn with
abbrev pub drawing_registers : Registers → Packet → Registers
drawing_registers r (packet.Poly four a b c d shaded textured semi raw clut page) = with_page r textured page
drawing_registers r other = r

-- a packet is drawn with these registers, and they stay
abbrev pub drawn : Parts → Registers → Packet → Parts
drawn p r what = record p { m = drawn_packet r what p.m; regs = r }

-- the effect of a packet
unfoldable pub effect_of : Parts → Packet → Parts
effect_of p (packet.Fill color x y w h) =
    record p { m = filled_rectangle p.m (record { x = x; y = y }) (record { w = w; h = h }) color }
effect_of p (packet.Copy from to w h) =
    record p { m = copied_rectangle p.m p.regs.mask (record { from = from; to = to }) (record { w = w; h = h }) }
effect_of p (packet.Load x y w h) = record p { load = opened x y w h }
effect_of p (packet.Store x y w h) = record p { store = opened x y w h }
effect_of p (packet.Pixels word) = with_pixels p p.load word
effect_of p (packet.Env index value) = record p { regs = env_of p.regs index value }
effect_of p packet.Irq = record p { regs = record p.regs { irq = true } }
effect_of p (packet.Poly four a b c d shaded textured semi raw clut page) =
    drawn p (with_page p.regs textured page) (packet.Poly four a b c d shaded textured semi raw clut page)
effect_of p (packet.Segment a b semi) = drawn p p.regs (packet.Segment a b semi)
effect_of p (packet.Rect x y w h color textured semi raw u v clut) =
    drawn p p.regs (packet.Rect x y w h color textured semi raw u v clut)
effect_of p packet.Nop = p
effect_of p packet.Finish = p

-- ---- one word of GP0

-- the item that one more word completes, if any
unfoldable pub new_item : List ℕ → ℕ → Option Item
new_item words word = slice_get (items_of (words ++ word ∷ [])) (length (items_of words))

abbrev pub after_item : Parts → Option Item → Parts
after_item p None = p
after_item p (Some item) = effect_of p (packet_of p.regs.height item)

abbrev pub noted : Registers → (event : ℕ) → Option Item → Option Note
noted r event None = None
noted r event (Some item) = Some (note_of r event item)

-- The word is appended. If the words then have one more item, it takes effect and has a note.
unfoldable pub after_gp0 : State → ℕ → State
after_gp0 s word = record { parts = after_item s.parts (new_item s.words word); words = s.words ++ word ∷ [] }

unfoldable pub gp0_note : State → (event word : ℕ) → Option Note
gp0_note s event word = noted s.parts.regs event (new_item s.words word)

-- the readings of the taps after a note, if there is one
abbrev pub told_option : Option Note → List Reading → List Reading
told_option None readings = readings
told_option (Some note) readings = map (reading_after note) readings

-- ---- GP1, reads and the status word

-- no unfinished packet, load, polyline or store
abbrev pub cleared : Parts → Parts
cleared p = record p { load = None; store = None }

-- the registers change; opcodes 00h and 01h also end what is unfinished
unfoldable pub after_gp1 : State → ℕ → State
after_gp1 s word =
    let parts = record s.parts { regs = gp1_of s.parts.regs word } in
    if is_clearing word then record { parts = cleared parts; words = [] } else record { parts = parts; words = s.words }

pub record Taken : Type 0 where
  pub word : ℕ
  pub parts : Parts

-- A read while a store is open returns its next two cells, which become the latch; the last word closes the store. A
-- read while none is open returns the latch.
abbrev pub taken_from : Parts → Option Transfer → Taken
taken_from p None = record { word = p.regs.held; parts = p }
taken_from p (Some job) =
    let word = stored_word p.m job in
    record { word = word; parts = record p { regs = record p.regs { held = word }; store = after_word job } }

unfoldable pub read_word : State → ℕ
read_word s = (taken_from s.parts s.parts.store).word

unfoldable pub after_read : State → State
after_read s = record { parts = (taken_from s.parts s.parts.store).parts; words = s.words }

-- nothing is pending: every packet is complete
abbrev pub is_idle : Pending → Bool
is_idle pending.Idle = true
is_idle (pending.Packet words) = false
is_idle (pending.Pixels left) = false
is_idle (pending.Poly command color vertex half) = false

unfoldable pub is_idle_state : State → Bool
is_idle_state s = is_idle (pending_behind s.words)

unfoldable pub status_word : State → ℕ
status_word s = status_of s.parts.regs (is_idle_state s) (is_some s.parts.store)
