-- The most store steps of an item and of a read (our own rule), by two tables. The second is finer: no cost in it is
-- above that in the first.
use Rattle.std.specs.Prelude.{ℕ, ◌*◌, Option, None, Some}
use Rattle.gp0_words.specs.declared.item.Item.{Item}
use Rattle.gp0_packets.specs.Packets.{packet_of}
use Rattle.gp0_packets.specs.declared.packet.Packet.{Packet}
use Rattle.gp0_packets.specs.declared.packet.Packet.TheVariants as packet
use Rattle.prim_draw.specs.Costs.{draw_cost, box_cost}
use Rattle.vram_store.specs.Vram.{height_of}
use Rattle.vram_copy.specs.Costs.{fill_cost, copy_cost}
use Rattle.vram_copy.specs.Words.{pixels_next}
use Rattle.vram_copy.specs.declared.transfer.Transfer.{Transfer}
use Rattle.gpu_core.specs.Machine.{Parts, State, new_item, with_page}

-- the cells of the next word of an open transfer
abbrev pub pixels_of : Option Transfer → ℕ
pixels_of None = 0
pixels_of (Some job) = pixels_next job

-- ---- the second table

-- A row of a fill of width w costs w / 16. A chunk of a copy costs 3, or 3 a cell if it writes cells that it reads. A
-- packet that draws costs what its spans and points cost. A data word of a load costs 2 for each cell that it writes, a
-- read 1 for each cell that it returns.
unfoldable pub packet_cost : Parts → Packet → ℕ
packet_cost p (packet.Fill color x y w h) = fill_cost w h
packet_cost p (packet.Copy from to w h) = copy_cost (height_of p.m) from to w h
packet_cost p (packet.Pixels word) = 2 * pixels_of p.load
packet_cost p (packet.Load x y w h) = 0
packet_cost p (packet.Store x y w h) = 0
packet_cost p (packet.Env index value) = 0
packet_cost p (packet.Poly four a b c d shaded textured semi raw clut page) =
    draw_cost (with_page p.regs textured page) (packet.Poly four a b c d shaded textured semi raw clut page)
packet_cost p (packet.Segment a b semi) = draw_cost p.regs (packet.Segment a b semi)
packet_cost p (packet.Rect x y w h color textured semi raw u v clut) =
    draw_cost p.regs (packet.Rect x y w h color textured semi raw u v clut)
packet_cost p packet.Irq = 0
packet_cost p packet.Nop = 0
packet_cost p packet.Finish = 0

abbrev pub item_cost : Parts → Option Item → ℕ
item_cost p None = 0
item_cost p (Some item) = packet_cost p (packet_of p.regs.height item)

-- one word of GP0
unfoldable pub gp0_cost : State → ℕ → ℕ
gp0_cost s word = item_cost s.parts (new_item s.words word)

-- one read
unfoldable pub read_cost : State → ℕ
read_cost s = pixels_of s.parts.store

-- ---- the first table

-- Four a cell. The cells are those of the box of a packet that draws, of the rectangle of a fill or copy, or those that
-- a data word of a load writes or a read returns.
unfoldable pub packet_box_cost : Parts → Packet → ℕ
packet_box_cost p (packet.Fill color x y w h) = 4 * w * h
packet_box_cost p (packet.Copy from to w h) = 4 * w * h
packet_box_cost p (packet.Pixels word) = 4 * pixels_of p.load
packet_box_cost p (packet.Load x y w h) = 0
packet_box_cost p (packet.Store x y w h) = 0
packet_box_cost p (packet.Env index value) = 0
packet_box_cost p (packet.Poly four a b c d shaded textured semi raw clut page) =
    box_cost (with_page p.regs textured page) (packet.Poly four a b c d shaded textured semi raw clut page)
packet_box_cost p (packet.Segment a b semi) = box_cost p.regs (packet.Segment a b semi)
packet_box_cost p (packet.Rect x y w h color textured semi raw u v clut) =
    box_cost p.regs (packet.Rect x y w h color textured semi raw u v clut)
packet_box_cost p packet.Irq = 0
packet_box_cost p packet.Nop = 0
packet_box_cost p packet.Finish = 0

abbrev pub item_box_cost : Parts → Option Item → ℕ
item_box_cost p None = 0
item_box_cost p (Some item) = packet_box_cost p (packet_of p.regs.height item)

-- one word of GP0
unfoldable pub gp0_box_cost : State → ℕ → ℕ
gp0_box_cost s word = item_box_cost s.parts (new_item s.words word)

-- one read
unfoldable pub read_box_cost : State → ℕ
read_box_cost s = 4 * pixels_of s.parts.store
