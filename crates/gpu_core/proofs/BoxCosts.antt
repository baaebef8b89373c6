-- No cost in the second table is above that in the first.
use Rattle.std.proofs.Common.{◌≡◌, ◌≤◌, ℕ, ◌*◌, List, Option, None, Some, refl, arith}
use Rattle.gp0_words.specs.declared.item.Item.{Item}
use Rattle.gp0_packets.specs.Packets.{packet_of}
use Rattle.gp0_packets.specs.declared.packet.Packet.{Packet}
use Rattle.gp0_packets.specs.declared.packet.Packet.TheVariants as packet
use Rattle.prim_draw.proofs.CostLemmas.{cost_law}
use Rattle.vram_store.specs.Vram.{height_of}
use Rattle.vram_copy.proofs.CutLemmas.{copies_small, fills_small}
use Rattle.gpu_core.specs.Cost.{gp0_cost, gp0_box_cost, read_cost, read_box_cost, packet_cost, packet_box_cost}
use Rattle.gpu_core.specs.Cost.{item_cost}
use Rattle.gpu_core.specs.Cost.{item_box_cost, pixels_of}
use Rattle.gpu_core.specs.Laws.{CostLaw, NoCellDecides, over_cells}
use Rattle.gpu_core.specs.Machine.{Parts, State, new_item, with_page}

twice : (n : ℕ) → 2 * n ≤ 4 * n
twice n = omega arith

once : (n : ℕ) → n ≤ 4 * n
once n = omega arith

none : 0 ≤ 0
none = omega arith

packet-small : (p : Parts) (q : Packet) → packet_cost p q ≤ packet_box_cost p q
unfolding packet_cost packet_box_cost
packet-small p (packet.Fill color x y w h) = fills_small w h
packet-small p (packet.Copy from to w h) = (copies_small (height_of p.m) from to w h).1
packet-small p (packet.Pixels word) = twice (pixels_of p.load)
packet-small p (packet.Load x y w h) = none
packet-small p (packet.Store x y w h) = none
packet-small p (packet.Env index value) = none
packet-small p (packet.Poly four a b c d shaded textured semi raw clut page) =
    cost_law (with_page p.regs textured page) (packet.Poly four a b c d shaded textured semi raw clut page)
packet-small p (packet.Segment a b semi) = cost_law p.regs (packet.Segment a b semi)
packet-small p (packet.Rect x y w h color textured semi raw u v clut) = cost_law p.regs
    (packet.Rect x y w h color textured semi raw u v clut)
packet-small p packet.Irq = none
packet-small p packet.Nop = none
packet-small p packet.Finish = none

item-small : (p : Parts) (i : Option Item) → item_cost p i ≤ item_box_cost p i
item-small p None = none
item-small p (Some i) = packet-small p (packet_of p.regs.height i)

pub gp0_cost-small : (s : State) (word : ℕ) → gp0_cost s word ≤ gp0_box_cost s word
unfolding gp0_cost gp0_box_cost
gp0_cost-small s word = item-small s.parts (new_item s.words word)

pub read_cost-small : (s : State) → read_cost s ≤ read_box_cost s
unfolding read_cost read_box_cost
read_cost-small s = once (pixels_of s.parts.store)

pub cost_law-is : CostLaw
cost_law-is = record { words = gp0_cost-small; reads = read_cost-small }

-- ---- no cell decides a cost in the first table

packet-cells : (p : Parts) (m : List ℕ) (q : Packet) → packet_box_cost (record p { m = m }) q ≡ packet_box_cost p q
unfolding packet_box_cost
packet-cells p m (packet.Fill color x y w h) = refl
packet-cells p m (packet.Copy from to w h) = refl
packet-cells p m (packet.Pixels word) = refl
packet-cells p m (packet.Load x y w h) = refl
packet-cells p m (packet.Store x y w h) = refl
packet-cells p m (packet.Env index value) = refl
packet-cells p m (packet.Poly four a b c d shaded textured semi raw clut page) = refl
packet-cells p m (packet.Segment a b semi) = refl
packet-cells p m (packet.Rect x y w h color textured semi raw u v clut) = refl
packet-cells p m packet.Irq = refl
packet-cells p m packet.Nop = refl
packet-cells p m packet.Finish = refl

item-cells : (p : Parts) (m : List ℕ) (i : Option Item) → item_box_cost (record p { m = m }) i ≡ item_box_cost p i
item-cells p m None = refl
item-cells p m (Some i) = packet-cells p m (packet_of p.regs.height i)

words-cells : (s : State) (m : List ℕ) (word : ℕ) → gp0_box_cost (over_cells m s) word ≡ gp0_box_cost s word
unfolding gp0_box_cost
words-cells s m word = item-cells s.parts m (new_item s.words word)

reads-cells : (s : State) (m : List ℕ) → read_box_cost (over_cells m s) ≡ read_box_cost s
unfolding read_box_cost
reads-cells s m = refl

pub no_cell-decides : NoCellDecides
no_cell-decides = record { words = words-cells; reads = reads-cells }
