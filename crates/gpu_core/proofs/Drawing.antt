-- The effect of a polygon, a line or a rectangle is that it is drawn.
use Rattle.std.proofs.Common.{◌≡◌, ◌≤◌, ℕ, ◌+◌, List, Option, refl, ap, subst, ◌∙◌}
use Rattle.px_num.specs.declared.shape.Box2.{Box2}
use Rattle.gp0_packets.specs.Drawn.{IsDrawn}
use Rattle.gp0_packets.specs.declared.packet.Packet.{Packet}
use Rattle.gp0_packets.specs.declared.packet.Packet.TheVariants as packet
use Rattle.gp1_status.specs.Registers.{Registers}
use Rattle.prim_draw.specs.Areas.{area_of}
use Rattle.prim_draw.specs.Costs.{draw_cost}
use Rattle.prim_draw.specs.Draw.{drawn_packet}
use Rattle.gpu_core.specs.Cost.{packet_cost}
use Rattle.gpu_core.specs.Done.{IsDone}
use Rattle.gpu_core.specs.Machine.{Parts, drawing_registers, drawn, effect_of}
use Rattle.gpu_core.proofs.Areas.{area_with_page}

record IsDrawing (p : Parts) (q : Packet) : Type 0 where
  pub effect : drawn p (drawing_registers p.regs q) q ≡ effect_of p q
  pub area : area_of (drawing_registers p.regs q) q ≡ area_of p.regs q
  pub cost : draw_cost (drawing_registers p.regs q) q ≡ packet_cost p q

is_drawing : (p : Parts) (q : Packet) → IsDrawn q → IsDrawing p q
unfolding effect_of packet_cost
is_drawing p (packet.Poly four a b c d shaded textured semi raw clut page) is = record {
  effect = refl;
  area = area_with_page p.regs textured page four a b c d shaded textured semi raw clut page;
  cost = refl;
}
is_drawing p (packet.Segment a b semi) is = record { effect = refl; area = refl; cost = refl }
is_drawing p (packet.Rect x y w h color textured semi raw u v clut) is =
    record { effect = refl; area = refl; cost = refl }
is_drawing p packet.Nop is = absurd is
is_drawing p packet.Irq is = absurd is
is_drawing p (packet.Fill color x y w h) is = absurd is
is_drawing p (packet.Copy from to w h) is = absurd is
is_drawing p (packet.Load x y w h) is = absurd is
is_drawing p (packet.Store x y w h) is = absurd is
is_drawing p (packet.Pixels word) is = absurd is
is_drawing p packet.Finish is = absurd is
is_drawing p (packet.Env index value) is = absurd is

pub drawing_done : (p : Parts) (q : Packet) (m : List ℕ) (regs : Registers) (found : Option Box2) (steps steps_now : ℕ)
    → IsDrawn q → regs ≡ drawing_registers p.regs q → m ≡ drawn_packet regs q p.m → found ≡ area_of regs q
    → steps_now ≤ steps + draw_cost regs q
    → IsDone q (record { parts = p; steps = steps })
    (record { parts = record { m = m; regs = regs; load = p.load; store = p.store }; steps = steps_now }) found
drawing_done p q m regs found steps steps_now is_drawn same cells area cost =
    let is = is_drawing p q is_drawn in
    let with_cells : List ℕ → Parts = λ n. record { m = n; regs = regs; load = p.load; store = p.store } in
    let within : ℕ → Type 0 = λ k. steps_now ≤ steps + k in
    record {
      area = area ∙ ap (λ r. area_of r q) same ∙ is.area;
      effect = ap with_cells cells ∙ ap (λ r. drawn p r q) same ∙ is.effect;
      cost = subst within (ap (λ r. draw_cost r q) same ∙ is.cost) cost;
    }
