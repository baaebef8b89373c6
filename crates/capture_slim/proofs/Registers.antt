-- Words of registers, and words inside a packet.
use Rattle.std.proofs.Common.{◌≡◌, ◌/◌, ◌^◌, ℕ, [], ◌∷◌, Option, None, Some, Bool, true, false, cond, refl, ap, sym}
use Rattle.std.proofs.Common.{◌∙◌}
use Rattle.gp0_words.specs.Pushed.{IsPushed}
use Rattle.gp0_words.specs.declared.item.Item.{Item}
use Rattle.gp0_words.specs.declared.item.Item.TheVariants as item
use Rattle.gp0_words.specs.declared.pending.Pending.{Pending}
use Rattle.gp0_packets.specs.Packets.{environment_of}
use Rattle.gp0_packets.specs.declared.packet.Packet.TheVariants as packet
use Rattle.gp1_status.specs.Registers.{Registers}
use Rattle.gpu_capture.specs.declared.event.Event.TheVariants as event
use Rattle.gpu_core.proofs.Fed.{register_packet}
use Rattle.prim_draw.specs.Areas.{area_of}
use Rattle.dead_drawing.specs.Control.{Control, controlled, regs_after}
use Rattle.capture_slim.specs.Effect.{packet_effect, event_effect, item_effect}
use Rattle.capture_slim.specs.Telling.{area_at, area_by}
use Rattle.capture_slim.specs.declared.effect.Effect.TheVariants.{Nothing}

effect_of : (b : Bool) (i v : ℕ) → packet_effect (cond b (packet.Env i v) packet.Nop) ≡ Nothing
effect_of true i v = refl
effect_of false i v = refl

environment_effect : (word : ℕ) → packet_effect (environment_of word) ≡ Nothing
unfolding environment_of
environment_effect word = effect_of _ _ _

area_none : (r : Registers) (b : Bool) (i v : ℕ) → area_of r (cond b (packet.Env i v) packet.Nop) ≡ None
unfolding area_of
area_none r true i v = refl
area_none r false i v = refl

environment_area : (r : Registers) (word : ℕ) → area_of r (environment_of word) ≡ None
unfolding environment_of
environment_area r word = area_none r _ _ _

-- the effect of a word by the item that it completes
pub record ReadsNothing (c : Control) (word : ℕ) : Type 0 where
  pub effect : Nothing ≡ event_effect c (event.Gp0 word)
  pub area : None ≡ area_at c (event.Gp0 word)

pub inside_control : (c : Control) (new : Pending) (word : ℕ) → IsPushed c.pending new word None
    → ◌≡◌ {A = Control} (record { regs = c.regs; pending = new }) (controlled c (event.Gp0 word))
unfolding controlled
inside_control c new word push = rw (← push.decided, ← push.pending) refl

-- a word of a register
pub register_no_effect : (c : Control) (word : ℕ) → IsPushed c.pending c.pending word (Some (item.Whole (word ∷ [])))
    → word / 2 ^ 29 ≡ 7
    → ReadsNothing c word
register_no_effect c word push class =
    let is = register_packet c.regs.height word class in
    record {
      effect = sym (environment_effect word) ∙ ap packet_effect (sym is)
          ∙ ap (λ (i : Option Item). item_effect c.regs.height i) push.decided;
      area = sym (environment_area c.regs word) ∙ ap (area_of c.regs) (sym is)
          ∙ ap (λ (i : Option Item). area_by c.regs i) push.decided;
    }

pub register_control : (c : Control) (word : ℕ) → IsPushed c.pending c.pending word (Some (item.Whole (word ∷ [])))
    → word / 2 ^ 29 ≡ 7
    → ◌≡◌ {A = Control} (record { regs = regs_after c.regs (environment_of word); pending = c.pending })
    (controlled c (event.Gp0 word))
unfolding controlled
register_control c word push class =
    rw (← register_packet c.regs.height word class, ← push.decided, ← push.pending) refl
