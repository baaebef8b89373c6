-- The control of a state changes in the same way whatever the cells are.
use Rattle.std.proofs.Common.{◌≡◌, ◌==◌, ◌&&◌, leb, ℕ, List, [], ◌∷◌, Option, None, Some, Bool, true, false, cond}
use Rattle.std.proofs.Common.{refl, sym, ap, ◌∙◌, subst}
use Rattle.gp0_words.specs.Items.{pending_behind}
use Rattle.gp0_words.specs.Next.{next_item, next_pending}
use Rattle.gp0_words.specs.declared.item.Item.{Item}
use Rattle.gp0_words.specs.declared.pending.Pending.{Pending}
use Rattle.gp0_words.specs.declared.pending.Pending.TheVariants as pending
use Rattle.gp0_words.proofs.Cut.{pending_behind-push}
use Rattle.gp0_packets.specs.Packets.{packet_of}
use Rattle.gp0_packets.specs.declared.packet.Packet.{Packet}
use Rattle.gp0_packets.specs.declared.packet.Packet.TheVariants as packet
use Rattle.gp1_status.specs.Registers.{Registers, env_of, gp1_of, is_clearing, opcode_of}
use Rattle.gpu_capture.specs.declared.event.Event.{Event}
use Rattle.gpu_capture.specs.declared.event.Event.TheVariants as event
use Rattle.gpu_core.specs.Machine.{Parts, State, after_gp0, after_gp1, after_read, effect_of, after_item, cleared}
use Rattle.gpu_core.specs.Machine.{new_item, taken_from}
use Rattle.gpu_core.specs.Machine.{with_page, with_pixels}
use Rattle.vram_copy.specs.declared.transfer.Transfer.{Transfer}
use Rattle.dead_drawing.specs.Control.{Control, regs_after, regs_by, controlled, controls}
use Rattle.dead_drawing.specs.Run.{after, run}
use Rattle.dead_drawing.proofs.Events.{new_is}

-- The registers are the same except for the latch.
abbrev pub IsButLatch : Registers → Registers → Type 0
IsButLatch r now = now ≡ record r { held = now.held }

pub record Tracks (c : Control) (s : State) : Type 0 where
  pub regs : IsButLatch c.regs s.parts.regs
  pub pending : pending_behind s.words ≡ c.pending

held_cond : (b : Bool) (q q_now r r_now : Registers) → IsButLatch q q_now → IsButLatch r r_now
    → IsButLatch (cond b q r) (cond b q_now r_now)
held_cond true q q_now r r_now e f = e
held_cond false q q_now r r_now e f = f

-- ---- packets

env_latch : (r : Registers) (latch index value : ℕ)
    → IsButLatch (env_of r index value) (env_of (record r { held = latch }) index value)
env_latch r latch index value =
    held_cond (index == 1) _ _ _ _ refl
    (held_cond (index == 2) _ _ _ _ refl
    (held_cond (index == 3) _ _ _ _ refl
    (held_cond (index == 4) _ _ _ _ refl (held_cond (index == 5) _ _ _ _ refl refl))))

page_latch : (r : Registers) (latch : ℕ) (textured : Bool) (page : ℕ)
    → IsButLatch (with_page r textured page) (with_page (record r { held = latch }) textured page)
page_latch r latch true page = refl
page_latch r latch false page = refl

after_latch : (r : Registers) (latch : ℕ) (what : Packet)
    → IsButLatch (regs_after r what) (regs_after (record r { held = latch }) what)
after_latch r latch (packet.Env index value) = env_latch r latch index value
after_latch r latch packet.Irq = refl
after_latch r latch (packet.Poly four a b c d shaded textured semi raw clut page) = page_latch r latch textured page
after_latch r latch (packet.Segment a b semi) = refl
after_latch r latch (packet.Rect x y w h color textured semi raw u v clut) = refl
after_latch r latch (packet.Fill color x y w h) = refl
after_latch r latch (packet.Copy from to w h) = refl
after_latch r latch (packet.Load x y w h) = refl
after_latch r latch (packet.Store x y w h) = refl
after_latch r latch (packet.Pixels word) = refl
after_latch r latch packet.Nop = refl
after_latch r latch packet.Finish = refl

by_latch : (r : Registers) (latch : ℕ) (item : Option Item)
    → IsButLatch (regs_by r item) (regs_by (record r { held = latch }) item)
by_latch r latch None = refl
by_latch r latch (Some item) = after_latch r latch (packet_of r.height item)

pixels_regs : (p : Parts) (job : Option Transfer) (word : ℕ) → (with_pixels p job word).regs ≡ p.regs
pixels_regs p None word = refl
pixels_regs p (Some job) word = refl

effect_regs : (p : Parts) (what : Packet) → (effect_of p what).regs ≡ regs_after p.regs what
unfolding effect_of
effect_regs p (packet.Env index value) = refl
effect_regs p packet.Irq = refl
effect_regs p (packet.Poly four a b c d shaded textured semi raw clut page) = refl
effect_regs p (packet.Segment a b semi) = refl
effect_regs p (packet.Rect x y w h color textured semi raw u v clut) = refl
effect_regs p (packet.Fill color x y w h) = refl
effect_regs p (packet.Copy from to w h) = refl
effect_regs p (packet.Load x y w h) = refl
effect_regs p (packet.Store x y w h) = refl
effect_regs p (packet.Pixels word) = pixels_regs p p.load word
effect_regs p packet.Nop = refl
effect_regs p packet.Finish = refl

item_regs : (p : Parts) (item : Option Item) → (after_item p item).regs ≡ regs_by p.regs item
item_regs p None = refl
item_regs p (Some item) = effect_regs p (packet_of p.regs.height item)

feed_tracks : (c : Control) (s : State) (word : ℕ) → Tracks c s
    → Tracks (controlled c (event.Gp0 word)) (after_gp0 s word)
unfolding controlled after_gp0
feed_tracks c s word h =
    let same : new_item s.words word ≡ next_item c.pending word = new_is s.words word
    ∙ ap (λ (p : Pending). next_item p word) h.pending in
    let now : (after_item s.parts (new_item s.words word)).regs ≡ regs_by (record c.regs { held = s.parts.regs.held })
    (next_item c.pending word) =
    ap (λ (item : Option Item). (after_item s.parts item).regs) same ∙ item_regs s.parts (next_item c.pending word)
    ∙ ap (λ (r : Registers). regs_by r (next_item c.pending word)) h.regs in
    record {
      regs = subst (IsButLatch (regs_by c.regs (next_item c.pending word))) (sym now)
          (by_latch c.regs s.parts.regs.held (next_item c.pending word));
      pending = pending_behind-push s.words word ∙ ap (λ (p : Pending). next_pending p word) h.pending;
    }

-- ---- the other events

gp1_latch : (r : Registers) (latch word : ℕ) → IsButLatch (gp1_of r word) (gp1_of (record r { held = latch }) word)
gp1_latch r latch word =
    held_cond (opcode_of word == 0x00) _ _ _ _ refl
    (held_cond (opcode_of word == 0x02) _ _ _ _ refl
    (held_cond (opcode_of word == 0x03) _ _ _ _ refl
    (held_cond (opcode_of word == 0x04) _ _ _ _ refl
    (held_cond (opcode_of word == 0x05) _ _ _ _ refl
    (held_cond (opcode_of word == 0x06) _ _ _ _ refl
    (held_cond (opcode_of word == 0x07) _ _ _ _ refl
    (held_cond (opcode_of word == 0x08) _ _ _ _ refl
    (held_cond
    (leb 0x10 (opcode_of word) && leb
    (opcode_of word) 0x1f) _ _ _ _ refl refl))))))))

gp1_tracks : (c : Control) (s : State) (word : ℕ) → Tracks c s
    → Tracks (controlled c (event.Gp1 word)) (after_gp1 s word)
unfolding controlled after_gp1 pending_behind
gp1_tracks c s word h = by_test (is_clearing word)
  where
    regs : IsButLatch (gp1_of c.regs word) (gp1_of s.parts.regs word)
    regs = subst (λ (r : Registers). IsButLatch (gp1_of c.regs word) (gp1_of r word)) (sym h.regs)
        (gp1_latch c.regs s.parts.regs.held word)

    by_test : (b : Bool) → Tracks (record { regs = gp1_of c.regs word; pending = cond b pending.Idle c.pending })
        (cond b (record { parts = cleared (record s.parts { regs = gp1_of s.parts.regs word }); words = [] })
        (record { parts = record s.parts { regs = gp1_of s.parts.regs word }; words = s.words }))
    by_test true = record { regs = regs; pending = refl }
    by_test false = record { regs = regs; pending = h.pending }

taken_latch : (r : Registers) (p : Parts) (job : Option Transfer) → IsButLatch r p.regs
    → IsButLatch r (taken_from p job).parts.regs
taken_latch r p None e = e
taken_latch r p (Some job) e = ap (λ (q : Registers). record q { held = (taken_from p (Some job)).word }) e

pub event_tracks : (c : Control) (s : State) (e : Event) → Tracks c s → Tracks (controlled c e) (after s e)
unfolding controlled after after_read
event_tracks c s (event.Gp0 word) h = feed_tracks c s word h
event_tracks c s (event.Gp1 word) h = gp1_tracks c s word h
event_tracks c s event.Read h = record { regs = taken_latch c.regs s.parts s.parts.store h.regs; pending = h.pending }
event_tracks c s event.Skip h = record { regs = taken_latch c.regs s.parts s.parts.store h.regs; pending = h.pending }
event_tracks c s event.Stat h = h
event_tracks c s (event.Ram address word) h = h
event_tracks c s (event.Dma channel madr bcr chcr) h = h
event_tracks c s (event.Begin madr bcr chcr) h = h
event_tracks c s event.Turn h = h

pub run_tracks : (events : List Event) (c : Control) (s : State) → Tracks c s
    → Tracks (controls events c) (run s events)
run_tracks [] c s h = h
run_tracks (e ∷ events) c s h = run_tracks events (controlled c e) (after s e) (event_tracks c s e h)
