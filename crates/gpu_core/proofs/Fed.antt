-- One word for the splitter, on every state with the essential part of a GPU.
use Rattle.std.proofs.Common.{◌≡◌, ℕ, ◌*◌, ◌/◌, Bool, true, false, cond, ◌^◌, [], ◌∷◌, Option, None, refl, ap}
use Rattle.gp0_words.specs.Pushed.{IsPushed}
use Rattle.gp0_words.specs.declared.item.Item.{Item}
use Rattle.gp0_words.specs.declared.item.Item.TheVariants as item
use Rattle.gp0_words.specs.declared.pending.Pending.{Pending}
use Rattle.gp0_packets.specs.Packets.{packet_of, whole_of, environment_of}
use Rattle.gp0_packets.specs.declared.packet.Packet.TheVariants as packet
use Rattle.gp0_words.proofs.Pushes.{register_kind}
use Rattle.gp1_status.specs.Registers.{Registers}
use Rattle.prim_draw.specs.Areas.{area_of}
use Rattle.gpu_core.specs.Area.{note_of}
use Rattle.gpu_core.specs.Cost.{gp0_cost, item_cost, packet_cost, pixels_of}
use Rattle.gpu_core.specs.Kept.{Kept, kept_of}
use Rattle.gpu_core.specs.Machine.{Parts, State, after_gp0, gp0_note, effect_of, after_item, noted, with_pixels}
use Rattle.gpu_core.proofs.States.{new_item-is}

-- the effect, note and cost of the word
pub record IsFed (s : State) (k : Kept) (new : Pending) (event word : ℕ) (r : Option Item) : Type 0 where
  pub feed : kept_of (after_gp0 s word) ≡ record { parts = after_item k.parts r; pending = new }
  pub note : gp0_note s event word ≡ noted k.parts.regs event r
  pub cost : gp0_cost s word ≡ item_cost k.parts r

pub fed : (s : State) (k : Kept) (new : Pending) (event word : ℕ) (r : Option Item) → kept_of s ≡ k
    → IsPushed k.pending new word r
    → IsFed s k new event word r
unfolding after_gp0 gp0_note gp0_cost
fed s k new event word r e push =
    let held = ap (λ (k : Kept). k.pending) e in
    let item = new_item-is s.words word r (push.item s.words held) in
    let rest = push.stands s.words held in
    let parts = ap (λ (k : Kept). k.parts) e in
    record {
      feed = rw (item, rest, parts) refl;
      note = rw (item, parts) refl;
      cost = rw (item, parts) refl;
    }

-- ---- a data word of a load

pub data_effect : (p : Parts) (word : ℕ) → effect_of p (packet_of p.regs.height (item.Pixels word))
    ≡ with_pixels p p.load word
unfolding effect_of
data_effect p word = refl

pub data_cost : (p : Parts) (word : ℕ) → packet_cost p (packet_of p.regs.height (item.Pixels word))
    ≡ 2 * pixels_of p.load
unfolding packet_cost
data_cost p word = refl

pub data_note : (r : Registers) (event word : ℕ) → note_of r event (item.Pixels word)
    ≡ record { event = event; class = 9; head = word; area = None }
unfolding area_of
data_note r event word = refl

-- ---- a register's word

pub register_packet : (height word : ℕ) → word / 2 ^ 29 ≡ 7 → packet_of height (item.Whole (word ∷ []))
    ≡ environment_of word
unfolding whole_of
register_packet height word class = rw (register_kind word class, class) refl

no_area : (r : Registers) (b : Bool) (index value : ℕ) → area_of r (cond b (packet.Env index value) packet.Nop) ≡ None
unfolding area_of
no_area r true index value = refl
no_area r false index value = refl

environment_area : (r : Registers) (word : ℕ) → area_of r (environment_of word) ≡ None
unfolding environment_of
environment_area r word = no_area r _ _ _

pub register_note : (r : Registers) (event word : ℕ) → word / 2 ^ 29 ≡ 7
    → note_of r event (item.Whole (word ∷ [])) ≡ record { event = event; class = 7; head = word; area = None }
register_note r event word class = rw (register_packet r.height word class, environment_area r word, class) refl
