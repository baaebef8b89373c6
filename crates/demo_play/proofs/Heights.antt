-- Words of GP0 keep the height of video memory.
use Rattle.std.proofs.Common.{◌≡◌, ◌==◌, ℕ, Bool, true, false, Option, Some, None, if◌then◌else◌, refl}
use Rattle.gp0_words.specs.declared.item.Item.{Item}
use Rattle.gp0_packets.specs.Packets.{packet_of}
use Rattle.gp0_packets.specs.declared.packet.Packet.{Packet}
use Rattle.gp0_packets.specs.declared.packet.Packet.TheVariants as packet
use Rattle.gp1_status.specs.Registers.{Registers, env_of}
use Rattle.gpu_core.specs.Machine.{Parts, State, effect_of, after_gp0, with_page, with_pixels, after_item, new_item}

either_height : (b : Bool) (r s : Registers) (height : ℕ) → r.height ≡ height → s.height ≡ height
    → (if b then r else s).height ≡ height
either_height true r s height one other = one
either_height false r s height one other = other

env_height : (r : Registers) (index value : ℕ) → (env_of r index value).height ≡ r.height
env_height r index value =
    either_height (index == 1) _ _ _ refl
    (either_height (index == 2) _ _ _ refl
    (either_height (index == 3) _ _ _ refl (either_height (index == 4) _ _ _ refl
    (either_height (index == 5) _ _ _ refl refl))))

page_height : (r : Registers) (textured : Bool) (page : ℕ) → (with_page r textured page).height ≡ r.height
page_height r true page = refl
page_height r false page = refl

pixels_height : (p : Parts) (word : ℕ) → (with_pixels p p.load word).regs.height ≡ p.regs.height
pixels_height p word =
    elim p.load as (λ load. (with_pixels p load word).regs.height ≡ p.regs.height) [ None ↦ refl | Some job ↦ refl ]

effect_height : (p : Parts) (what : Packet) → (effect_of p what).regs.height ≡ p.regs.height
unfolding effect_of
effect_height p (packet.Pixels word) = pixels_height p word
effect_height p (packet.Env index value) = env_height p.regs index value
effect_height p (packet.Poly four a b c d shaded textured semi raw clut page) = page_height p.regs textured page
effect_height p what = refl

item_height : (p : Parts) (new : Option Item) → (after_item p new).regs.height ≡ p.regs.height
item_height p None = refl
item_height p (Some item) = effect_height p (packet_of p.regs.height item)

pub feed_height : (s : State) (word : ℕ) → (after_gp0 s word).parts.regs.height ≡ s.parts.regs.height
unfolding after_gp0
feed_height s word = item_height s.parts (new_item s.words word)
