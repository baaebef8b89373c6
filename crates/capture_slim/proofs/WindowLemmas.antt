-- Slots updated as events enter the window.
use Rattle.std.proofs.Common.{◌≡◌, ◌+◌, ◌-◌, ltb, ℕ, zero, suc, List, [], ◌∷◌, ◌++◌, Option, Some, None, Bool, true}
use Rattle.std.proofs.Common.{false, cond, length, map, refl, sym, ap, ◌∙◌, arith}
use Rattle.std.proofs.lemmas.Bool.{le-ltb, lt-ltb}
use Rattle.std.proofs.lemmas.List.{length-append}
use Rattle.px_num.specs.declared.shape.Box2.{Box2}
use Rattle.gpu_capture.specs.declared.event.Event.{Event}
use Rattle.gpu_capture.specs.declared.event.Event.TheVariants as event
use Rattle.dead_drawing.specs.Control.{Control, controlled}
use Rattle.dead_drawing.specs.Dead.{fills_at, is_calm_at, is_covered}
use Rattle.capture_slim.specs.declared.slot.Mark.{Mark}
use Rattle.capture_slim.specs.declared.slot.Mark.TheVariants.{Kept, Dropped, Open}
use Rattle.capture_slim.specs.declared.slot.Slot.{Slot}
use Rattle.capture_slim.specs.Window.{settle, settled, kept_words, dropped_words, packet_slots, open_words, out_of}
use Rattle.capture_slim.specs.Window.{resolved}

-- a word that stays, and one that is dropped
abbrev pub word_kept : ℕ → Option Event
word_kept word = Some (event.Gp0 word)

abbrev pub word_gone : ℕ → Option Event
word_gone word = None

pub covered_zero : (following : List Event) (c : Control) (b : Box2) → is_covered following c 0 b ≡ false
covered_zero [] c b = refl
covered_zero (e ∷ following) c b = refl

open_settled : (n age i : ℕ) (x e : Event) (following : List Event) (c : Control) (b : Box2) (fill calm : Bool)
    → fill ≡ fills_at c e b → calm ≡ is_calm_at c e → n ≡ 4096 - (age + i)
    → cond (is_covered (e ∷ following) c n b) None (Some x)
    ≡ out_of x (cond fill (cond (ltb (age + i) 4096) Dropped Kept) (cond calm (Open b i) Kept)) (suc age)
    (controlled c e) following
open_settled zero age i x e following c b true calm f g h = rw (le-ltb (age + i) 4096 (omega (arith, h))) refl
open_settled zero age i x e following c b false true f g h =
    let none : 4096 - (suc age + i) ≡ 0 = omega (arith, h) in
    rw (none, covered_zero following (controlled c e) b) refl
open_settled zero age i x e following c b false false f g h = refl
open_settled (suc n) age i x e following c b true calm f g h = rw (lt-ltb (age + i) 4096 (omega (arith, h)), sym f) refl
open_settled (suc n) age i x e following c b false true f g h =
    let less : 4096 - (suc age + i) ≡ n = omega (arith, h) in
    rw (less, sym f, sym g) refl
open_settled (suc n) age i x e following c b false false f g h = rw (sym f, sym g) refl

mark_settled : (mark : Mark) (age : ℕ) (x e : Event) (following : List Event) (c : Control)
    → out_of x mark age c (e ∷ following) ≡ out_of x (settle mark age c e) (suc age) (controlled c e) following
mark_settled Kept age x e following c = refl
mark_settled Dropped age x e following c = refl
mark_settled (Open b i) age x e following c = open_settled (4096 - (age + i)) age i x e following c b (fills_at c e b)
    (is_calm_at c e) refl refl refl

pub settled_long : (slots : List Slot) (after : ℕ) (c : Control) (e : Event) → length (settled slots after c e)
    ≡ length slots
settled_long [] after c e = refl
settled_long (s ∷ slots) after c e = ap suc (settled_long slots after c e)

-- one more event is known
pub settled_is : (slots : List Slot) (after : ℕ) (c : Control) (e : Event) (following : List Event)
    → resolved slots after c (e ∷ following) ≡ resolved (settled slots after c e) (suc after) (controlled c e) following
settled_is [] after c e following = refl
settled_is (s ∷ slots) after c e following =
    let age : suc (length slots + after) ≡ length (settled slots after c e) + suc after =
    omega (arith, settled_long slots after c e) in
    ap (λ (out : Option Event). out ∷ resolved slots after c (e ∷ following))
    (mark_settled s.mark (length slots + after) s.event e following c
    ∙ ap (λ (n : ℕ). out_of s.event (settle s.mark (length slots + after) c e) n (controlled c e) following) age)
    ∙ ap (λ (outs : List (Option Event)). out_of s.event (settle s.mark (length slots + after) c e)
    (length (settled slots after c e) + suc after) (controlled c e) following ∷ outs)
    (settled_is slots after c e following)

pub resolved_append : (first last : List Slot) (after : ℕ) (c : Control) (following : List Event)
    → resolved (first ++ last) after c following
    ≡ resolved first (length last + after) c following ++ resolved last after c following
resolved_append [] last after c following = refl
resolved_append (s ∷ first) last after c following =
    let age : length (first ++ last) + after ≡ length first + (length last + after) =
    omega (arith, length-append first last) in
    ap (λ (n : ℕ). out_of s.event s.mark n c following ∷ resolved (first ++ last) after c following) age
    ∙ ap (λ (outs : List (Option Event)). out_of s.event s.mark (length first + (length last + after)) c following
    ∷ outs)
    (resolved_append first last after c following)

pub kept_resolved : (words : List ℕ) (after : ℕ) (c : Control) (following : List Event)
    → resolved (kept_words words) after c following ≡ map word_kept words
kept_resolved [] after c following = refl
kept_resolved (w ∷ ws) after c following =
    ap (λ (outs : List (Option Event)). word_kept w ∷ outs) (kept_resolved ws after c following)

pub dropped_resolved : (words : List ℕ) (after : ℕ) (c : Control) (following : List Event)
    → resolved (dropped_words words) after c following ≡ map word_gone words
dropped_resolved [] after c following = refl
dropped_resolved (w ∷ ws) after c following =
    ap (λ (outs : List (Option Event)). None ∷ outs) (dropped_resolved ws after c following)

pub kept_long : (words : List ℕ) → length (kept_words words) ≡ length words
kept_long [] = refl
kept_long (w ∷ ws) = ap suc (kept_long ws)

dropped_long : (words : List ℕ) → length (dropped_words words) ≡ length words
dropped_long [] = refl
dropped_long (w ∷ ws) = ap suc (dropped_long ws)

open_long : (words : List ℕ) (i : ℕ) (b : Box2) → length (open_words words i b) ≡ length words
open_long [] i b = refl
open_long (w ∷ ws) i b = ap suc (open_long ws (suc i) b)

pub packet_slots_long : (words : List ℕ) (area : Option Box2) → length (packet_slots words area) ≡ length words
packet_slots_long words None = dropped_long words
packet_slots_long words (Some b) = open_long words 0 b

-- all words of a packet stay, or all are dropped
pub open_resolved : (words : List ℕ) (i : ℕ) (b : Box2) (c : Control) (following : List Event) (t : Bool)
    → is_covered following c (4097 - (i + length words)) b ≡ t
    → resolved (open_words words i b) 0 c following ≡ cond t (map word_gone words) (map word_kept words)
open_resolved [] i b c following true e = refl
open_resolved [] i b c following false e = refl
open_resolved (w ∷ ws) i b c following t e =
    let count : 4096 - ((length (open_words ws (suc i) b) + 0) + i) ≡ 4097 - (i + length (w ∷ ws)) =
    omega (arith, open_long ws (suc i) b) in
    let next : 4097 - (suc i + length ws) ≡ 4097 - (i + length (w ∷ ws)) = omega arith in
    ap (λ (n : ℕ). cond (is_covered following c n b) None (word_kept w)
    ∷ resolved (open_words ws (suc i) b) 0 c following)
    count
    ∙ ap (λ (u : Bool). cond u None (word_kept w) ∷ resolved (open_words ws (suc i) b) 0 c following) e
    ∙ ap (λ (outs : List (Option Event)). cond t None (word_kept w) ∷ outs)
    (open_resolved ws (suc i) b c following t (ap (λ (n : ℕ). is_covered following c n b) next ∙ e))
    ∙ both t
  where
    both : (u : Bool) → cond u None (word_kept w) ∷ cond u (map word_gone ws) (map word_kept ws)
        ≡ cond u (map word_gone (w ∷ ws)) (map word_kept (w ∷ ws))
    both true = refl
    both false = refl
