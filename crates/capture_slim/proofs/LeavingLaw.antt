-- What leaves the window, and what is left in it at the end, against whole lists.
use Rattle.std.proofs.Common.{◌≡◌, ◌≤◌, ◌+◌, ◌-◌, ℕ, List, [], ◌∷◌, ◌++◌, Option}
use Rattle.std.proofs.Common.{length, map, refl, sym, ap, ◌∙◌, arith}
use Rattle.std.proofs.Common.{append-nil}
use Rattle.gpu_capture.specs.declared.event.Event.{Event}
use Rattle.gpu_capture.specs.declared.event.Event.TheVariants as event
use Rattle.dead_drawing.specs.Control.{Control}
use Rattle.capture_slim.specs.Places.{places_from}
use Rattle.capture_slim.specs.declared.slot.Mark.{Mark}
use Rattle.capture_slim.specs.declared.slot.Mark.TheVariants.{Kept, Dropped, Open}
use Rattle.capture_slim.specs.declared.slot.Slot.{Slot}
use Rattle.capture_slim.specs.Window.{Window, kept_words}
use Rattle.capture_slim.specs.Window.{out_of, resolved, start_of}
use Rattle.capture_slim.specs.Window.{value, left_of}
use Rattle.capture_slim.specs.Window.{all_left, waiting, IsBegun}
use Rattle.capture_slim.proofs.WindowLemmas.{word_kept, covered_zero}
use Rattle.capture_slim.proofs.WindowLaw.{begun_stays}

abbrev Outs : Type 0
Outs = List (Option Event)

-- ---- a slot leaves

leaving_out : (e : Event) (mark : Mark) (age : ℕ) (c : Control) (following : List Event) → 4096 ≤ age
    → out_of e mark age c following ≡ left_of e mark
leaving_out e Kept age c following old = refl
leaving_out e Dropped age c following old = refl
leaving_out e (Open b i) age c following old =
    let none : 4096 - (age + i) ≡ 0 = omega (arith, old) in
    rw (none, covered_zero following c b) refl

-- a slot that is 4,096 events old is decided
pub leaving_law : (s : Slot) (slots : List Slot) (words : List ℕ) (c : Control) (following : List Event)
    → 4096 ≤ length slots + length words
    → value (record { slots = s ∷ slots; words = words; control = c }) following
    ≡ left_of s.event s.mark ∷ value (record { slots = slots; words = words; control = c }) following
leaving_law s slots words c following old =
    ap (λ (out : Option Event). (out ∷ resolved slots (length words) c following) ++ places_from
    (map event.Gp0 words ++ following) (start_of words c) 0)
    (leaving_out s.event s.mark (length slots + length words) c following old)

-- ---- the end

end_out : (e : Event) (mark : Mark) (age : ℕ) (c : Control) → out_of e mark age c [] ≡ left_of e mark
end_out e Kept age c = refl
end_out e Dropped age c = refl
end_out e (Open b i) age c = refl

end_slots : (slots : List Slot) (after : ℕ) (c : Control) → resolved slots after c [] ≡ all_left slots
end_slots [] after c = refl
end_slots (s ∷ slots) after c =
    ap (λ (out : Option Event). out ∷ resolved slots after c []) (end_out s.event s.mark (length slots + after) c)
    ∙ ap (λ (outs : Outs). left_of s.event s.mark ∷ outs) (end_slots slots after c)

end_words : (words : List ℕ) (c : Control) → IsBegun words c
    → places_from (map event.Gp0 words ++ []) (start_of words c) 0 ≡ map word_kept words
end_words [] c begun = refl
end_words (w ∷ ws) c begun = begun_stays c w ws [] begun tt ∙ append-nil (map word_kept (w ∷ ws))

all_words : (words : List ℕ) → map word_kept words ≡ all_left (kept_words words)
all_words [] = refl
all_words (w ∷ ws) = ap (λ (outs : Outs). word_kept w ∷ outs) (all_words ws)

all_append : (first last : List Slot) → all_left (first ++ last) ≡ all_left first ++ all_left last
all_append [] last = refl
all_append (s ∷ first) last = ap (λ (outs : Outs). left_of s.event s.mark ∷ outs) (all_append first last)

-- if no event follows, each waiting event stays unless it was dropped
pub end_law : (w : Window) → IsBegun w.words w.control → value w [] ≡ all_left (waiting w)
end_law w begun =
    ap (λ (outs : Outs). outs ++ places_from (map event.Gp0 w.words ++ []) (start_of w.words w.control) 0)
    (end_slots w.slots (length w.words) w.control)
    ∙ ap (λ (outs : Outs). all_left w.slots ++ outs) (end_words w.words w.control begun ∙ all_words w.words)
    ∙ sym (all_append w.slots (kept_words w.words))
