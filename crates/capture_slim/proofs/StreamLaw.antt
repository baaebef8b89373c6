-- The events that leave the window.
use Rattle.std.proofs.Common.{◌≡◌, ◌+◌, ltb, ℕ, List, [], ◌∷◌, ◌++◌, Option, Bool, true, false, cond, length, refl, sym}
use Rattle.std.proofs.Common.{ap, ◌∙◌, append_assoc, append-nil, zero, suc}
use Rattle.std.proofs.lemmas.Bool.{ltb-false}
use Rattle.gpu_capture.specs.declared.event.Event.{Event}
use Rattle.dead_drawing.specs.Control.{Control, controlled, first_control}
use Rattle.dead_drawing.specs.Dead.{dead_len}
use Rattle.dead_drawing.specs.Slim.{slim_events, slim_from, kept_by}
use Rattle.capture_slim.specs.Places.{PlacesLaw, places, places_from, placed_by, kept_of}
use Rattle.capture_slim.specs.Stream.{StreamLaw, LeavesLaw, leaving, leaving_from, staying, staying_from, outs}
use Rattle.capture_slim.specs.Stream.{window_after}
use Rattle.capture_slim.specs.Window.{Window, IsBegun, first_window, left_of, pushed, value}
use Rattle.capture_slim.specs.declared.slot.Slot.{Slot}
use Rattle.capture_slim.proofs.LeavingLaw.{leaving_law, end_law}
use Rattle.capture_slim.proofs.WindowLaw.{one_more, pushed_begun}

abbrev Outs : Type 0
Outs = List (Option Event)

-- ---- the events that stay are the list without its dead packets

kept_places : (events : List Event) (c : Control) (skip : ℕ) → kept_of (places_from events c skip)
    ≡ slim_from events c skip
kept_places [] c skip = refl
kept_places (e ∷ events) c (suc skip) = kept_places events (controlled c e) skip
kept_places (e ∷ events) c zero =
    by_dead (dead_len c (e ∷ events)) (λ skip. kept_places events (controlled c e) skip)
  where
    by_dead : (k : ℕ)
        → ((skip : ℕ) → kept_of (places_from events (controlled c e) skip) ≡ slim_from events (controlled c e) skip)
        → kept_of (placed_by k e (λ skip. places_from events (controlled c e) skip))
        ≡ kept_by k e (λ skip. slim_from events (controlled c e) skip)
    by_dead zero same = ap (λ (es : List Event). e ∷ es) (same 0)
    by_dead (suc k) same = same k

pub places_law : PlacesLaw
unfolding places slim_events
places_law height events = kept_places events (first_control height) 0

-- ---- event by event

left_by : (slots : List Slot) (s : Slot) (words : List ℕ) (c : Control) (more : List Event) (b : Bool)
    → ltb (length slots + length words) 4096 ≡ b
    → value (record { slots = s ∷ slots; words = words; control = c }) more
    ≡ cond b [] (left_of s.event s.mark ∷ []) ++ value
    (record { slots = cond b (s ∷ slots) slots; words = words; control = c }) more
left_by slots s words c more true e = refl
left_by slots s words c more false e = leaving_law s slots words c more (ltb-false _ _ e)

left_is : (slots : List Slot) (words : List ℕ) (c : Control) (more : List Event)
    → value (record { slots = slots; words = words; control = c }) more
    ≡ leaving_from slots words ++ value (record { slots = staying_from slots words; words = words; control = c }) more
left_is [] words c more = refl
left_is (s ∷ slots) words c more = left_by slots s words c more _ refl

pub outs_are : (events more : List Event) (w : Window) → IsBegun w.words w.control
    → value w (events ++ more) ≡ outs events w ++ value (window_after events w) more
outs_are [] more w begun = refl
outs_are (e ∷ events) more w begun =
    let p = pushed w e in
    one_more w e (events ++ more) begun
    ∙ left_is p.slots p.words p.control (events ++ more)
    ∙ ap (λ (es : Outs). leaving p ++ es) (outs_are events more (staying p) (pushed_begun w e begun))
    ∙ sym (append_assoc (leaving p) (outs events (staying p)) (value (window_after events (staying p)) more))

pub after_begun : (events : List Event) (w : Window) → IsBegun w.words w.control
    → IsBegun (window_after events w).words (window_after events w).control
after_begun [] w begun = begun
after_begun (e ∷ events) w begun = after_begun events (staying (pushed w e)) (pushed_begun w e begun)

pub leaves_law : LeavesLaw
unfolding places
leaves_law height events more =
    (value (window_after events (first_window height)) more, outs_are events more (first_window height) tt)

pub stream_law : StreamLaw
unfolding places
stream_law height events =
    ap (λ (es : List Event). places_from es (first_control height) 0) (sym (append-nil events))
    ∙ outs_are events [] (first_window height) tt
    ∙ ap (λ (es : Outs). outs events (first_window height) ++ es)
    (end_law (window_after events (first_window height)) (after_begun events (first_window height) tt))
