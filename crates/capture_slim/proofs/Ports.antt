-- The window holds only port events if only port events entered it.
use Rattle.std.proofs.Common.{◌≡◌, ◌+◌, ◌&&◌, ltb, ℕ, suc, List, [], ◌∷◌, ◌++◌, Option, None, Some, Bool, true, false}
use Rattle.std.proofs.Common.{cond, IfSome, option_to_list, length, subst}
use Rattle.px_num.specs.declared.shape.Box2.{Box2}
use Rattle.gpu_capture.specs.declared.event.Event.{Event}
use Rattle.gpu_capture.specs.declared.event.Event.TheVariants as event
use Rattle.event_play.specs.Ports.{IsAtPorts}
use Rattle.dead_drawing.specs.Control.{Control}
use Rattle.dead_drawing.specs.Dead.{is_droppable}
use Rattle.capture_slim.specs.Places.{kept_of}
use Rattle.capture_slim.specs.Stream.{leaving_from, staying_from}
use Rattle.capture_slim.specs.Telling.{HoldPorts}
use Rattle.capture_slim.specs.Window.{Window, settled, kept, kept_words, packet_slots, dropped_words, open_words}
use Rattle.capture_slim.specs.Window.{taken_up}
use Rattle.capture_slim.specs.Window.{with_event, with_word, added, effect_applied, pushed, left_of}
use Rattle.capture_slim.specs.declared.queue.Queue.{Queue}
use Rattle.capture_slim.specs.declared.slot.Mark.{Mark}
use Rattle.capture_slim.specs.declared.slot.Mark.TheVariants.{Kept, Dropped, Open}
use Rattle.capture_slim.specs.declared.slot.Slot.{Slot}

pub ports_append : (first last : List Slot) → HoldPorts first → HoldPorts last → HoldPorts (first ++ last)
ports_append [] last are more = more
ports_append (s ∷ first) last are more = (are.0, ports_append first last are.1 more)

settled_ports : (slots : List Slot) (after : ℕ) (c : Control) (e : Event) → HoldPorts slots
    → HoldPorts (settled slots after c e)
settled_ports [] after c e are = tt
settled_ports (s ∷ slots) after c e are = (are.0, settled_ports slots after c e are.1)

pub kept_ports : (words : List ℕ) → HoldPorts (kept_words words)
kept_ports [] = tt
kept_ports (w ∷ ws) = (tt, kept_ports ws)

dropped_ports : (words : List ℕ) → HoldPorts (dropped_words words)
dropped_ports [] = tt
dropped_ports (w ∷ ws) = (tt, dropped_ports ws)

open_ports : (words : List ℕ) (i : ℕ) (area : Box2) → HoldPorts (open_words words i area)
open_ports [] i area = tt
open_ports (w ∷ ws) i area = (tt, open_ports ws (suc i) area)

packet_slots_ports : (words : List ℕ) (area : Option Box2) → HoldPorts (packet_slots words area)
packet_slots_ports words None = dropped_ports words
packet_slots_ports words (Some area) = open_ports words 0 area

words_ports : (slots more : List Slot) (words : List ℕ) (part : Bool) → HoldPorts slots → HoldPorts more
    → HoldPorts (cond {A = Queue} part (record { slots = slots; words = words })
    (record { slots = slots ++ more; words = [] })).slots
words_ports slots more words true are added = are
words_ports slots more words false are added = ports_append slots more are added

event_ports : (slots : List Slot) (words : List ℕ) (e : Event) → HoldPorts slots → IsAtPorts e
    → HoldPorts (with_event slots words e).slots
event_ports slots words e are port =
    ports_append slots (kept_words words ++ kept e ∷ []) are
    (ports_append (kept_words words) (kept e ∷ []) (kept_ports words) (port, tt))

word_ports : (words : List ℕ) (slots : List Slot) (word : ℕ) (idle : Bool) (area : Option Box2) → HoldPorts slots
    → HoldPorts (with_word slots words word idle area).slots
word_ports (v ∷ vs) slots word idle area are =
    words_ports slots _ _ _ are (packet_slots_ports ((v ∷ vs) ++ word ∷ []) area)
word_ports [] slots word idle area are = by_test (idle && is_droppable word)
  where
    by_test : (b : Bool)
        → HoldPorts (cond b (taken_up slots (word ∷ []) area) (with_event slots [] (event.Gp0 word))).slots
    by_test true = words_ports slots _ _ _ are (packet_slots_ports (word ∷ []) area)
    by_test false = event_ports slots [] (event.Gp0 word) are tt

added_ports : (q : Queue) (e : Event) (idle : Bool) (area : Option Box2) → HoldPorts q.slots → IsAtPorts e
    → HoldPorts (added q e idle area).slots
added_ports q (event.Gp0 word) idle area are port = word_ports q.words q.slots word idle area are
added_ports q other idle area are port = event_ports q.slots q.words other are port

pub pushed_ports : (w : Window) (e : Event) → HoldPorts w.slots → IsAtPorts e → HoldPorts (pushed w e).slots
unfolding pushed
pushed_ports w e are port =
    added_ports (effect_applied w e) e _ _ (settled_ports w.slots (length w.words) w.control e are) port

pub staying_ports : (slots : List Slot) (words : List ℕ) → HoldPorts slots → HoldPorts (staying_from slots words)
staying_ports [] words are = tt
staying_ports (s ∷ slots) words are = by_test (ltb (length slots + length words) 4096)
  where
    by_test : (b : Bool) → HoldPorts (cond b (s ∷ slots) slots)
    by_test true = are
    by_test false = are.1

mark_ports : (mark : Mark) (e : Event) → IsAtPorts e → IfSome (left_of e mark) IsAtPorts
mark_ports Kept e port = port
mark_ports Dropped e port = tt
mark_ports (Open area i) e port = port

one_ports : (out result : Option Event) → option_to_list result ≡ kept_of (out ∷ []) → IfSome out IsAtPorts
    → IfSome result IsAtPorts
one_ports out None is port = tt
one_ports None (Some e) is port = absurd cc
one_ports (Some x) (Some e) is port = let same : x ≡ e = cc in subst IsAtPorts same port

pub left_ports : (slots : List Slot) (words : List ℕ) (result : Option Event) → HoldPorts slots
    → option_to_list result ≡ kept_of (leaving_from slots words) → IfSome result IsAtPorts
left_ports slots words None are is = tt
left_ports [] words (Some e) are is = absurd cc
left_ports (s ∷ slots) words (Some e) are is = by_test (ltb (length slots + length words) 4096) is
  where
    by_test : (b : Bool) → e ∷ [] ≡ kept_of (cond b [] (left_of s.event s.mark ∷ [])) → IsAtPorts e
    by_test true is = absurd cc
    by_test false is = one_ports (left_of s.event s.mark) (Some e) is (mark_ports s.mark s.event are.0)
