-- An event that is added to the queue is pushed into the window.
use Rattle.std.proofs.Common.{◌≡◌, ◌<◌, ◌≤◌, ◌+◌, ◌&&◌, ltb, ℕ, List, [], ◌∷◌, ◌++◌, Option, Some, Bool, true, false}
use Rattle.std.proofs.Common.{cond, length, slice_index, refl, sym, ap, ◌∙◌, arith}
use Rattle.std.proofs.lemmas.Bool.{ltb-true, ltb-false}
use Rattle.std.proofs.lemmas.Bool.Decides.{nat_tests}
use Rattle.px_num.specs.declared.shape.Box2.{Box2}
use Rattle.gp0_words.specs.Kinds.{first_len_of, polygon_len_of, rectangle_len_of}
use Rattle.gp0_words.specs.Next.{next_item, collected_item}
use Rattle.gp0_words.specs.declared.item.Item.TheVariants.{Whole}
use Rattle.gp0_words.specs.declared.kind.Kind.{Kind}
use Rattle.gp0_words.specs.declared.pending.Pending.{Pending}
use Rattle.gpu_capture.specs.declared.event.Event.{Event}
use Rattle.gpu_capture.specs.declared.event.Event.TheVariants as event
use Rattle.event_play.specs.Ports.{IsAtPorts}
use Rattle.gpu_core.specs.Machine.{is_idle}
use Rattle.prim_draw.specs.Areas.{area_of}
use Rattle.dead_drawing.specs.Control.{Control, controlled}
use Rattle.dead_drawing.specs.Dead.{is_droppable}
use Rattle.capture_slim.specs.Settling.{settled_by}
use Rattle.capture_slim.specs.Stream.{staying, staying_from}
use Rattle.capture_slim.specs.Effect.{event_effect}
use Rattle.capture_slim.specs.declared.queue.Queue.{Queue}
use Rattle.capture_slim.specs.Telling.{area_by, area_at, KeepsWindow}
use Rattle.capture_slim.specs.Window.{Window, IsBegun, packet_slots, within, taken_up, with_event, with_word, added}
use Rattle.capture_slim.specs.Window.{area_after, effect_applied, pushed}
use Rattle.capture_slim.specs.declared.slot.Slot.{Slot}
use Rattle.dead_drawing.proofs.Droppable.{Shape, polygon, rectangle, line, shape_of, plain_kind, packet_is}
use Rattle.dead_drawing.proofs.PacketWords.{next_of, last_item}
use Rattle.capture_slim.proofs.SettlingLemmas.{settled_is_by}
use Rattle.capture_slim.proofs.Firsts.{pushed_size}
use Rattle.capture_slim.proofs.Ports.{pushed_ports, staying_ports}
use Rattle.capture_slim.proofs.WindowLaw.{IsTaken, taken_more, taken_first, pushed_begun}

-- the area of an event is that of the words
whole_area : (c : Control) (done : List ℕ) (word : ℕ) → IsTaken c done word → length (done ++ word ∷ [])
    ≡ first_len_of (slice_index (done ++ word ∷ []) 0)
    → area_at c (event.Gp0 word) ≡ area_after c done (event.Gp0 word)
whole_area c done word t whole =
    let words = done ++ word ∷ [] in
    let first = slice_index words 0 in
    let item : next_item c.pending word ≡ Some (Whole words) = ap (λ (p : Pending). next_item p word) t.held
    ∙ next_of done word
    ∙ ap (λ (k : Kind). collected_item k words) (plain_kind first (shape_of first t.kind))
    ∙ last_item (first_len_of first) words whole in
    ap (area_by c.regs) item ∙ ap (area_of c.regs) (packet_is c.regs.height words whole)

taken_same : (slots : List Slot) (c : Control) (done : List ℕ) (word : ℕ) → IsTaken c done word
    → taken_up slots (done ++ word ∷ []) (area_at c (event.Gp0 word))
    ≡ taken_up slots (done ++ word ∷ []) (area_after c done (event.Gp0 word))
taken_same slots c done word t = by_test
    (ltb (length (done ++ word ∷ [])) (first_len_of (slice_index (done ++ word ∷ []) 0))) refl
  where
    by_test : (b : Bool) → ltb (length (done ++ word ∷ [])) (first_len_of (slice_index (done ++ word ∷ []) 0)) ≡ b
        → cond {A = Queue} b (record { slots = slots; words = done ++ word ∷ [] })
        (record { slots = slots ++ packet_slots (done ++ word ∷ []) (area_at c (event.Gp0 word)); words = [] })
        ≡ cond b (record { slots = slots; words = done ++ word ∷ [] })
        (record { slots = slots ++ packet_slots (done ++ word ∷ []) (area_after c done (event.Gp0 word)); words = [] })
    by_test true e = refl
    by_test false e =
        ap {B = Queue} (λ (b : Option Box2). record { slots = slots ++ packet_slots (done ++ word ∷ []) b; words = [] })
        (whole_area c done word t (omega (arith, t.fits, ltb-false _ _ e)))

word_same : (words : List ℕ) (slots : List Slot) (c : Control) (word : ℕ) → IsBegun words c
    → with_word slots words word (is_idle c.pending) (area_at c (event.Gp0 word))
    ≡ with_word slots words word (is_idle c.pending) (area_after c words (event.Gp0 word))
word_same (v ∷ vs) slots c word begun = taken_same slots c (v ∷ vs) word (taken_more c v vs word begun)
word_same [] slots c word begun = by_test (is_idle c.pending && is_droppable word) refl
  where
    by_test : (b : Bool) → (is_idle c.pending && is_droppable word) ≡ b
        → cond b (taken_up slots (word ∷ []) (area_at c (event.Gp0 word))) (with_event slots [] (event.Gp0 word))
        ≡ cond b (taken_up slots (word ∷ []) (area_after c [] (event.Gp0 word))) (with_event slots [] (event.Gp0 word))
    by_test true is = taken_same slots c [] word (taken_first c word is)
    by_test false is = refl

added_same : (q : Queue) (c : Control) (e : Event) → IsBegun q.words c
    → added q e (is_idle c.pending) (area_at c e) ≡ added q e (is_idle c.pending) (area_after c q.words e)
added_same q c (event.Gp0 word) begun = word_same q.words q.slots c word begun
added_same q c other begun = refl

-- slots updated by the effect of an event, together with that event
pub pushed_is : (old : Window) (e : Event) → IsBegun old.words old.control
    → within (added
    (record { slots = settled_by old.slots (length old.words) (event_effect old.control e); words = old.words })
    e (is_idle old.control.pending) (area_at old.control e)) (controlled old.control e)
    ≡ pushed old e
unfolding pushed
pushed_is old e begun =
    ap (λ (ss : List Slot). within (added (record { slots = ss; words = old.words }) e (is_idle old.control.pending)
    (area_at old.control e)) (controlled old.control e))
    (sym (settled_is_by old.slots (length old.words) old.control e))
    ∙ ap (λ (q : Queue). within q (controlled old.control e)) (added_same (effect_applied old e) old.control e begun)

-- at most 4,096 events are left
few_by : (slots : List Slot) (s : Slot) (words : List ℕ) (b : Bool) → ltb (length slots + length words) 4096 ≡ b
    → length (s ∷ slots) + length words ≤ 4097
    → length (cond b (s ∷ slots) slots) + length words ≤ 4096
few_by slots s words true e le = omega (arith, le, ltb-true _ _ e)
few_by slots s words false e le = omega (arith, le)

pub few_stay : (slots : List Slot) (words : List ℕ) → length slots + length words ≤ 4097 → length words ≤ 4096
    → length (staying_from slots words) + length words ≤ 4096
few_stay [] words le few = omega (arith, few)
few_stay (s ∷ slots) words le few = few_by slots s words _ refl le

polygon_most : (w : ℕ) → polygon_len_of w ≤ 12
polygon_most w = grind arith

rectangle_most : (w : ℕ) → rectangle_len_of w ≤ 4
rectangle_most w = grind (arith, nat_tests)

len_most : (word : ℕ) → Shape word → first_len_of word ≤ 12
len_most word (polygon class plain) = rw class (polygon_most word)
len_most word (rectangle class plain) = rw class (omega (arith, rectangle_most word))
len_most word (line class single) = rw (class, single) (omega arith)

-- a packet that may be dropped has at most twelve words; an incomplete one has fewer
pub few_words : (words : List ℕ) (c : Control) → IsBegun words c → length words < 12
few_words [] c begun = omega arith
few_words (w ∷ ws) c begun = omega (arith, begun.2, len_most w (shape_of w begun.1))

-- pushing preserves the window's invariant
pub pushed_keeps : (w : Window) (e : Event) → KeepsWindow w → IsAtPorts e → KeepsWindow (staying (pushed w e))
pushed_keeps w e keeps port =
    let p = pushed w e in
    let begun = pushed_begun w e keeps.begun in
    record {
      ports = staying_ports p.slots p.words (pushed_ports w e keeps.ports port);
      few = few_stay p.slots p.words (omega (arith, keeps.few, pushed_size w e))
          (omega (arith, few_words p.words p.control begun));
      begun = begun;
    }
