-- Dead packets at the front of a list.
use Rattle.std.proofs.Common.{◌≡◌, ◌<◌, ◌&&◌, not, ℤ, ◌≤ℤ◌, ℕ, zero, suc, List, [], ◌∷◌, ◌++◌, Option, None, Some}
use Rattle.std.proofs.Common.{Bool, true, false, cond, length, drop, map, slice_index, refl, sym, ap, ◌∙◌, subst}
use Rattle.std.proofs.Common.{arith}
use Rattle.std.specs.Int.Signed.{le_z}
use Rattle.std.proofs.lemmas.Int.{ints}
use Rattle.px_num.specs.declared.shape.Box2.{Box2}
use Rattle.gp0_words.specs.Kinds.{first_len_of}
use Rattle.gp0_words.specs.Next.{next_item}
use Rattle.gp0_words.specs.declared.item.Item.{Item}
use Rattle.gp0_words.specs.declared.pending.Pending.{Pending}
use Rattle.gp0_words.specs.declared.pending.Pending.TheVariants as pending
use Rattle.gp0_words.proofs.Cut.{start_len-positive}
use Rattle.gp0_packets.specs.Packets.{packet_of}
use Rattle.gp0_packets.specs.declared.packet.Packet.{Packet}
use Rattle.gp0_packets.specs.declared.packet.Packet.TheVariants as packet
use Rattle.gp1_status.specs.Registers.{Registers}
use Rattle.gpu_capture.specs.declared.event.Event.{Event}
use Rattle.gpu_capture.specs.declared.event.Event.TheVariants as event
use Rattle.gpu_core.specs.Machine.{State, new_item, is_idle}
use Rattle.prim_draw.specs.Areas.{moved_box}
use Rattle.span_lanes.specs.Figures.Boxes.{LiesInBox}
use Rattle.dead_drawing.specs.Calm.{IsCalm, IsCalmItem, IsCalmAt}
use Rattle.dead_drawing.specs.Control.{Control, controlled}
use Rattle.dead_drawing.specs.OnePacket.{IsDroppable, Holds, Covers, IsCovered}
use Rattle.dead_drawing.specs.Run.{after}
use Rattle.dead_drawing.specs.Dead.{is_droppable, holds_box, holds_in, fills, fills_by, fills_at, is_calm, is_calm_by}
use Rattle.dead_drawing.specs.Dead.{is_calm_at, is_covered, words_of, word_before, front, is_dead, dead_words}
use Rattle.dead_drawing.specs.Dead.{dead_len}
use Rattle.dead_drawing.proofs.Events.{new_is}
use Rattle.dead_drawing.proofs.Tracks.{Tracks, event_tracks}

two : (a b : Bool) → (a && b) ≡ true → (a ≡ true) × (b ≡ true)
two true b e = (refl, e)
two false b e = absurd cc

at_most : (a b : ℤ) → le_z a b ≡ true → a ≤ℤ b
at_most a b e = grind (arith, ints)

-- ---- fills

box_lies : (outer inner : Box2) → holds_box outer inner ≡ true → LiesInBox outer inner
unfolding holds_box
box_lies outer inner e =
    let u = two _ _ e in
    let v = two _ _ u.0 in
    let w = two _ _ u.1 in
    record { left = at_most _ _ v.0; top = at_most _ _ v.1; right = at_most _ _ w.0; bottom = at_most _ _ w.1 }

in_lies : (outer : Option Box2) (inner : Box2) → holds_in outer inner ≡ true → Holds outer (Some inner)
in_lies None inner e = absurd cc
in_lies (Some outer) inner e = box_lies outer inner e

pub record IsFillOver (what : Packet) (b : Box2) : Type 0 where
  pub color : ℕ
  pub x : ℕ
  pub y : ℕ
  pub w : ℕ
  pub h : ℕ
  pub is : what ≡ packet.Fill color x y w h
  pub holds : Holds (moved_box x y w h) (Some b)

fill_over : (what : Packet) (b : Box2) → fills what b ≡ true → IsFillOver what b
fill_over
    (packet.Fill color x y w h) b e = record {
      color = color;
      x = x;
      y = y;
      w = w;
      h = h;
      is = refl;
      holds = in_lies
          (moved_box x y w h) b e;
    }
fill_over (packet.Poly four a b c d shaded textured semi raw clut page) box e = absurd cc
fill_over (packet.Segment a b semi) box e = absurd cc
fill_over (packet.Rect x y w h color textured semi raw u v clut) b e = absurd cc
fill_over (packet.Copy from to w h) b e = absurd cc
fill_over (packet.Load x y w h) b e = absurd cc
fill_over (packet.Store x y w h) b e = absurd cc
fill_over (packet.Pixels word) b e = absurd cc
fill_over (packet.Env index value) b e = absurd cc
fill_over packet.Irq b e = absurd cc
fill_over packet.Nop b e = absurd cc
fill_over packet.Finish b e = absurd cc

covers_by : (s : State) (word : ℕ) (b : Box2) (item : Option Item) → new_item s.words word ≡ item
    → fills_by s.parts.regs.height item b ≡ true
    → Covers s word (Some b)
covers_by s word b None e f = absurd cc
covers_by s word b (Some item) e f =
    let u = fill_over (packet_of s.parts.regs.height item) b f in
    record { item = item; is = e; color = u.color; x = u.x; y = u.y; w = u.w; h = u.h; fill = u.is; holds = u.holds }

item_is : (c : Control) (s : State) (word : ℕ) → Tracks c s → new_item s.words word ≡ next_item c.pending word
item_is c s word h = new_is s.words word ∙ ap (λ (p : Pending). next_item p word) h.pending

-- ---- calm events

not_true : (b : Bool) → not b ≡ true → b ≡ false
not_true true e = absurd cc
not_true false e = refl

calm_packet : (what : Packet) → is_calm what ≡ true → IsCalm what
calm_packet (packet.Poly four a b c d shaded true semi raw clut page) e = absurd cc
calm_packet (packet.Poly four a b c d shaded false semi raw clut page) e = tt
calm_packet (packet.Rect x y w h color true semi raw u v clut) e = absurd cc
calm_packet (packet.Rect x y w h color false semi raw u v clut) e = tt
calm_packet (packet.Copy from to w h) e = absurd cc
calm_packet (packet.Store x y w h) e = absurd cc
calm_packet (packet.Fill color x y w h) e = tt
calm_packet (packet.Segment a b semi) e = tt
calm_packet (packet.Load x y w h) e = tt
calm_packet (packet.Pixels word) e = tt
calm_packet (packet.Env index value) e = tt
calm_packet packet.Irq e = tt
calm_packet packet.Nop e = tt
calm_packet packet.Finish e = tt

calm_item : (height : ℕ) (item : Option Item) → is_calm_by height item ≡ true → IsCalmItem height item
calm_item height None e = tt
calm_item height (Some item) e = calm_packet (packet_of height item) e

-- A control and a state that agrees with it have the same height.
height_is : (c : Control) (s : State) → Tracks c s → s.parts.regs.height ≡ c.regs.height
height_is c s h = ap (λ (r : Registers). r.height) h.regs

calm_at : (c : Control) (s : State) (e : Event) → Tracks c s → is_calm_at c e ≡ true → IsCalmAt s e
calm_at c s (event.Gp0 word) h f =
    subst (λ (height : ℕ). IsCalmItem height (new_item s.words word)) (sym (height_is c s h))
    (subst (IsCalmItem c.regs.height) (sym (item_is c s word h))
    (calm_item c.regs.height (next_item c.pending word) f))
calm_at c s (event.Gp1 word) h f = tt
calm_at c s event.Stat h f = tt
calm_at c s event.Read h f = absurd cc
calm_at c s event.Skip h f = absurd cc
calm_at c s (event.Ram address word) h f = absurd cc
calm_at c s (event.Dma channel madr bcr chcr) h f = absurd cc
calm_at c s (event.Begin madr bcr chcr) h f = absurd cc
calm_at c s event.Turn h f = absurd cc

-- ---- what covers a box

-- The first events of a list cover a box.
pub record BeginsCovered (s : State) (events : List Event) (b : Box2) : Type 0 where
  pub first : List Event
  pub rest : List Event
  pub parts : events ≡ first ++ rest
  pub covered : IsCovered s first (Some b)

fill_first : (c : Control) (s : State) (e : Event) (events : List Event) (b : Box2) → Tracks c s
    → fills_at c e b ≡ true → BeginsCovered s (e ∷ events) b
fill_first c s (event.Gp0 word) events b h f = record {
  first = event.Gp0 word ∷ [];
  rest = events;
  parts = refl;
  covered = record {
    between = [];
    word = word;
    parts = refl;
    calm = tt;
    covers = covers_by s word b
        (next_item c.pending word) (item_is c s word h)
        (ap (λ (height : ℕ). fills_by height (next_item c.pending word) b) (height_is c s h) ∙ f);
  };
}
fill_first c s (event.Gp1 word) events b h f = absurd cc
fill_first c s event.Read events b h f = absurd cc
fill_first c s event.Skip events b h f = absurd cc
fill_first c s event.Stat events b h f = absurd cc
fill_first c s (event.Ram address word) events b h f = absurd cc
fill_first c s (event.Dma channel madr bcr chcr) events b h f = absurd cc
fill_first c s (event.Begin madr bcr chcr) events b h f = absurd cc
fill_first c s event.Turn events b h f = absurd cc

calm_first : (c : Control) (s : State) (e : Event) (events : List Event) (b : Box2) → Tracks c s
    → is_calm_at c e ≡ true → BeginsCovered (after s e) events b → BeginsCovered s (e ∷ events) b
calm_first c s e events b h f u = record {
  first = e ∷ u.first;
  rest = u.rest;
  parts = ap (λ (es : List Event). e ∷ es) u.parts;
  covered = record {
    between = e ∷ u.covered.between;
    word = u.covered.word;
    parts = ap (λ (es : List Event). e ∷ es) u.covered.parts;
    calm = (calm_at c s e h f, u.covered.calm);
    covers = u.covered.covers;
  };
}

pub begins_covered : (events : List Event) (c : Control) (n : ℕ) (s : State) (b : Box2) → Tracks c s
    → is_covered events c n b ≡ true → BeginsCovered s events b
begins_covered [] c n s b h f = absurd cc
begins_covered (e ∷ events) c zero s b h f = absurd cc
begins_covered (e ∷ events) c (suc n) s b h f = by_test
    (λ g. begins_covered events (controlled c e) n (after s e) b (event_tracks c s e h) g) (fills_at c e b) refl f
  where
    by_test : (is_covered events (controlled c e) n b ≡ true → BeginsCovered (after s e) events b) → (t : Bool)
        → fills_at c e b ≡ t
        → cond t true (is_calm_at c e && is_covered events (controlled c e) n b) ≡ true
        → BeginsCovered s (e ∷ events) b
    by_test later true is g = fill_first c s e events b h is
    by_test later false is g =
        let u = two (is_calm_at c e) (is_covered events (controlled c e) n b) g in
        calm_first c s e events b h u.0 (later u.1)

-- ---- the words at the front

pub record AreWords (n : ℕ) (events : List Event) (words : List ℕ) : Type 0 where
  pub parts : events ≡ map event.Gp0 words ++ drop n events
  pub count : length words ≡ n

words_more : (n word : ℕ) (events : List Event) (rest : Option (List ℕ)) (words : List ℕ)
    → ((ws : List ℕ) → rest ≡ Some ws → AreWords n events ws)
    → word_before word rest ≡ Some words → AreWords (suc n) (event.Gp0 word ∷ events) words
words_more n word events None words h e = absurd cc
words_more n word events (Some ws) words h e =
    let u = h ws refl in
    let is : word ∷ ws ≡ words = cc in
    subst (AreWords (suc n) (event.Gp0 word ∷ events)) is
    (record { parts = ap (λ (es : List Event). event.Gp0 word ∷ es) u.parts; count = ap suc u.count })

pub words_are : (n : ℕ) (events : List Event) (words : List ℕ) → words_of n events ≡ Some words
    → AreWords n events words
words_are zero events words e = let is : [] ≡ words = cc in subst (AreWords zero events) is
    (record { parts = refl; count = refl })
words_are (suc n) [] words e = absurd cc
words_are (suc n) (event.Gp0 word ∷ events) words e = words_more n word events (words_of n events) words
    (λ ws f. words_are n events ws f) e
words_are (suc n) (event.Gp1 word ∷ events) words e = absurd cc
words_are (suc n) (event.Read ∷ events) words e = absurd cc
words_are (suc n) (event.Skip ∷ events) words e = absurd cc
words_are (suc n) (event.Stat ∷ events) words e = absurd cc
words_are (suc n) (event.Ram address word ∷ events) words e = absurd cc
words_are (suc n) (event.Dma channel madr bcr chcr ∷ events) words e = absurd cc
words_are (suc n) (event.Begin madr bcr chcr ∷ events) words e = absurd cc
words_are (suc n) (event.Turn ∷ events) words e = absurd cc

idle_is : (p : Pending) → is_idle p ≡ true → p ≡ pending.Idle
idle_is pending.Idle e = refl
idle_is (pending.Packet words) e = absurd cc
idle_is (pending.Pixels left) e = absurd cc
idle_is (pending.Poly command color vertex half) e = absurd cc

-- a droppable packet at the front
pub record IsFront (c : Control) (events : List Event) (words : List ℕ) : Type 0 where
  pub idle : c.pending ≡ pending.Idle
  pub droppable : IsDroppable words
  pub parts : events ≡ map event.Gp0 words ++ drop (length words) events

first_is : (word : ℕ) (events : List Event) (words : List ℕ) (rest : List Event)
    → event.Gp0 word ∷ events ≡ map event.Gp0 words ++ rest → 0 < length words → slice_index words 0 ≡ word
first_is word events [] rest e some = absurd (omega (arith, some))
first_is word events (v ∷ vs) rest e some = cc

front_words : (c : Control) (word : ℕ) (events : List Event) (words : List ℕ) → is_idle c.pending ≡ true
    → is_droppable word ≡ true
    → words_of (first_len_of word) (event.Gp0 word ∷ events) ≡ Some words → IsFront c (event.Gp0 word ∷ events) words
front_words c word events words idle kind e =
    let n = first_len_of word in
    let u = words_are n (event.Gp0 word ∷ events) words e in
    let first = first_is word events words _ u.parts (omega (arith, u.count, start_len-positive word)) in
    record {
      idle = idle_is c.pending idle;
      droppable = record { kind = ap is_droppable first ∙ kind; whole = u.count ∙ ap first_len_of (sym first) };
      parts = subst (λ (k : ℕ). event.Gp0 word ∷ events ≡ map event.Gp0 words ++ drop k (event.Gp0 word ∷ events))
          (sym u.count) u.parts;
    }

pub front_is : (c : Control) (events : List Event) (words : List ℕ) → front c events ≡ Some words
    → IsFront c events words
front_is c [] words e = absurd cc
front_is c (event.Gp0 word ∷ events) words e = by_test (is_idle c.pending && is_droppable word) refl e
  where
    by_test : (t : Bool) → (is_idle c.pending && is_droppable word) ≡ t
        → cond t (words_of (first_len_of word) (event.Gp0 word ∷ events)) None ≡ Some words
        → IsFront c (event.Gp0 word ∷ events) words
    by_test true is f = let u = two (is_idle c.pending)
        (is_droppable word) is in front_words c word events words u.0 u.1 f
    by_test false is f = absurd cc
front_is c (event.Gp1 word ∷ events) words e = absurd cc
front_is c (event.Read ∷ events) words e = absurd cc
front_is c (event.Skip ∷ events) words e = absurd cc
front_is c (event.Stat ∷ events) words e = absurd cc
front_is c (event.Ram address word ∷ events) words e = absurd cc
front_is c (event.Dma channel madr bcr chcr ∷ events) words e = absurd cc
front_is c (event.Begin madr bcr chcr ∷ events) words e = absurd cc
front_is c (event.Turn ∷ events) words e = absurd cc

-- a dead packet at the front
pub record IsDeadFront (c : Control) (events : List Event) (n : ℕ) : Type 0 where
  pub words : List ℕ
  pub count : length words ≡ n
  pub is : IsFront c events words
  pub dead : is_dead c events words ≡ true

dead_by : (c : Control) (events : List Event) (k : ℕ) (found : Option (List ℕ)) → front c events ≡ found
    → dead_words c events found ≡ suc k → IsDeadFront c events (suc k)
dead_by c events k None e f = absurd (omega (arith, f))
dead_by c events k (Some words) e f = by_test (is_dead c events words) refl f
  where
    by_test : (t : Bool) → is_dead c events words ≡ t → cond t (length words) 0 ≡ suc k → IsDeadFront c events (suc k)
    by_test true is g = record { words = words; count = g; is = front_is c events words e; dead = is }
    by_test false is g = absurd (omega (arith, g))

pub dead_front : (c : Control) (events : List Event) (k : ℕ) → dead_len c events ≡ suc k
    → IsDeadFront c events (suc k)
unfolding dead_len
dead_front c events k e = dead_by c events k (front c events) refl e
