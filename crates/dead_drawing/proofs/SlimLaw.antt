-- A list of events without its dead packets.
use Rattle.std.proofs.Common.{◌≡◌, ◌<◌, ◌≤◌, ◌+◌, ◌-◌, ◌%◌, ℕ, zero, suc, List, [], ◌∷◌, ◌++◌, Option, None, Some}
use Rattle.std.proofs.Common.{Bool, true, false, cond, length, drop, map, slice_index, refl, sym, ap, ◌∙◌, subst}
use Rattle.std.proofs.Common.{arith, append_assoc}
use Rattle.std.proofs.lemmas.List.{length-append, length-drop}
use Rattle.px_num.specs.declared.shape.Box2.{Box2}
use Rattle.gp0_words.specs.Items.{pending_behind}
use Rattle.gp0_words.specs.Kinds.{first_len_of, kind_of, is_set}
use Rattle.gp0_words.specs.Next.{next_item, next_pending, collected_item, collected_pending}
use Rattle.gp0_words.specs.declared.item.Item.{Item}
use Rattle.gp0_words.specs.declared.item.Item.TheVariants.{Whole}
use Rattle.gp0_words.specs.declared.kind.Kind.{Kind}
use Rattle.gp0_words.specs.declared.kind.Kind.TheVariants.{Plain}
use Rattle.gp0_words.specs.declared.pending.Pending.{Pending}
use Rattle.gp0_words.specs.declared.pending.Pending.TheVariants as pending
use Rattle.gp0_words.proofs.Cut.{start_len-positive}
use Rattle.gp0_packets.specs.Packets.{packet_of, whole_of, polygon_of, line_of, rectangle_of, segment_of}
use Rattle.gp0_packets.specs.declared.packet.Packet.{Packet}
use Rattle.gp0_packets.specs.declared.packet.Packet.TheVariants as packet
use Rattle.gp1_status.specs.Registers.{Registers}
use Rattle.gpu_capture.specs.declared.event.Event.{Event}
use Rattle.gpu_capture.specs.declared.event.Event.TheVariants as event
use Rattle.gpu_core.specs.Machine.{State}
use Rattle.prim_draw.specs.Areas.{area_of, polygon_area}
use Rattle.prim_draw.specs.Lines.{segment_box}
use Rattle.prim_draw.specs.Rectangles.{extent_at, rectangle_box}
use Rattle.gp1_status.specs.Drawing.{drawing_area}
use Rattle.prim_draw.specs.Settings.{placed}
use Rattle.prim_draw.specs.Triangles.{triangle_box}
use Rattle.dead_drawing.specs.Control.{Control, controlled, controls, regs_after, regs_by}
use Rattle.event_play.specs.Ports.{IsAtPorts, AreAtPorts}
use Rattle.dead_drawing.specs.OnePacket.{IsDroppable, IsCovered, IsUnseen}
use Rattle.dead_drawing.specs.Run.{after, shown_at, run, told}
use Rattle.dead_drawing.specs.Dead.{dead_len, is_dead, is_hidden, window_events}
use Rattle.dead_drawing.specs.Slim.{slim_from, kept_by}
use Rattle.dead_drawing.proofs.Droppable.{Shape, polygon, rectangle, line, shape_of, plain_kind, packet_is}
use Rattle.dead_drawing.proofs.Events.{run_long}
use Rattle.dead_drawing.proofs.Fronts.{IsFront, IsDeadFront, begins_covered, dead_front}
use Rattle.dead_drawing.proofs.PacketWords.{held_of, next_of, pending_of, held_more, last_item, last_pending}
use Rattle.dead_drawing.proofs.PacketWords.{part_item, part_pending, first_of_all}
use Rattle.dead_drawing.proofs.Replays.{outcome_at, seen}
use Rattle.dead_drawing.proofs.Tracks.{Tracks, event_tracks, run_tracks}
use Rattle.dead_drawing.proofs.PacketLaw.{gone, seen_gone}

-- ---- a packet does not change the control

pub control_last : (c : Control) (n : ℕ) (done : List ℕ) (w : ℕ) → kind_of (slice_index (done ++ w ∷ []) 0) ≡ Plain n
    → length (done ++ w ∷ []) ≡ n → c.pending ≡ held_of done
    → controlled c (event.Gp0 w)
    ≡ record { regs = regs_after c.regs (packet_of c.regs.height (Whole (done ++ w ∷ []))); pending = pending.Idle }
unfolding controlled
control_last c n done w kind whole held =
    let item : next_item c.pending w ≡ Some (Whole (done ++ w ∷ [])) = ap (λ (p : Pending). next_item p w) held
    ∙ next_of done w
    ∙ ap (λ (k : Kind). collected_item k (done ++ w ∷ [])) kind ∙ last_item n (done ++ w ∷ []) whole in
    let next : next_pending c.pending w ≡ pending.Idle = ap (λ (p : Pending). next_pending p w) held
    ∙ pending_of done w
    ∙ ap (λ (k : Kind). collected_pending k (done ++ w ∷ [])) kind ∙ last_pending n (done ++ w ∷ []) whole in
    ap {B = Control}
    (λ (i : Option Item). record { regs = regs_by c.regs i; pending = next_pending c.pending w }) item
    ∙ ap {B = Control}
    (λ (p : Pending). record {
      regs = regs_after c.regs
          (packet_of c.regs.height (Whole (done ++ w ∷ [])));
      pending = p;
    }) next

pub control_part : (c : Control) (n : ℕ) (done : List ℕ) (w : ℕ) → kind_of (slice_index (done ++ w ∷ []) 0) ≡ Plain n
    → length (done ++ w ∷ []) < n → c.pending ≡ held_of done
    → controlled c (event.Gp0 w) ≡ record { regs = c.regs; pending = held_of (done ++ w ∷ []) }
unfolding controlled
control_part c n done w kind part held =
    let item : next_item c.pending w ≡ None = ap (λ (p : Pending). next_item p w) held ∙ next_of done w
    ∙ ap (λ (k : Kind). collected_item k (done ++ w ∷ [])) kind ∙ part_item n (done ++ w ∷ []) part in
    let next : next_pending c.pending w ≡ held_of (done ++ w ∷ []) = ap (λ (p : Pending). next_pending p w) held
    ∙ pending_of done w
    ∙ ap (λ (k : Kind). collected_pending k (done ++ w ∷ [])) kind ∙ part_pending n (done ++ w ∷ []) part
    ∙ held_more done w in
    ap {B = Control}
    (λ (i : Option Item). record { regs = regs_by c.regs i; pending = next_pending c.pending w }) item
    ∙ ap {B = Control} (λ (p : Pending). record { regs = c.regs; pending = p }) next

control_more : (ws : List ℕ) (c : Control) (n : ℕ) (done : List ℕ) (w : ℕ)
    → kind_of (slice_index (done ++ w ∷ ws) 0) ≡ Plain n → length (done ++ w ∷ ws) ≡ n → c.pending ≡ held_of done
    → controls (map event.Gp0 (w ∷ ws)) c
    ≡ record { regs = regs_after c.regs (packet_of c.regs.height (Whole (done ++ w ∷ ws))); pending = pending.Idle }
control_more [] c n done w kind whole held = control_last c n done w kind whole held
control_more (v ∷ ws) c n done w kind whole held =
    let first = first_of_all done w (v ∷ ws) in
    let begun = control_part c n done w (ap kind_of (sym first) ∙ kind)
    (omega (arith, whole, length-append done (w ∷ v ∷ ws), length-append done (w ∷ []))) held in
    let all : (done ++ w ∷ []) ++ v ∷ ws ≡ done ++ w ∷ v ∷ ws = append_assoc done (w ∷ []) (v ∷ ws) in
    ap (controls (map event.Gp0 (v ∷ ws))) begun
    ∙ control_more ws (record { regs = c.regs; pending = held_of (done ++ w ∷ []) }) n (done ++ w ∷ []) v
    (ap (λ (l : List ℕ). kind_of (slice_index l 0)) all ∙ kind) (ap length all ∙ whole) refl
    ∙ ap {B = Control}
    (λ (l : List ℕ). record {
      regs = regs_after c.regs
          (packet_of c.regs.height (Whole l));
      pending = pending.Idle;
    }) all

polygon_regs : (r : Registers) (words : List ℕ) → is_set (slice_index words 0) 26 ≡ false
    → regs_after r (polygon_of words) ≡ r
unfolding polygon_of
polygon_regs r words plain = rw plain refl

rectangle_regs : (r : Registers) (words : List ℕ) → regs_after r (rectangle_of words) ≡ r
unfolding rectangle_of
rectangle_regs r words = refl

line_regs : (r : Registers) (words : List ℕ) → regs_after r (line_of words) ≡ r
unfolding line_of
line_regs r words = by_test (is_set (slice_index words 0) 28)
  where
    by_test : (b : Bool) → regs_after r (cond b
        (segment_of (slice_index words 0) (slice_index words 0) (slice_index words 1) (slice_index words 2)
        (slice_index words 3))
        (segment_of (slice_index words 0) (slice_index words 0) (slice_index words 1) (slice_index words 0)
        (slice_index words 2))) ≡ r
    by_test true = refl
    by_test false = refl

pub whole_regs : (r : Registers) (height : ℕ) (words : List ℕ) → Shape (slice_index words 0)
    → regs_after r (whole_of height words) ≡ r
unfolding whole_of
whole_regs r height words (polygon class plain) = rw class (polygon_regs r words plain)
whole_regs r height words (rectangle class plain) = rw class (rectangle_regs r words)
whole_regs r height words (line class single) = rw class (line_regs r words)

some_words : (words : List ℕ) (c : Control) (n : ℕ) → kind_of (slice_index words 0) ≡ Plain n → length words ≡ n
    → 0 < n → c.pending ≡ pending.Idle
    → controls (map event.Gp0 words) c
    ≡ record { regs = regs_after c.regs (packet_of c.regs.height (Whole words)); pending = pending.Idle }
some_words [] c n kind whole some idle = absurd (omega (arith, whole, some))
some_words (w ∷ ws) c n kind whole some idle = control_more ws c n [] w kind whole idle

pub control_stays : (words : List ℕ) (c : Control) → IsDroppable words → c.pending ≡ pending.Idle
    → controls (map event.Gp0 words) c ≡ c
control_stays words c d idle =
    let shape = shape_of (slice_index words 0) d.kind in
    some_words words c (first_len_of (slice_index words 0)) (plain_kind (slice_index words 0) shape) d.whole
    (start_len-positive (slice_index words 0)) idle
    ∙ ap {B = Control} (λ (r : Registers). record { regs = r; pending = pending.Idle })
    (ap (regs_after c.regs) (packet_is c.regs.height words d.whole) ∙ whole_regs c.regs c.regs.height words shape)
    ∙ ap {B = Control} (λ (p : Pending). record { regs = c.regs; pending = p }) (sym idle)

-- ---- dropping one packet

-- The area of a packet does not depend on the latch.
area_latch : (r : Registers) (latch : ℕ) (what : Packet) → area_of (record r { held = latch }) what ≡ area_of r what
unfolding area_of polygon_area triangle_box segment_box rectangle_box extent_at placed drawing_area
area_latch r latch (packet.Poly four a b c d shaded textured semi raw clut page) = refl
area_latch r latch (packet.Segment a b semi) = refl
area_latch r latch (packet.Rect x y w h color textured semi raw u v clut) = refl
area_latch r latch (packet.Fill color x y w h) = refl
area_latch r latch (packet.Copy from to w h) = refl
area_latch r latch (packet.Load x y w h) = refl
area_latch r latch (packet.Store x y w h) = refl
area_latch r latch (packet.Pixels word) = refl
area_latch r latch (packet.Env index value) = refl
area_latch r latch packet.Irq = refl
area_latch r latch packet.Nop = refl
area_latch r latch packet.Finish = refl

area_but_latch : (r now : Registers) (words : List ℕ) → now ≡ record r { held = now.held }
    → area_of now (whole_of now.height words) ≡ area_of r (whole_of r.height words)
area_but_latch r now words e =
    ap (λ (q : Registers). area_of q (whole_of q.height words)) e ∙ area_latch r now.held (whole_of r.height words)

-- The first events after the packet hide it, or it draws nothing.
pub record IsGoneBefore (s : State) (words : List ℕ) (following : List Event) : Type 0 where
  pub first : List Event
  pub rest : List Event
  pub parts : following ≡ first ++ rest
  pub unseen : IsUnseen s words first

no_end : (events : List Event) (e : Event) → [] ≡ events ++ e ∷ [] → ⊥
no_end [] e is = absurd cc
no_end (x ∷ events) e is = absurd cc

covered_unseen : (s : State) (words : List ℕ) (first : List Event)
    → IsCovered (run s (map event.Gp0 words)) first (area_of s.parts.regs (whole_of s.parts.regs.height words))
    → IsUnseen s words first
covered_unseen s words [] h = absurd (no_end h.between (event.Gp0 h.word) h.parts)
covered_unseen s words (e ∷ first) h = h

hidden_by : (c : Control) (s : State) (words : List ℕ) (following : List Event) (n : ℕ) (area : Option Box2)
    → area_of s.parts.regs (whole_of s.parts.regs.height words) ≡ area
    → Tracks (controls (map event.Gp0 words) c) (run s (map event.Gp0 words))
    → is_hidden area following (controls (map event.Gp0 words) c) n ≡ true → IsGoneBefore s words following
hidden_by c s words following n None e tracks h = record { first = []; rest = following; parts = refl; unseen = e }
hidden_by c s words following n (Some b) e tracks h =
    let u = begins_covered following (controls (map event.Gp0 words) c) n (run s (map event.Gp0 words)) b tracks h in
    record {
      first = u.first;
      rest = u.rest;
      parts = u.parts;
      unseen = covered_unseen s words u.first
          (subst (IsCovered (run s (map event.Gp0 words)) u.first) (sym e) u.covered);
    }

pub front_gone : (c : Control) (s : State) (events : List Event) (words : List ℕ) (shown : List ℕ) → Tracks c s
    → length s.parts.m % 1024 ≡ 0
    → IsFront c events words → is_dead c events words ≡ true
    → seen s shown events ≡ seen s shown (drop (length words) events)
front_gone c s events words shown tracks long front dead =
    let following = drop (length words) events in
    let area : area_of s.parts.regs (whole_of s.parts.regs.height words) ≡ area_of c.regs
    (whole_of c.regs.height words) = area_but_latch c.regs s.parts.regs words tracks.regs in
    let u = hidden_by c s words following (window_events + 1 - length words)
    (area_of c.regs (whole_of c.regs.height words)) area (run_tracks (map event.Gp0 words) c s tracks) dead in
    let idle : pending_behind s.words ≡ pending.Idle = tracks.pending ∙ front.idle in
    ap (seen s shown) (front.parts ∙ ap (λ (es : List Event). map event.Gp0 words ++ es) u.parts)
    ∙ seen_gone s shown words u.first u.rest (gone s words u.first front.droppable long idle u.unseen)
    ∙ ap (seen s shown) (sym u.parts)

-- ---- the whole list

pub skipped : (words : List ℕ) (c : Control) (events : List Event)
    → slim_from (map event.Gp0 words ++ events) c (length words) ≡ slim_from events
    (controls (map event.Gp0 words) c) 0
skipped [] c events = refl
skipped (w ∷ ws) c events = skipped ws (controlled c (event.Gp0 w)) events

seen_next : (s : State) (shown : List ℕ) (e : Event) (events : List Event)
    → seen s shown (e ∷ events) ≡ seen (after s e) (shown ++ shown_at s e) events
seen_next s shown e events =
    ap (λ ns. outcome_at ns (run (after s e) events))
    (sym (append_assoc shown (shown_at s e) (told (after s e) events)))

-- For lists of at most n events, leaving out the dead packets changes no visible result.
abbrev Seen : ℕ → Type 0
Seen n = (events : List Event) (c : Control) (s : State) (shown : List ℕ) → length events ≤ n → Tracks c s
    → length s.parts.m % 1024 ≡ 0
    → seen s shown (slim_from events c 0) ≡ seen s shown events

-- The words of a dead packet are skipped, and the control after them is that before them.
dead_skipped : (c : Control) (e : Event) (events : List Event) (k : ℕ) (d : IsDeadFront c (e ∷ events) (suc k))
    → slim_from events (controlled c e) k ≡ slim_from (drop (length d.words) (e ∷ events)) c 0
dead_skipped c e events k d =
    let tail = drop (length d.words) (e ∷ events) in
    ap (slim_from (e ∷ events) c) (sym d.count)
    ∙ ap (λ (es : List Event). slim_from es c (length d.words)) d.is.parts
    ∙ skipped d.words c tail
    ∙ ap (λ (now : Control). slim_from tail now 0) (control_stays d.words c d.is.droppable d.is.idle)

one_seen : (n : ℕ) (shorter : Seen n) (k : ℕ) (e : Event) (events : List Event) (c : Control) (s : State)
    (shown : List ℕ) → length events ≤ n → Tracks c s → length s.parts.m % 1024 ≡ 0
    → dead_len c (e ∷ events) ≡ k
    → seen s shown (kept_by k e (λ skip. slim_from events (controlled c e) skip)) ≡ seen s shown (e ∷ events)
one_seen n shorter zero e events c s shown few tracks long is =
    seen_next s shown e (slim_from events (controlled c e) 0)
    ∙ shorter events (controlled c e) (after s e) (shown ++ shown_at s e) few (event_tracks c s e tracks)
    (ap (λ (m : ℕ). m % 1024) (run_long s (e ∷ [])) ∙ long)
    ∙ sym (seen_next s shown e events)
one_seen n shorter (suc k) e events c s shown few tracks long is =
    let d = dead_front c (e ∷ events) k is in
    let tail = drop (length d.words) (e ∷ events) in
    ap (seen s shown) (dead_skipped c e events k d)
    ∙ shorter tail c s shown (omega (arith, few, d.count, length-drop (length d.words) (e ∷ events))) tracks long
    ∙ sym (front_gone c s (e ∷ events) d.words shown tracks long d.is d.dead)

pub slim_seen : (n : ℕ) → Seen n
slim_seen n [] c s shown few tracks long = refl
slim_seen zero (e ∷ events) c s shown few tracks long = absurd (omega (arith, few))
slim_seen (suc n) (e ∷ events) c s shown few tracks long = one_seen n (slim_seen n)
    (dead_len c (e ∷ events)) e events c s shown (omega (arith, few)) tracks long refl

-- ---- from the first state

kept_ports : (k : ℕ) (e : Event) (rest : ℕ → List Event) → IsAtPorts e → ((j : ℕ) → AreAtPorts (rest j))
    → AreAtPorts (kept_by k e rest)
kept_ports zero e rest port ports = (port, ports 0)
kept_ports (suc k) e rest port ports = ports k

pub slim_ports : (events : List Event) (c : Control) (skip : ℕ) → AreAtPorts events
    → AreAtPorts (slim_from events c skip)
slim_ports [] c skip ports = tt
slim_ports (e ∷ events) c (suc skip) ports = slim_ports events (controlled c e) skip ports.1
slim_ports (e ∷ events) c zero ports = kept_ports (dead_len c (e ∷ events)) e
    (λ skip. slim_from events (controlled c e) skip) ports.0 (λ j. slim_ports events (controlled c e) j ports.1)
