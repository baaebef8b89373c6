-- The law of one packet.
use Rattle.std.proofs.Common.{◌≡◌, ◌%◌, ℕ, List, [], ◌∷◌, ◌++◌, Option, None, Some, map, length, slice_index, inl}
use Rattle.std.proofs.Common.{inr, refl, sym, ap, ◌∙◌, subst, arith, append_assoc, append-nil}
use Rattle.std.proofs.lemmas.Int.{ints}
use Rattle.px_num.specs.declared.shape.Box2.{Box2}
use Rattle.gp0_words.specs.Items.{pending_behind}
use Rattle.gp0_words.specs.Kinds.{first_len_of}
use Rattle.gp0_words.specs.declared.pending.Pending.TheVariants as pending
use Rattle.gp0_words.proofs.Cut.{start_len-positive}
use Rattle.gp0_packets.specs.Packets.{packet_of, whole_of}
use Rattle.gp1_status.specs.Registers.{Registers}
use Rattle.gp0_packets.specs.declared.packet.Packet.{Packet}
use Rattle.gp0_packets.specs.declared.packet.Packet.TheVariants as packet
use Rattle.gpu_capture.specs.declared.event.Event.{Event}
use Rattle.gpu_capture.specs.declared.event.Event.TheVariants as event
use Rattle.gpu_core.specs.Machine.{Parts, State, status_word, after_gp0, effect_of, after_item, new_item}
use Rattle.prim_draw.specs.Apart.{IsIn, AgreeBut}
use Rattle.prim_draw.specs.Areas.{area_of, moved_box}
use Rattle.prim_draw.specs.Draw.{drawn_packet}
use Rattle.prim_draw.proofs.StayLemmas.{drawing_stays}
use Rattle.dead_drawing.specs.States.{PartsAlike, Alike, Same}
use Rattle.event_play.specs.Ports.{AreAtPorts}
use Rattle.dead_drawing.specs.OnePacket.{PacketsAreUnseen, IsDroppable, Holds, Covers, IsCovered, IsUnseen}
use Rattle.dead_drawing.specs.Run.{after, shown_at, run, told}
use Rattle.dead_drawing.proofs.Droppable.{shape_of, plain_kind, whole_draws, packet_is}
use Rattle.dead_drawing.proofs.Effects.{covered_same, parts_same}
use Rattle.dead_drawing.proofs.Events.{run_alike, told_alike, run_same, told_same, same_item, same_rest, run_long}
use Rattle.dead_drawing.proofs.Events.{status_same}
use Rattle.dead_drawing.proofs.PacketWords.{packet_fed}
use Rattle.dead_drawing.proofs.Replays.{Outcome, outcome_at, alike_by, replay_is, seen}
use Rattle.event_play.specs.declared.ending.Ending.TheVariants.{Done}
use Rattle.event_play.specs.Alike.{replay_of}
use Rattle.event_play.specs.Replay.{from_state}

-- ---- runs of two lists

pub run_append : (s : State) (a b : List Event) → run s (a ++ b) ≡ run (run s a) b
run_append s [] b = refl
run_append s (e ∷ a) b = run_append (after s e) a b

pub told_append : (s : State) (a b : List Event) → told s (a ++ b) ≡ told s a ++ told (run s a) b
told_append s [] b = refl
told_append s (e ∷ a) b = ap (λ (ns : List ℕ). shown_at s e ++ ns) (told_append (after s e) a b)
    ∙ sym (append_assoc (shown_at s e) (told (after s e) a) (told (run (after s e) a) b))

pub ports_append : (a b : List Event) → AreAtPorts a → AreAtPorts b → AreAtPorts (a ++ b)
ports_append [] b p q = q
ports_append (e ∷ a) b p q = (p.0, ports_append a b p.1 q)

pub words_are_ports : (words : List ℕ) → AreAtPorts (map event.Gp0 words)
words_are_ports [] = tt
words_are_ports (w ∷ ws) = (tt, words_are_ports ws)

pub words_tell : (s : State) (words : List ℕ) → told s (map event.Gp0 words) ≡ []
unfolding shown_at
words_tell s [] = refl
words_tell s (w ∷ ws) = words_tell (after s (event.Gp0 w)) ws

-- ---- a packet changes only its area

flipped : (among : ℕ → Type 0) (m now : List ℕ) → AgreeBut among m now → AgreeBut among now m
flipped among m now a = record {
  count = sym a.count;
  others = λ k. elim (a.others k) [
    | inl in_it ↦ inl in_it
    | inr same ↦ inr (sym same)
  ];
}

drawn_alike : (p q : Parts) (what : Packet) → q ≡ record p { m = drawn_packet p.regs what p.m }
    → PartsAlike (IsIn (area_of p.regs what)) q p
drawn_alike p q what is = subst (λ (r : Parts). PartsAlike (IsIn (area_of p.regs what)) r p) (sym is)
    (record {
      cells = flipped _ p.m (drawn_packet p.regs what p.m)
          (drawing_stays p.regs what p.m);
      regs = refl;
      load = refl;
      store = refl;
    })

-- The state after the packet and the state without it agree outside of its area.
pub dropped_alike : (s : State) (words : List ℕ) → IsDroppable words → pending_behind s.words ≡ pending.Idle
    → Alike (IsIn (area_of s.parts.regs (whole_of s.parts.regs.height words))) (run s (map event.Gp0 words)) s
dropped_alike s words d idle =
    let shape = shape_of (slice_index words 0) d.kind in
    let fed = packet_fed s (first_len_of (slice_index words 0)) words (plain_kind (slice_index words 0) shape) d.whole
    (start_len-positive (slice_index words 0)) idle in
    record {
      parts = drawn_alike s.parts (run s (map event.Gp0 words)).parts (whole_of s.parts.regs.height words)
          (fed.parts ∙ ap (effect_of s.parts) (packet_is s.parts.regs.height words d.whole)
          ∙ (whole_draws s.parts s.parts.regs.height words shape).is);
      rest = idle ∙ sym fed.rest;
    }

-- ---- the fill that covers it

in_outer : (outer inner : Option Box2) (k : ℕ) → Holds outer inner → IsIn inner k → IsIn outer k
in_outer None None k h within = within
in_outer (Some outer) None k h within = absurd within
in_outer None (Some inner) k h within = absurd h
in_outer (Some outer) (Some inner) k h within = record {
  left = omega (arith, ints, h.left, within.left);
  right = omega (arith, ints, h.right, within.right);
  top = omega (arith, ints, h.top, within.top);
  bottom = omega (arith, ints, h.bottom, within.bottom);
}

pub covers_same : (s t : State) (word : ℕ) (area : Option Box2) → Covers s word area → length s.parts.m % 1024 ≡ 0
    → Alike (IsIn area) s t → Same (after_gp0 s word) (after_gp0 t word)
unfolding after_gp0
covers_same s t word area c whole h =
    let fill : Packet = packet.Fill c.color c.x c.y c.w c.h in
    let first : after_item s.parts (new_item s.words word) ≡ effect_of s.parts fill = ap (after_item s.parts) c.is
    ∙ ap (effect_of s.parts) c.fill in
    let same : packet_of t.parts.regs.height c.item ≡ fill =
    ap (λ (r : Registers). packet_of r.height c.item) h.parts.regs ∙ c.fill in
    let second : after_item t.parts (new_item t.words word) ≡ effect_of t.parts fill =
    ap (after_item t.parts) (same_item s.words t.words word h.rest ∙ c.is) ∙ ap (effect_of t.parts) same in
    record {
      parts = second
          ∙ covered_same (IsIn area) s.parts t.parts c.color c.x c.y c.w c.h
          (λ k within. in_outer (moved_box c.x c.y c.w c.h) area k c.holds within) whole h.parts ∙ sym first;
      rest = same_rest s.words t.words word h.rest;
    }

-- After these events, the two states are the same, and the same words were shown.
pub record IsGone (s t : State) (events : List Event) : Type 0 where
  pub states : Same (run s events) (run t events)
  pub shown : told t events ≡ told s events

covered_gone : (s t : State) (area : Option Box2) (events : List Event) → IsCovered s events area
    → length s.parts.m % 1024 ≡ 0 → Alike (IsIn area) s t → IsGone s t events
unfolding after shown_at
covered_gone s t area events c whole h =
    let so_far = run_alike (IsIn area) s t c.between c.calm h in
    let long : length (run s c.between).parts.m % 1024 ≡ 0 = ap (λ (n : ℕ). n % 1024) (run_long s c.between)
    ∙ whole in
    let last = covers_same (run s c.between) (run t c.between) c.word area c.covers long so_far in
    subst (IsGone s t) (sym c.parts) (record {
      states = subst (λ (u : State). Same u (run t (c.between ++ event.Gp0 c.word ∷ [])))
          (sym (run_append s c.between (event.Gp0 c.word ∷ [])))
          (subst (λ (u : State). Same (after_gp0 (run s c.between) c.word) u)
          (sym (run_append t c.between (event.Gp0 c.word ∷ []))) last);
      shown = told_append t c.between (event.Gp0 c.word ∷ [])
          ∙ ap (λ (ns : List ℕ). ns ++ []) (told_alike (IsIn area) s t c.between c.calm h)
          ∙ sym (told_append s c.between (event.Gp0 c.word ∷ []));
    })

none_same : (s t : State) (area : Option Box2) → area ≡ None → Alike (IsIn area) s t → Same s t
none_same s t area none h =
    let alike = subst (λ (b : Option Box2). PartsAlike (IsIn b) s.parts t.parts) none h.parts in
    record { parts = parts_same s.parts t.parts alike; rest = h.rest }

pub gone : (s : State) (words : List ℕ) (b : List Event) → IsDroppable words → length s.parts.m % 1024 ≡ 0
    → pending_behind s.words ≡ pending.Idle → IsUnseen s words b
    → IsGone (run s (map event.Gp0 words)) s b
gone s words [] d whole idle unseen = record {
  states = none_same (run s (map event.Gp0 words)) s
      (area_of s.parts.regs (whole_of s.parts.regs.height words)) unseen (dropped_alike s words d idle);
  shown = refl;
}
gone s words (e ∷ b) d whole idle unseen =
    covered_gone (run s (map event.Gp0 words)) s (area_of s.parts.regs (whole_of s.parts.regs.height words))
    (e ∷ b) unseen
    (ap (λ (n : ℕ). n % 1024) (run_long s (map event.Gp0 words)) ∙ whole) (dropped_alike s words d idle)

-- ---- whole lists

-- the visible results of a list, by its two parts
pub seen_append : (s : State) (shown : List ℕ) (a b : List Event)
    → seen s shown (a ++ b) ≡ seen (run s a) (shown ++ told s a) b
seen_append s shown a b =
    ap (λ ns. outcome_at (shown ++ ns) (run s (a ++ b))) (told_append s a b)
    ∙ ap (λ ns. outcome_at ns (run s (a ++ b))) (sym (append_assoc shown (told s a) (told (run s a) b)))
    ∙ ap (λ u. outcome_at ((shown ++ told s a) ++ told (run s a) b) u) (run_append s a b)

seen_same : (s t : State) (shown : List ℕ) (c : List Event) → Same s t → seen t shown c ≡ seen s shown c
seen_same s t shown c h =
    let states = run_same s t c h in
    ap (λ ns. outcome_at (shown ++ ns) (run t c)) (told_same s t c h)
    ∙ ap {B = Outcome}
    (λ (n : ℕ). record { ending = Done; shown = shown ++ told s c; status = n; cells = (run t c).parts.m })
    (status_same (run s c) (run t c) states)
    ∙ ap {B = Outcome}
    (λ (p : Parts). record { ending = Done; shown = shown ++ told s c; status = status_word (run s c); cells = p.m })
    states.parts

pub seen_gone : (s : State) (shown words : List ℕ) (b c : List Event) → IsGone (run s (map event.Gp0 words)) s b
    → seen s shown (map event.Gp0 words ++ (b ++ c)) ≡ seen s shown (b ++ c)
seen_gone s shown words b c g =
    let now = run s (map event.Gp0 words) in
    seen_append s shown (map event.Gp0 words) (b ++ c)
    ∙ ap (λ (ns : List ℕ). seen now (shown ++ ns) (b ++ c)) (words_tell s words)
    ∙ ap (λ (ns : List ℕ). seen now ns (b ++ c)) (append-nil shown)
    ∙ seen_append now shown b c
    ∙ ap (λ (ns : List ℕ). seen (run now b) (shown ++ ns) c) (sym g.shown)
    ∙ sym (seen_same (run now b) (run s b) (shown ++ told s b) c g.states)
    ∙ sym (seen_append s shown b c)

pub packet_law : PacketsAreUnseen
packet_law machine a b c words a_ports b_ports c_ports d whole idle unseen =
    let t = from_state machine 0 in
    let s = run machine.gpu a in
    let long : length s.parts.m % 1024 ≡ 0 = ap (λ (n : ℕ). n % 1024) (run_long machine.gpu a) ∙ whole in
    let following = ports_append b c b_ports c_ports in
    let words_too = ports_append (map event.Gp0 words) (b ++ c) (words_are_ports words) following in
    alike_by (replay_of machine (a ++ (b ++ c))) (replay_of machine (a ++ (map event.Gp0 words ++ (b ++ c))))
    (replay_is (a ++ (b ++ c)) t (ports_append a (b ++ c) a_ports following)
    ∙ seen_append machine.gpu [] a (b ++ c)
    ∙ sym (seen_gone s ([] ++ told machine.gpu a) words b c (gone s words b d long idle unseen))
    ∙ sym (seen_append machine.gpu [] a (map event.Gp0 words ++ (b ++ c)))
    ∙ sym (replay_is (a ++ (map event.Gp0 words ++ (b ++ c))) t (ports_append a _ a_ports words_too)))
