-- The window against whole lists.
use Rattle.std.proofs.Common.{◌≡◌, ◌<◌, ◌≤◌, ◌+◌, ◌-◌, ◌&&◌, ltb, ℕ, zero, suc, List, [], ◌∷◌, ◌++◌, Option, None, Some}
use Rattle.std.proofs.Common.{Bool, true, false, cond, length, drop, map, slice_index, refl, sym, ap, ◌∙◌, arith}
use Rattle.std.proofs.Common.{append_assoc}
use Rattle.std.proofs.lemmas.Bool.{ltb-true, ltb-false}
use Rattle.std.proofs.lemmas.List.{length-append, drop_at}
use Rattle.px_num.specs.declared.shape.Box2.{Box2}
use Rattle.gp0_words.specs.Kinds.{first_len_of, kind_of}
use Rattle.gp0_words.specs.declared.kind.Kind.TheVariants.{Plain}
use Rattle.gp0_words.specs.declared.pending.Pending.{Pending}
use Rattle.gp0_words.specs.declared.pending.Pending.TheVariants as pending
use Rattle.gp0_words.proofs.Cut.{start_len-positive}
use Rattle.gp0_packets.specs.Packets.{whole_of}
use Rattle.gp1_status.specs.Registers.{Registers}
use Rattle.gpu_capture.specs.declared.event.Event.{Event}
use Rattle.gpu_capture.specs.declared.event.Event.TheVariants as event
use Rattle.gpu_core.specs.Machine.{is_idle}
use Rattle.prim_draw.specs.Areas.{area_of}
use Rattle.dead_drawing.specs.Control.{Control, controlled, controls, regs_after}
use Rattle.dead_drawing.specs.Dead.{is_droppable, dead_len, dead_words, front, is_covered, is_hidden, words_of}
use Rattle.dead_drawing.specs.Dead.{word_before}
use Rattle.capture_slim.specs.Places.{placed_by, places_from}
use Rattle.capture_slim.specs.declared.slot.Slot.{Slot}
use Rattle.capture_slim.specs.declared.queue.Queue.{Queue}
use Rattle.capture_slim.specs.Window.{Window, settled, kept, kept_words, packet_slots, within, taken_up}
use Rattle.capture_slim.specs.Window.{with_event, with_word, added, area_after, pushed, resolved, start_of}
use Rattle.capture_slim.specs.Window.{value}
use Rattle.capture_slim.specs.Window.{IsBegun}
use Rattle.dead_drawing.specs.OnePacket.{IsDroppable}
use Rattle.dead_drawing.proofs.Droppable.{shape_of, plain_kind, packet_is}
use Rattle.dead_drawing.proofs.PacketWords.{held_of, first_of_all}
use Rattle.dead_drawing.proofs.SlimLaw.{control_last, control_part, control_stays, whole_regs}
use Rattle.capture_slim.proofs.WindowLemmas.{word_kept, word_gone, settled_is, resolved_append}
use Rattle.capture_slim.proofs.WindowLemmas.{kept_resolved, dropped_resolved, open_resolved, kept_long}
use Rattle.capture_slim.proofs.WindowLemmas.{packet_slots_long}

abbrev Outs : Type 0
Outs = List (Option Event)

two : (a b : Bool) → (a && b) ≡ true → (a ≡ true) × (b ≡ true)
two true b e = (refl, e)
two false b e = absurd cc

idle_is : (p : Pending) → is_idle p ≡ true → p ≡ pending.Idle
idle_is pending.Idle e = refl
idle_is (pending.Packet words) e = absurd cc
idle_is (pending.Pixels left) e = absurd cc
idle_is (pending.Poly command color vertex half) e = absurd cc

-- ---- events that stay

first_stays : (c : Control) (e : Event) (following : List Event) → dead_len c (e ∷ following) ≡ 0
    → places_from (e ∷ following) c 0 ≡ Some e ∷ places_from following (controlled c e) 0
first_stays c e following none =
    ap (λ (k : ℕ). placed_by k e (λ skip. places_from following (controlled c e) skip)) none

no_front : (c : Control) (events : List Event) → front c events ≡ None → dead_len c events ≡ 0
unfolding dead_len
no_front c events none = ap (dead_words c events) none

busy_front : (c : Control) (e : Event) (following : List Event) → is_idle c.pending ≡ false
    → front c (e ∷ following) ≡ None
busy_front c (event.Gp0 word) following busy = rw busy refl
busy_front c other following busy = refl

-- the words of a begun packet stay
rest_stays : (ws : List ℕ) (c : Control) (n v : ℕ) (vs : List ℕ) (following : List Event)
    → kind_of (slice_index ((v ∷ vs) ++ ws) 0) ≡ Plain n → length ((v ∷ vs) ++ ws) ≤ n
    → c.pending ≡ pending.Packet (v ∷ vs)
    → places_from (map event.Gp0 ws ++ following) c 0
    ≡ map word_kept ws ++ places_from following (controls (map event.Gp0 ws) c) 0
rest_stays [] c n v vs following kind fits held = refl
rest_stays (w ∷ []) c n v vs following kind fits held =
    first_stays c (event.Gp0 w) following
    (no_front c (event.Gp0 w ∷ following) (busy_front c (event.Gp0 w) following (ap is_idle held)))
rest_stays (w ∷ x ∷ ws) c n v vs following kind fits held =
    let part = control_part c n (v ∷ vs) w kind
    (omega (arith, fits, length-append vs (w ∷ x ∷ ws), length-append vs (w ∷ []))) held in
    let all : (v ∷ vs ++ w ∷ []) ++ x ∷ ws ≡ (v ∷ vs) ++ w ∷ x ∷ ws = append_assoc (v ∷ vs) (w ∷ []) (x ∷ ws) in
    first_stays c (event.Gp0 w) (map event.Gp0 (x ∷ ws) ++ following)
    (no_front c (event.Gp0 w ∷ map event.Gp0 (x ∷ ws) ++ following)
    (busy_front c (event.Gp0 w) (map event.Gp0 (x ∷ ws) ++ following) (ap is_idle held)))
    ∙ ap (λ (outs : Outs). Some (event.Gp0 w) ∷ outs)
    (rest_stays (x ∷ ws) (controlled c (event.Gp0 w)) n v (vs ++ w ∷ []) following kind
    (omega (arith, fits, ap length all)) (ap (λ (d : Control). d.pending) part))

-- ---- a whole packet

words_full : (words : List ℕ) (following : List Event) → words_of (length words) (map event.Gp0 words ++ following)
    ≡ Some words
words_full [] following = refl
words_full (w ∷ ws) following = ap (word_before w) (words_full ws following)

whole_front : (s : Control) (words : List ℕ) (following : List Event) → s.pending ≡ pending.Idle → IsDroppable words
    → front s (map event.Gp0 words ++ following) ≡ Some words
whole_front s [] following idle d = absurd (omega (arith, d.whole, start_len-positive 0))
whole_front s (w ∷ ws) following idle d = rw (ap is_idle idle, d.kind, sym d.whole) (words_full (w ∷ ws) following)

words_long : (words : List ℕ) → length (map event.Gp0 words) ≡ length words
words_long [] = refl
words_long (w ∷ ws) = ap suc (words_long ws)

hidden_len : (s : Control) (words : List ℕ) (following : List Event) → s.pending ≡ pending.Idle → IsDroppable words
    → dead_len s (map event.Gp0 words ++ following)
    ≡ cond (is_hidden (area_of s.regs (whole_of s.regs.height words)) following s (4097 - length words))
    (length words) 0
unfolding dead_len
hidden_len s words following idle d =
    let events = map event.Gp0 words ++ following in
    let rest : drop (length words) events ≡ following = drop_at (map event.Gp0 words) following (length words)
    (words_long words) in
    ap (dead_words s events) (whole_front s words following idle d)
    ∙ ap (λ (es : List Event). cond
    (is_hidden (area_of s.regs (whole_of s.regs.height words)) es (controls (map event.Gp0 words) s)
    (4097 - length words)) (length words) 0) rest
    ∙ ap (λ (c : Control). cond
    (is_hidden (area_of s.regs (whole_of s.regs.height words)) following c (4097 - length words)) (length words) 0)
    (control_stays words s d idle)

skipped : (words : List ℕ) (c : Control) (events : List Event)
    → places_from (map event.Gp0 words ++ events) c (length words)
    ≡ map word_gone words ++ places_from events (controls (map event.Gp0 words) c) 0
skipped [] c events = refl
skipped (w ∷ ws) c events = ap (λ (outs : Outs). None ∷ outs) (skipped ws (controlled c (event.Gp0 w)) events)

chosen : (t : Bool) (s : Control) (w : ℕ) (ws : List ℕ) (following : List Event) → s.pending ≡ pending.Idle
    → IsDroppable (w ∷ ws)
    → dead_len s (map event.Gp0 (w ∷ ws) ++ following) ≡ cond t (length (w ∷ ws)) 0
    → places_from (map event.Gp0 (w ∷ ws) ++ following) s 0
    ≡ cond t (map word_gone (w ∷ ws)) (map word_kept (w ∷ ws)) ++ places_from following s 0
chosen true s w ws following idle d e =
    ap (λ (k : ℕ). placed_by k (event.Gp0 w)
    (λ skip. places_from (map event.Gp0 ws ++ following) (controlled s (event.Gp0 w)) skip)) e
    ∙ ap (λ (outs : Outs). None ∷ outs) (skipped ws (controlled s (event.Gp0 w)) following)
    ∙ ap (λ (c : Control). map word_gone (w ∷ ws) ++ places_from following c 0) (control_stays (w ∷ ws) s d idle)
chosen false s w ws following idle d e =
    first_stays s (event.Gp0 w) (map event.Gp0 ws ++ following) e
    ∙ ap (λ (outs : Outs). word_kept w ∷ outs) (after_first ws d)
    ∙ ap (λ (c : Control). map word_kept (w ∷ ws) ++ places_from following c 0) (control_stays (w ∷ ws) s d idle)
  where
    after_first : (us : List ℕ) → IsDroppable (w ∷ us)
        → places_from (map event.Gp0 us ++ following) (controlled s (event.Gp0 w)) 0
        ≡ map word_kept us ++ places_from following (controls (map event.Gp0 us) (controlled s (event.Gp0 w))) 0
    after_first [] d = refl
    after_first (u ∷ us) d =
        let kind = plain_kind w (shape_of w d.kind) in
        let part = control_part s (first_len_of w) [] w kind (omega (arith, d.whole)) idle in
        rest_stays (u ∷ us) (controlled s (event.Gp0 w)) (first_len_of w) w [] following kind (omega (arith, d.whole))
        (ap (λ (c : Control). c.pending) part)

zero_add : (n : ℕ) → 0 + n ≡ n
zero_add n = omega arith

-- a packet is kept or dropped by what follows it
packet_slots_is : (s : Control) (w : ℕ) (ws : List ℕ) (following : List Event) → s.pending ≡ pending.Idle
    → IsDroppable (w ∷ ws)
    → places_from (map event.Gp0 (w ∷ ws) ++ following) s 0
    ≡ resolved (packet_slots (w ∷ ws) (area_of s.regs (whole_of s.regs.height (w ∷ ws)))) 0 s following
    ++ places_from following s 0
packet_slots_is s w ws following idle d = by_area (area_of s.regs (whole_of s.regs.height (w ∷ ws)))
    (hidden_len s (w ∷ ws) following idle d)
  where
    by_area : (area : Option Box2)
        → dead_len s (map event.Gp0 (w ∷ ws) ++ following) ≡ cond (is_hidden area following s (4097 - length (w ∷ ws)))
        (length (w ∷ ws)) 0
        → places_from (map event.Gp0 (w ∷ ws) ++ following) s 0
        ≡ resolved (packet_slots (w ∷ ws) area) 0 s following ++ places_from following s 0
    by_area None e =
        chosen true s w ws following idle d e
        ∙ sym (ap (λ (outs : Outs). outs ++ places_from following s 0) (dropped_resolved (w ∷ ws) 0 s following))
    by_area (Some b) e =
        let t = is_covered following s (4097 - length (w ∷ ws)) b in
        chosen t s w ws following idle d e
        ∙ sym (ap (λ (outs : Outs). outs ++ places_from following s 0)
        (open_resolved (w ∷ ws) 0 b s following t
        (ap (λ (n : ℕ). is_covered following s (4097 - n) b) (zero_add (length (w ∷ ws))))))

-- ---- an incomplete packet

-- the words so far, from its start
begun_control : (ws : List ℕ) (c : Control) (n : ℕ) (done : List ℕ) (w : ℕ) → kind_of (slice_index (done ++ w ∷ ws) 0)
    ≡ Plain n
    → length (done ++ w ∷ ws) < n → c.pending ≡ held_of done
    → controls (map event.Gp0 (w ∷ ws)) c ≡ record { regs = c.regs; pending = held_of (done ++ w ∷ ws) }
begun_control [] c n done w kind part held = control_part c n done w kind part held
begun_control (v ∷ ws) c n done w kind part held =
    let first = first_of_all done w (v ∷ ws) in
    let begun = control_part c n done w (ap kind_of (sym first) ∙ kind)
    (omega (arith, part, length-append done (w ∷ v ∷ ws), length-append done (w ∷ []))) held in
    let all : (done ++ w ∷ []) ++ v ∷ ws ≡ done ++ w ∷ v ∷ ws = append_assoc done (w ∷ []) (v ∷ ws) in
    ap (controls (map event.Gp0 (v ∷ ws))) begun
    ∙ begun_control ws (record { regs = c.regs; pending = held_of (done ++ w ∷ []) }) n (done ++ w ∷ []) v
    (ap (λ (l : List ℕ). kind_of (slice_index l 0)) all ∙ kind) (omega (arith, part, ap length all)) refl
    ∙ ap {B = Control} (λ (l : List ℕ). record { regs = c.regs; pending = held_of l }) all

-- another event follows although a word comes next
abbrev IsCut : List Event → Type 0
IsCut (event.Gp0 word ∷ following) = ⊥
IsCut other = Unit {0}

none_of : (n : ℕ) (following : List Event) → 0 < n → IsCut following → words_of n following ≡ None
none_of zero following some cut = absurd (omega (arith, some))
none_of (suc n) [] some cut = refl
none_of (suc n) (event.Gp0 word ∷ following) some cut = absurd cut
none_of (suc n) (other ∷ following) some cut = refl

words_short : (n : ℕ) (words : List ℕ) (following : List Event) → length words < n → IsCut following
    → words_of n (map event.Gp0 words ++ following) ≡ None
words_short n [] following short cut = none_of n following short cut
words_short zero (w ∷ ws) following short cut = absurd (omega (arith, short))
words_short (suc n) (w ∷ ws) following short cut =
    ap (word_before w) (words_short n ws following (omega (arith, short)) cut)

cut_front : (s : Control) (w : ℕ) (ws : List ℕ) (following : List Event) → length (w ∷ ws) < first_len_of w
    → IsCut following
    → front s (map event.Gp0 (w ∷ ws) ++ following) ≡ None
cut_front s w ws following short cut = rw (words_short (first_len_of w) (w ∷ ws) following short cut)
    (same (is_idle s.pending && is_droppable w))
  where
    same : (b : Bool) → cond {A = Option (List ℕ)} b None None ≡ None
    same true = refl
    same false = refl

-- the words of a packet that is cut off stay
pub begun_stays : (c : Control) (w : ℕ) (ws : List ℕ) (following : List Event) → IsBegun (w ∷ ws) c → IsCut following
    → places_from (map event.Gp0 (w ∷ ws) ++ following) (start_of (w ∷ ws) c) 0
    ≡ map word_kept (w ∷ ws) ++ places_from following c 0
begun_stays c w ws following begun cut =
    let s : Control = record { regs = c.regs; pending = pending.Idle } in
    let kind = plain_kind w (shape_of w begun.1) in
    let none = no_front s (map event.Gp0 (w ∷ ws) ++ following) (cut_front s w ws following begun.2 cut) in
    let now : controls (map event.Gp0 (w ∷ ws)) s ≡ c =
    begun_control ws s (first_len_of w) [] w kind begun.2 refl
    ∙ ap {B = Control} (λ (p : Pending). record { regs = c.regs; pending = p }) (sym begun.0) in
    let part = control_part s (first_len_of w) [] w kind (omega (arith, begun.2)) refl in
    first_stays s (event.Gp0 w) (map event.Gp0 ws ++ following) none
    ∙ ap (λ (outs : Outs). word_kept w ∷ outs)
    (rest_stays ws (controlled s (event.Gp0 w)) (first_len_of w) w [] following kind (omega (arith, begun.2))
    (ap (λ (d : Control). d.pending) part))
    ∙ ap (λ (d : Control). map word_kept (w ∷ ws) ++ places_from following d 0) now

-- ---- one more event

-- what is appended to the slots
put_after : (slots more : List Slot) (n : ℕ) (c : Control) (following : List Event) → length more ≡ n
    → resolved (slots ++ more) 0 c following ++ places_from following c 0
    ≡ resolved slots n c following ++ (resolved more 0 c following ++ places_from following c 0)
put_after slots more n c following long =
    let all : length more + 0 ≡ n = omega (arith, long) in
    ap (λ (outs : Outs). outs ++ places_from following c 0) (resolved_append slots more 0 c following)
    ∙ append_assoc (resolved slots (length more + 0) c following) (resolved more 0 c following)
    (places_from following c 0)
    ∙ ap (λ (k : ℕ). resolved slots k c following ++ (resolved more 0 c following ++ places_from following c 0)) all

-- an event that is no word of a packet that may be dropped
event_value : (slots : List Slot) (words : List ℕ) (c : Control) (e : Event) (following : List Event)
    → places_from (map event.Gp0 words ++ e ∷ following) (start_of words c) 0
    ≡ map word_kept words ++ Some e ∷ places_from following (controlled c e) 0
    → resolved slots (suc (length words)) (controlled c e) following
    ++ places_from (map event.Gp0 words ++ e ∷ following)
    (start_of words c) 0
    ≡ value (within (with_event slots words e) (controlled c e)) following
event_value slots words c e following stays =
    let now = controlled c e in
    let more = kept_words words ++ kept e ∷ [] in
    let long : length more
    ≡ suc (length words) = omega (arith, length-append (kept_words words) (kept e ∷ []), kept_long words) in
    let all : resolved more 0 now following ≡ map word_kept words ++ Some e ∷ [] =
    resolved_append (kept_words words) (kept e ∷ []) 0 now following
    ∙ ap (λ (outs : Outs). outs ++ Some e ∷ []) (kept_resolved words (length (kept e ∷ []) + 0) now following) in
    ap (λ (outs : Outs). resolved slots (suc (length words)) now following ++ outs)
    (stays ∙ sym (append_assoc (map word_kept words) (Some e ∷ []) (places_from following now 0))
    ∙ ap (λ (outs : Outs). outs ++ places_from following now 0) (sym all))
    ∙ sym (put_after slots more (suc (length words)) now following long)

-- a word of a packet that may be dropped
start_some : (done : List ℕ) (w : ℕ) (c : Control) → start_of (done ++ w ∷ []) c
    ≡ record { regs = c.regs; pending = pending.Idle }
start_some [] w c = refl
start_some (v ∷ vs) w c = refl

packet_slots_any : (s : Control) (words : List ℕ) (following : List Event) → s.pending ≡ pending.Idle
    → IsDroppable words
    → places_from (map event.Gp0 words ++ following) s 0
    ≡ resolved (packet_slots words (area_of s.regs (whole_of s.regs.height words))) 0 s following
    ++ places_from following s 0
packet_slots_any s [] following idle d = absurd (omega (arith, d.whole, start_len-positive 0))
packet_slots_any s (w ∷ ws) following idle d = packet_slots_is s w ws following idle d

-- a word that is appended to the packet's words
pub record IsTaken (c : Control) (done : List ℕ) (word : ℕ) : Type 0 where
  pub held : c.pending ≡ held_of done
  pub kind : is_droppable (slice_index (done ++ word ∷ []) 0) ≡ true
  pub fits : length (done ++ word ∷ []) ≤ first_len_of (slice_index (done ++ word ∷ []) 0)

now_whole : (c : Control) (done : List ℕ) (word : ℕ) → IsTaken c done word
    → length (done ++ word ∷ []) ≡ first_len_of (slice_index (done ++ word ∷ []) 0)
    → controlled c (event.Gp0 word) ≡ record { regs = c.regs; pending = pending.Idle }
now_whole c done word t whole =
    let words = done ++ word ∷ [] in
    let shape = shape_of (slice_index words 0) t.kind in
    control_last c (first_len_of (slice_index words 0)) done word (plain_kind (slice_index words 0) shape) whole t.held
    ∙ ap {B = Control} (λ (r : Registers). record { regs = r; pending = pending.Idle })
    (ap (regs_after c.regs) (packet_is c.regs.height words whole) ∙ whole_regs c.regs c.regs.height words shape)

now_part : (c : Control) (done : List ℕ) (word : ℕ) → IsTaken c done word
    → length (done ++ word ∷ []) < first_len_of (slice_index (done ++ word ∷ []) 0)
    → controlled c (event.Gp0 word) ≡ record { regs = c.regs; pending = held_of (done ++ word ∷ []) }
now_part c done word t part =
    let words = done ++ word ∷ [] in
    control_part c (first_len_of (slice_index words 0)) done word
    (plain_kind (slice_index words 0) (shape_of (slice_index words 0) t.kind)) part t.held

words_value : (slots : List Slot) (c : Control) (done : List ℕ) (word : ℕ) (following : List Event)
    → IsTaken c done word
    → resolved slots (length (done ++ word ∷ [])) (controlled c (event.Gp0 word)) following
    ++ places_from (map event.Gp0 (done ++ word ∷ []) ++ following) (record { regs = c.regs; pending = pending.Idle }) 0
    ≡ value (within (taken_up slots (done ++ word ∷ []) (area_after c done (event.Gp0 word)))
    (controlled c (event.Gp0 word))) following
words_value slots c done word following t = by_test
    (ltb (length (done ++ word ∷ [])) (first_len_of (slice_index (done ++ word ∷ []) 0))) refl
  where
    by_test : (b : Bool) → ltb (length (done ++ word ∷ [])) (first_len_of (slice_index (done ++ word ∷ []) 0)) ≡ b
        → resolved slots (length (done ++ word ∷ [])) (controlled c (event.Gp0 word)) following
        ++ places_from (map event.Gp0 (done ++ word ∷ []) ++ following)
        (record { regs = c.regs; pending = pending.Idle }) 0
        ≡ value (within (cond b (record { slots = slots; words = done ++ word ∷ [] })
        (record { slots = slots ++ packet_slots (done ++ word ∷ []) (area_after c done (event.Gp0 word)); words = [] }))
        (controlled c (event.Gp0 word))) following
    by_test true e =
        let part : length (done ++ word ∷ []) < first_len_of (slice_index (done ++ word ∷ []) 0) = ltb-true _ _ e in
        let start : start_of (done ++ word ∷ []) (controlled c (event.Gp0 word))
        ≡ record { regs = c.regs; pending = pending.Idle } =
        start_some done word (controlled c (event.Gp0 word))
        ∙ ap {B = Control} (λ (d : Control). record { regs = d.regs; pending = pending.Idle })
        (now_part c done word t part) in
        ap (λ (s : Control). resolved slots (length (done ++ word ∷ [])) (controlled c (event.Gp0 word)) following
        ++ places_from (map event.Gp0 (done ++ word ∷ []) ++ following) s 0) (sym start)
    by_test false e =
        let whole : length (done ++ word ∷ []) ≡ first_len_of (slice_index (done ++ word ∷ []) 0) = omega
        (arith, t.fits, ltb-false _ _ e) in
        let s : Control = record { regs = c.regs; pending = pending.Idle } in
        let words = done ++ word ∷ [] in
        let more = packet_slots words (area_of c.regs (whole_of c.regs.height words)) in
        let now = now_whole c done word t whole in
        ap (λ (outs : Outs). resolved slots (length words) (controlled c (event.Gp0 word)) following ++ outs)
        (packet_slots_any s words following refl (record { kind = t.kind; whole = whole }))
        ∙ ap (λ (d : Control). resolved slots (length words) (controlled c (event.Gp0 word)) following ++
        (resolved more 0 d following ++ places_from following d 0)) (sym now)
        ∙ sym (put_after slots more (length words) (controlled c (event.Gp0 word)) following
        (packet_slots_long words (area_of c.regs (whole_of c.regs.height words))))

cut_stays : (words : List ℕ) (c : Control) (e : Event) (following : List Event) → IsBegun words c
    → IsCut (e ∷ following)
    → dead_len c (e ∷ following) ≡ 0
    → places_from (map event.Gp0 words ++ e ∷ following) (start_of words c) 0
    ≡ map word_kept words ++ Some e ∷ places_from following (controlled c e) 0
cut_stays [] c e following begun cut none = first_stays c e following none
cut_stays (v ∷ vs) c e following begun cut none =
    begun_stays c v vs (e ∷ following) begun cut ∙ ap (λ (outs : Outs). map word_kept (v ∷ vs) ++ outs)
    (first_stays c e following none)

-- the words and one more
more_words : (words : List ℕ) (word : ℕ) (following : List Event) → map event.Gp0 words ++ event.Gp0 word ∷ following
    ≡ map event.Gp0 (words ++ word ∷ []) ++ following
more_words [] word following = refl
more_words (w ∷ ws) word following = ap (λ (es : List Event). event.Gp0 w ∷ es) (more_words ws word following)

taken_value : (slots : List Slot) (c : Control) (done : List ℕ) (word : ℕ) (following : List Event)
    → IsTaken c done word
    → resolved slots (suc (length done)) (controlled c (event.Gp0 word)) following
    ++ places_from (map event.Gp0 done ++ event.Gp0 word ∷ following)
    (record { regs = c.regs; pending = pending.Idle }) 0
    ≡ value (within (taken_up slots (done ++ word ∷ []) (area_after c done (event.Gp0 word)))
    (controlled c (event.Gp0 word))) following
taken_value slots c done word following t =
    let long : suc (length done) ≡ length (done ++ word ∷ []) = omega (arith, length-append done (word ∷ [])) in
    ap (λ (n : ℕ). resolved slots n (controlled c (event.Gp0 word)) following ++ places_from
    (map event.Gp0 done ++ event.Gp0 word ∷ following) (record { regs = c.regs; pending = pending.Idle }) 0) long
    ∙ ap (λ (es : List Event). resolved slots (length (done ++ word ∷ [])) (controlled c (event.Gp0 word)) following
    ++ places_from es (record { regs = c.regs; pending = pending.Idle }) 0) (more_words done word following)
    ∙ words_value slots c done word following t

pub taken_more : (c : Control) (v : ℕ) (vs : List ℕ) (word : ℕ) → IsBegun (v ∷ vs) c → IsTaken c (v ∷ vs) word
taken_more c v vs word begun = record {
  held = begun.0;
  kind = begun.1;
  fits = omega
      (arith, begun.2, length-append vs (word ∷ []));
}

pub taken_first : (c : Control) (word : ℕ) → (is_idle c.pending && is_droppable word) ≡ true → IsTaken c [] word
taken_first c word is =
    let u = two (is_idle c.pending) (is_droppable word) is in
    record { held = idle_is c.pending u.0; kind = u.1; fits = omega (arith, start_len-positive word) }

word_value : (words : List ℕ) (slots : List Slot) (c : Control) (word : ℕ) (following : List Event) → IsBegun words c
    → resolved slots (suc (length words)) (controlled c (event.Gp0 word)) following ++ places_from
    (map event.Gp0 words ++ event.Gp0 word ∷ following) (start_of words c) 0
    ≡ value (within (with_word slots words word (is_idle c.pending) (area_after c words (event.Gp0 word)))
    (controlled c (event.Gp0 word))) following
word_value (v ∷ vs) slots c word following begun =
    taken_value slots c (v ∷ vs) word following (taken_more c v vs word begun)
word_value [] slots c word following begun = by_test (is_idle c.pending && is_droppable word) refl
  where
    by_test : (b : Bool) → (is_idle c.pending && is_droppable word) ≡ b
        → resolved slots 1 (controlled c (event.Gp0 word)) following ++ places_from (event.Gp0 word ∷ following) c 0
        ≡ value (within (cond b (taken_up slots (word ∷ []) (area_after c [] (event.Gp0 word)))
        (with_event slots [] (event.Gp0 word))) (controlled c (event.Gp0 word))) following
    by_test true is =
        let t = taken_first c word is in
        ap (λ (p : Pending). resolved slots 1 (controlled c (event.Gp0 word)) following ++ places_from
        (event.Gp0 word ∷ following) (record { regs = c.regs; pending = p }) 0) t.held
        ∙ taken_value slots c [] word following t
    by_test false is =
        event_value slots [] c (event.Gp0 word) following
        (first_stays c (event.Gp0 word) following (no_front c (event.Gp0 word ∷ following) (rw is refl)))

pushed_value : (slots : List Slot) (words : List ℕ) (c : Control) (e : Event) (following : List Event) → IsBegun words c
    → resolved slots (suc (length words)) (controlled c e) following
    ++ places_from (map event.Gp0 words ++ e ∷ following)
    (start_of words c) 0
    ≡ value (within (added (record { slots = slots; words = words }) e (is_idle c.pending) (area_after c words e))
    (controlled c e)) following
pushed_value slots words c (event.Gp0 word) following begun = word_value words slots c word following begun
pushed_value slots words c other following begun =
    event_value slots words c other following
    (cut_stays words c other following begun tt (no_front c (other ∷ following) refl))

pub one_more : (w : Window) (e : Event) (following : List Event) → IsBegun w.words w.control → value w (e ∷ following)
    ≡ value (pushed w e) following
unfolding pushed
one_more w e following begun =
    ap (λ (outs : Outs). outs ++ places_from (map event.Gp0 w.words ++ e ∷ following) (start_of w.words w.control) 0)
    (settled_is w.slots (length w.words) w.control e following)
    ∙ pushed_value (settled w.slots (length w.words) w.control e) w.words w.control e following begun

-- ---- the packet is incomplete if there are words

begun_some : (done : List ℕ) (word : ℕ) (d : Control) → d.pending ≡ held_of (done ++ word ∷ [])
    → is_droppable (slice_index (done ++ word ∷ []) 0) ≡ true
    → length (done ++ word ∷ []) < first_len_of (slice_index (done ++ word ∷ []) 0) → IsBegun (done ++ word ∷ []) d
begun_some [] word d held kind part = (held, kind, part)
begun_some (v ∷ vs) word d held kind part = (held, kind, part)

taken_begun : (slots : List Slot) (c : Control) (done : List ℕ) (word : ℕ) → IsTaken c done word
    → IsBegun (taken_up slots (done ++ word ∷ []) (area_after c done (event.Gp0 word))).words
    (controlled c (event.Gp0 word))
taken_begun slots c done word t = by_test
    (ltb (length (done ++ word ∷ [])) (first_len_of (slice_index (done ++ word ∷ []) 0))) refl
  where
    by_test : (b : Bool) → ltb (length (done ++ word ∷ [])) (first_len_of (slice_index (done ++ word ∷ []) 0)) ≡ b
        → IsBegun (cond {A = Queue} b (record { slots = slots; words = done ++ word ∷ [] }) (record {
          slots = slots ++ packet_slots (done ++ word ∷ []) (area_after c done (event.Gp0 word));
          words = [];
        })).words
        (controlled c (event.Gp0 word))
    by_test true e =
        let part : length (done ++ word ∷ []) < first_len_of (slice_index (done ++ word ∷ []) 0) = ltb-true _ _ e in
        begun_some done word (controlled c (event.Gp0 word))
        (ap (λ (d : Control). d.pending) (now_part c done word t part)) t.kind part
    by_test false e = tt

word_begun : (words : List ℕ) (slots : List Slot) (c : Control) (word : ℕ) → IsBegun words c
    → IsBegun (with_word slots words word (is_idle c.pending) (area_after c words (event.Gp0 word))).words
    (controlled c (event.Gp0 word))
word_begun (v ∷ vs) slots c word begun = taken_begun slots c (v ∷ vs) word (taken_more c v vs word begun)
word_begun [] slots c word begun = by_test (is_idle c.pending && is_droppable word) refl
  where
    by_test : (b : Bool) → (is_idle c.pending && is_droppable word) ≡ b
        → IsBegun (cond b (taken_up slots (word ∷ []) (area_after c [] (event.Gp0 word)))
        (with_event slots [] (event.Gp0 word))).words (controlled c (event.Gp0 word))
    by_test true is = taken_begun slots c [] word (taken_first c word is)
    by_test false is = tt

pub pushed_begun : (w : Window) (e : Event) → IsBegun w.words w.control
    → IsBegun (pushed w e).words (pushed w e).control
unfolding pushed
pushed_begun w (event.Gp0 word) begun = word_begun w.words
    (settled w.slots (length w.words) w.control (event.Gp0 word)) w.control word begun
pushed_begun w other begun = tt
