-- Slots updated by the effect of an event.
use Rattle.std.proofs.Common.{◌≡◌, ◌<◌, ◌≤◌, ◌+◌, ◌-◌, not, ltb, ℕ, suc, List, [], ◌∷◌, ◌++◌, Option, None, Some, Bool}
use Rattle.std.proofs.Common.{true, false, cond, length, take, drop, slice_get, get_or, option_to_list, refl, sym, ap}
use Rattle.std.proofs.Common.{◌∙◌, arith, append_assoc}
use Rattle.std.proofs.lemmas.Bool.{lt-ltb, le-ltb}
use Rattle.std.proofs.lemmas.List.{length-append, drop_more, take_more}
use Rattle.circular_buffer.specs.Buffer.{Buffer, buffer, keep_last}
use Rattle.px_num.specs.declared.shape.Box2.{Box2}
use Rattle.gp0_words.specs.Next.{next_item}
use Rattle.gp0_words.specs.declared.item.Item.{Item}
use Rattle.gp0_packets.specs.Packets.{packet_of}
use Rattle.gp0_packets.specs.declared.packet.Packet.{Packet}
use Rattle.gp0_packets.specs.declared.packet.Packet.TheVariants as packet
use Rattle.gpu_capture.specs.declared.event.Event.{Event}
use Rattle.gpu_capture.specs.declared.event.Event.TheVariants as event
use Rattle.prim_draw.specs.Areas.{moved_box}
use Rattle.dead_drawing.specs.Control.{Control}
use Rattle.capture_slim.specs.Effect.{cover_of, may_read_if, packet_effect, item_effect, event_effect, covers}
use Rattle.capture_slim.specs.Effect.{reads_nothing, settle_by}
use Rattle.capture_slim.specs.Settling.{IsSettled, AreSettled, KeepsSlots, all_shut, shut, mark_of, settled_by, turned}
use Rattle.dead_drawing.specs.Dead.{holds_in, fills, fills_by, fills_at, is_calm, is_calm_by, is_calm_at}
use Rattle.capture_slim.specs.Window.{left_of, dropped_words, packet_slots, kept_words, open_words, settle, settled}
use Rattle.capture_slim.specs.Places.{kept_of}
use Rattle.capture_slim.specs.Stream.{first_left, leaving_from, staying_from}
use Rattle.capture_slim.specs.declared.effect.Effect.{Effect}
use Rattle.capture_slim.specs.declared.effect.Effect.TheVariants.{Nothing, MayRead, Cover}
use Rattle.capture_slim.specs.declared.slot.Mark.{Mark}
use Rattle.capture_slim.specs.declared.slot.Mark.TheVariants.{Kept, Dropped, Open}
use Rattle.capture_slim.specs.declared.slot.Slot.{Slot}

-- ---- effects

-- an effect, as the two tests that define it
record Says (say : Effect) (b : Box2) (filling calming : Bool) : Type 0 where
  fill : covers say b ≡ filling
  calm : reads_nothing say ≡ calming

cover_says : (area : Option Box2) (b : Box2) → Says (cover_of area) b (holds_in area b) true
cover_says None b = record { fill = refl; calm = refl }
cover_says (Some area) b = record { fill = refl; calm = refl }

may_read_says : (textured : Bool) (b : Box2) → Says (may_read_if textured) b false (not textured)
may_read_says true b = record { fill = refl; calm = refl }
may_read_says false b = record { fill = refl; calm = refl }

packet_says : (what : Packet) (b : Box2) → Says (packet_effect what) b (fills what b) (is_calm what)
packet_says (packet.Fill color x y w h) b = cover_says (moved_box x y w h) b
packet_says (packet.Poly four a b c d shaded textured semi raw clut page) box = may_read_says textured box
packet_says (packet.Rect x y w h color textured semi raw u v clut) b = may_read_says textured b
packet_says other b = record { fill = refl; calm = refl }

item_says : (height : ℕ) (item : Option Item) (b : Box2)
    → Says (item_effect height item) b (fills_by height item b) (is_calm_by height item)
item_says height None b = record { fill = refl; calm = refl }
item_says height (Some item) b = packet_says (packet_of height item) b

event_says : (c : Control) (e : Event) (b : Box2) → Says (event_effect c e) b (fills_at c e b) (is_calm_at c e)
event_says c (event.Gp0 word) b = item_says c.regs.height (next_item c.pending word) b
event_says c other b = record { fill = refl; calm = refl }

open_by : (b : Box2) (i age : ℕ) (say : Effect) → cond (covers say b) (cond (ltb (age + i) 4096) Dropped Kept)
    (cond (reads_nothing say) (Open b i) Kept) ≡ settle_by (Open b i) age say
open_by b i age Nothing = refl
open_by b i age MayRead = refl
open_by b i age (Cover area) = refl

mark_by : (mark : Mark) (age : ℕ) (c : Control) (e : Event)
    → settle mark age c e ≡ settle_by mark age (event_effect c e)
mark_by Kept age c e = refl
mark_by Dropped age c e = refl
mark_by (Open b i) age c e =
    let says = event_says c e b in
    ap (λ (t : Bool). cond t (cond (ltb (age + i) 4096) Dropped Kept) (cond (is_calm_at c e) (Open b i) Kept))
    (sym says.fill)
    ∙ ap (λ (t : Bool). cond (covers (event_effect c e) b) (cond (ltb (age + i) 4096) Dropped Kept)
    (cond t (Open b i) Kept)) (sym says.calm)
    ∙ open_by b i age (event_effect c e)

pub settled_is_by : (slots : List Slot) (after : ℕ) (c : Control) (e : Event) → settled slots after c e
    ≡ settled_by slots after (event_effect c e)
settled_is_by [] after c e = refl
settled_is_by (s ∷ slots) after c e =
    ap (λ (m : Mark). record { event = s.event; mark = m } ∷ settled slots after c e)
    (mark_by s.mark (length slots + after) c e)
    ∙ ap (λ (ss : List Slot). record {
      event = s.event;
      mark = settle_by s.mark (length slots + after) (event_effect c e);
    }
    ∷ ss) (settled_is_by slots after c e)

-- ---- slot by slot

pub settled_by_long : (slots : List Slot) (after : ℕ) (say : Effect) → length (settled_by slots after say)
    ≡ length slots
settled_by_long [] after say = refl
settled_by_long (s ∷ slots) after say = ap suc (settled_by_long slots after say)

-- one more slot at the end
pub settled_by_push : (slots : List Slot) (s : Slot) (after : ℕ) (say : Effect)
    → settled_by (slots ++ s ∷ []) after say ≡ settled_by slots (suc after) say
    ++ record { event = s.event; mark = settle_by s.mark after say } ∷ []
settled_by_push [] s after say = let age : 0 + after ≡ after = omega arith in rw age refl
settled_by_push (x ∷ slots) s after say =
    let age : length (slots ++ s ∷ []) + after ≡ length slots + suc after = omega
    (arith, length-append slots (s ∷ [])) in
    ap (λ (n : ℕ). record { event = x.event; mark = settle_by x.mark n say } ∷ settled_by (slots ++ s ∷ []) after say)
    age
    ∙ ap (λ (ss : List Slot). record { event = x.event; mark = settle_by x.mark (length slots + suc after) say } ∷ ss)
    (settled_by_push slots s after say)

-- what fits is kept
pub keep_all : {X : Type 0} (n : ℕ) (xs : List X) → length xs ≤ n → keep_last n xs ≡ xs
keep_all n xs le = let none : length xs - n ≡ 0 = omega (arith, le) in ap (λ (k : ℕ). drop k xs) none

pub goes_last : (b now : Buffer Slot) (s : Slot) → length b.items < b.capacity
    → now ≡ buffer (keep_last b.capacity (b.items ++ s ∷ [])) b.capacity → now ≡ buffer (b.items ++ s ∷ []) b.capacity
goes_last b now s lt is = is ∙ ap (λ (l : List Slot). buffer l b.capacity)
    (keep_all b.capacity (b.items ++ s ∷ []) (omega (arith, lt, length-append b.items (s ∷ []))))

-- the first of some slots is updated and moved to the end
pub turned_is : (items : List Slot) (s : Slot) (n age : ℕ) (say : Effect) → Some s ≡ slice_get items 0
    → length items ≤ n
    → keep_last n (drop 1 items ++ record { event = s.event; mark = settle_by s.mark age say } ∷ [])
    ≡ turned items age say
turned_is [] s n age say e le = absurd cc
turned_is (x ∷ items) s n age say e le =
    let same : s ≡ x = cc in
    keep_all n _
    (omega (arith, le, length-append items (record { event = s.event; mark = settle_by s.mark age say } ∷ [])))
    ∙ ap (λ (y : Slot). items ++ record { event = y.event; mark = settle_by y.mark age say } ∷ []) same

turned_split : (settled_ones back : List Slot) (s : Slot) (age : ℕ) (say : Effect)
    → turned ((s ∷ back) ++ settled_ones) age say
    ≡ back ++ (settled_ones ++ record { event = s.event; mark = settle_by s.mark age say } ∷ [])
turned_split settled_ones back s age say = append_assoc back settled_ones
    (record { event = s.event; mark = settle_by s.mark age say } ∷ [])

-- one more slot of the front is updated
pub turned_next : (items : List Slot) (i after age : ℕ) (say : Effect) → i < length items
    → age ≡ length items - (i + 1) + after
    → turned (drop i items ++ settled_by (take i items) (length items - i + after) say) age say
    ≡ drop (i + 1) items ++ settled_by (take (i + 1) items) (length items - (i + 1) + after) say
turned_next items i after age say lt is =
    let d : Slot = record { event = event.Read; mark = Kept } in
    let s = get_or items i d in
    let first : drop i items ≡ s ∷ drop (i + 1) items = drop_more items i d lt in
    let front : take (i + 1) items ≡ take i items ++ s ∷ [] = take_more items i d lt in
    let more : length items - i + after ≡ suc age = omega (arith, lt, is) in
    let same : length items - (i + 1) + after ≡ age = sym is in
    rw (first, front, more, same)
    (turned_split (settled_by (take i items) (suc age) say) (drop (i + 1) items) s age say
    ∙ ap (λ (ss : List Slot). drop (i + 1) items ++ ss) (sym (settled_by_push (take i items) s age say)))

-- ---- effects that leave slots as they are, or make them stay

no_effect_mark : (mark : Mark) (age : ℕ) → settle_by mark age Nothing ≡ mark
no_effect_mark Kept age = refl
no_effect_mark Dropped age = refl
no_effect_mark (Open b i) age = refl

pub no_effect_stays : (slots : List Slot) (after : ℕ) → settled_by slots after Nothing ≡ slots
no_effect_stays [] after = refl
no_effect_stays (s ∷ slots) after =
    ap (λ (m : Mark). record { event = s.event; mark = m } ∷ settled_by slots after Nothing)
    (no_effect_mark s.mark (length slots + after))
    ∙ ap (λ (ss : List Slot). s ∷ ss) (no_effect_stays slots after)

may_read_mark : (mark : Mark) (age : ℕ) → settle_by mark age MayRead ≡ settle_by mark 0 MayRead
may_read_mark Kept age = refl
may_read_mark Dropped age = refl
may_read_mark (Open b i) age = refl

pub may_read_shuts : (slots : List Slot) (after : ℕ) → settled_by slots after MayRead ≡ all_shut slots
may_read_shuts [] after = refl
may_read_shuts (s ∷ slots) after =
    ap (λ (m : Mark). record { event = s.event; mark = m } ∷ settled_by slots after MayRead)
    (may_read_mark s.mark (length slots + after))
    ∙ ap (λ (ss : List Slot). shut s ∷ ss) (may_read_shuts slots after)

pub shut_push : (slots : List Slot) (s : Slot) → all_shut (slots ++ s ∷ []) ≡ all_shut slots ++ shut s ∷ []
shut_push [] s = refl
shut_push (x ∷ slots) s = ap (λ (ss : List Slot). shut x ∷ ss) (shut_push slots s)

pub shut_long : (slots : List Slot) → length (all_shut slots) ≡ length slots
shut_long [] = refl
shut_long (s ∷ slots) = ap suc (shut_long slots)

shut_settled : (mark : Mark) → IsSettled (settle_by mark 0 MayRead)
shut_settled Kept = tt
shut_settled Dropped = tt
shut_settled (Open b i) = tt

pub settled_append : (first last : List Slot) → AreSettled first → AreSettled last → AreSettled (first ++ last)
settled_append [] last all more = more
settled_append (s ∷ first) last all more = (all.0, settled_append first last all.1 more)

pub all_shut_settled : (slots : List Slot) → AreSettled (all_shut slots)
all_shut_settled [] = tt
all_shut_settled (s ∷ slots) = (shut_settled s.mark, all_shut_settled slots)

settled_mark : (mark : Mark) (age : ℕ) (say : Effect) → IsSettled mark → settle_by mark age say ≡ mark
settled_mark Kept age say is = refl
settled_mark Dropped age say is = refl
settled_mark (Open b i) age say is = absurd is

-- slots with final marks stay as they are
pub settled_first : (first last : List Slot) (after : ℕ) (say : Effect) → AreSettled first
    → settled_by (first ++ last) after say ≡ first ++ settled_by last after say
settled_first [] last after say are = refl
settled_first (s ∷ first) last after say are =
    ap (λ (m : Mark). record { event = s.event; mark = m } ∷ settled_by (first ++ last) after say)
    (settled_mark s.mark (length (first ++ last) + after) say are.0)
    ∙ ap (λ (ss : List Slot). s ∷ ss) (settled_first first last after say are.1)

-- ---- words at the end

pub kept_words_push : (words : List ℕ) (w : ℕ) → kept_words (words ++ w ∷ [])
    ≡ kept_words words ++ record { event = event.Gp0 w; mark = Kept } ∷ []
kept_words_push [] w = refl
kept_words_push (v ∷ vs) w = ap (λ (ss : List Slot). record { event = event.Gp0 v; mark = Kept } ∷ ss)
    (kept_words_push vs w)

dropped_push : (words : List ℕ) (w : ℕ) → dropped_words (words ++ w ∷ [])
    ≡ dropped_words words ++ record { event = event.Gp0 w; mark = Dropped } ∷ []
dropped_push [] w = refl
dropped_push (v ∷ vs) w = ap (λ (ss : List Slot). record { event = event.Gp0 v; mark = Dropped } ∷ ss)
    (dropped_push vs w)

open_push : (words : List ℕ) (w i n : ℕ) (b : Box2) → n ≡ i + length words → open_words (words ++ w ∷ []) i b
    ≡ open_words words i b ++ record { event = event.Gp0 w; mark = Open b n } ∷ []
open_push [] w i n b e = let same : n ≡ i = omega (arith, e) in rw same refl
open_push (v ∷ vs) w i n b e = ap (λ (ss : List Slot). record { event = event.Gp0 v; mark = Open b i } ∷ ss)
    (open_push vs w (suc i) n b (omega (arith, e)))

pub packet_slots_push : (area : Option Box2) (words : List ℕ) (w n : ℕ) → n ≡ length words
    → packet_slots (words ++ w ∷ []) area
    ≡ packet_slots words area ++ record { event = event.Gp0 w; mark = mark_of area n } ∷ []
packet_slots_push None words w n e = dropped_push words w
packet_slots_push (Some b) words w n e = open_push words w 0 n b (omega (arith, e))

-- ---- slots that move

-- one more slot is made to stay
pub shut_next : (items : List Slot) (i : ℕ) → i < length items
    → all_shut (take i items) ++ all_shut (take 1 (drop i items)) ≡ all_shut (take (i + 1) items)
shut_next items i lt =
    let d : Slot = record { event = event.Read; mark = Kept } in
    let s = get_or items i d in
    let first : drop i items ≡ s ∷ drop (i + 1) items = drop_more items i d lt in
    let front : take (i + 1) items ≡ take i items ++ s ∷ [] = take_more items i d lt in
    rw (first, front) (sym (shut_push (take i items) s))

pub drop_next : (items : List Slot) (i : ℕ) → i < length items → drop 1 (drop i items) ≡ drop (i + 1) items
drop_next items i lt =
    let d : Slot = record { event = event.Read; mark = Kept } in
    ap (λ (ss : List Slot). drop 1 ss) (drop_more items i d lt)

-- no slot leaves
pub none_leaves : (all : List Slot) (words : List ℕ) → length all + length words ≤ 4096
    → (leaving_from all words ≡ []) × (staying_from all words ≡ all)
none_leaves [] words few = (refl, refl)
none_leaves (s ∷ slots) words few =
    let lt = lt-ltb (length slots + length words) 4096 (omega (arith, few)) in
    (rw lt refl, rw lt refl)

one_kept : (out : Option Event) → option_to_list out ≡ kept_of (out ∷ [])
one_kept None = refl
one_kept (Some e) = refl

-- the first one leaves
pub first_leaves : (all : List Slot) (words : List ℕ) → 4096 < length all + length words
    → (option_to_list (first_left all) ≡ kept_of (leaving_from all words)) × (drop 1 all ≡ staying_from all words)
first_leaves [] words many = (refl, refl)
first_leaves (s ∷ slots) words many =
    let le = le-ltb (length slots + length words) 4096 (omega (arith, many)) in
    (rw le (one_kept (left_of s.event s.mark)), rw le refl)

-- ---- a slot with a final mark is moved to the settled part

settled_more : (old : List Slot) (s : Slot) → AreSettled old → IsSettled s.mark → AreSettled (old ++ s ∷ [])
settled_more [] s are is = (is, tt)
settled_more (x ∷ old) s are is = (are.0, settled_more old s are.1 is)

-- the first recent slot, whose mark is final, is moved to the settled part
pub passes : (old items : List Slot) (n m : ℕ) (s : Slot) (settled recent : Buffer Slot)
    → KeepsSlots (buffer old n) (buffer items m) → AreSettled (take 1 items) → Some s ≡ slice_get items 0
    → settled ≡ buffer (keep_last n (old ++ s ∷ [])) n → recent ≡ buffer (drop 1 items) m
    → KeepsSlots settled recent × (settled.items ++ recent.items ≡ old ++ items)
passes old [] n m s settled recent keeps first is to from = absurd cc
passes old (x ∷ items) n m s settled recent keeps first is to from =
    let same : s ≡ x = cc in
    let put : settled ≡ buffer (old ++ x ∷ []) n = goes_last (buffer old n) settled s
    (omega (arith, keeps.fits, keeps.settled_room)) to ∙ ap (λ (y : Slot). buffer (old ++ y ∷ []) n) same in
    rw (put, from) (
      record {
        settled_room = keeps.settled_room;
        recent_room = keeps.recent_room;
        fits = omega (arith, keeps.fits, length-append old (x ∷ []));
        are = settled_more old x keeps.are first.0;
      },
      append_assoc old (x ∷ []) items,
    )
