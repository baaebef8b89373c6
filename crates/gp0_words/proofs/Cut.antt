-- One more word at the end of a list of words.
use Rattle.std.proofs.Common.{◌≡◌, ℕ, zero, suc, ◌+◌, ◌-◌, ◌*◌, ◌/◌, ◌%◌, ◌^◌, ◌<◌, ◌≤◌, Bool, true, false, cond, List}
use Rattle.std.proofs.Common.{[], ◌∷◌, ◌++◌, length, take, drop, map, slice_index, nat_lt, ◌==◌, refl, sym, ap, ◌∙◌}
use Rattle.std.proofs.Common.{arith, Some, None, option_to_list, inl, inr, append-nil, append_assoc, get_or-take}
use Rattle.std.specs.Int.{bit_at}
use Rattle.std.proofs.lemmas.Grind.{common_steps}
use Rattle.std.proofs.lemmas.Bool.{cases_lt, cond_both, le-ltb, lt-ltb, ltb-true}
use Rattle.std.proofs.lemmas.List.{take-append-le, take_all, drop_all, length_push, map_push, drop-append-le}
use Rattle.std.proofs.lemmas.List.{length-drop, get_or_append_left}
use Rattle.std.proofs.lemmas.Bool.Decides.{nat_tests}
use Rattle.std.proofs.lemmas.Nat.{mul-le}
use Rattle.gp0_words.specs.Kinds.{opcode_of, polygon_len_of, line_kind_of, kind_of, start_len, is_end, is_set}
use Rattle.gp0_words.specs.Sizes.{data_words_of}
use Rattle.gp0_words.specs.Items.{flat_joints, flat_need, flat_rest, shaded_joints, shaded_need, shaded_rest}
use Rattle.gp0_words.specs.Items.{tail_items, tail_need, tail_rest, packet_items, packet_need, packet_rest, items_from}
use Rattle.gp0_words.specs.Items.{rest_from, items_of, pending_behind}
use Rattle.gp0_words.specs.Next.{next_pending, next_item, pending_after, collected_pending, collected_item, IsPending}
use Rattle.gp0_words.specs.declared.kind.Kind.{Kind}
use Rattle.gp0_words.specs.declared.kind.Kind.TheVariants.{Plain, Load, Polyline}
use Rattle.gp0_words.specs.declared.item.Item.TheVariants.{Pixels}
use Rattle.gp0_words.specs.declared.pending.Pending.{Pending}
use Rattle.gp0_words.specs.declared.pending.Pending.TheVariants as pending

-- ---- flat joints

pub flat_need-whole : (more : List ℕ) (x : ℕ) → flat_need more ≤ length more → flat_need (more ++ x ∷ [])
    ≡ flat_need more
flat_need-whole [] x h = absurd (omega arith)
flat_need-whole (w ∷ ws) x h = grind (arith, nat_tests, flat_need-whole ws x)

pub flat_joints-whole : (c v : ℕ) (more : List ℕ) (x : ℕ) → flat_need more ≤ length more
    → flat_joints c v (more ++ x ∷ []) ≡ flat_joints c v more
flat_joints-whole c v [] x h = absurd (omega arith)
flat_joints-whole c v (w ∷ ws) x h = grind (arith, nat_tests, flat_joints-whole c w ws x)

pub flat_need-part : (more : List ℕ) (x : ℕ) → length more < flat_need more → length more < flat_need (more ++ x ∷ [])
flat_need-part [] x h = grind (arith, nat_tests)
flat_need-part (w ∷ ws) x h = grind (arith, nat_tests, flat_need-part ws x)

pub flat_joints-part : (c v : ℕ) (more : List ℕ) (x : ℕ) → (is_set c 28) ≡ false → length more < flat_need more →
    flat_joints c v (more ++ x ∷ []) ≡ flat_joints c v more ++ option_to_list (next_item (flat_rest c v more) x)
flat_joints-part c v [] x f h = grind (arith, nat_tests, common_steps)
flat_joints-part c v (w ∷ ws) x f h = grind (arith, nat_tests, common_steps, flat_joints-part c w ws x)

pub flat_rest-part : (c v : ℕ) (more : List ℕ) (x : ℕ) → (is_set c 28) ≡ false → length more < flat_need more →
    cond (nat_lt (length (more ++ x ∷ [])) (flat_need (more ++ x ∷ []))) (flat_rest c v (more ++ x ∷ [])) pending.Idle
    ≡ next_pending (flat_rest c v more) x
flat_rest-part c v [] x f h = grind (arith, nat_tests, common_steps)
flat_rest-part c v (w ∷ ws) x f h = grind (arith, nat_tests, common_steps, flat_rest-part c w ws x)

-- ---- shaded joints

pub shaded_need-whole : (more : List ℕ) (x : ℕ) → shaded_need more ≤ length more → shaded_need (more ++ x ∷ [])
    ≡ shaded_need more
shaded_need-whole [] x h = absurd (omega arith)
shaded_need-whole (c ∷ []) x h = grind (arith, nat_tests)
shaded_need-whole (c ∷ v ∷ ws) x h = grind (arith, nat_tests, shaded_need-whole ws x)

pub shaded_joints-whole : (m c v : ℕ) (more : List ℕ) (x : ℕ) → shaded_need more ≤ length more
    → shaded_joints m c v (more ++ x ∷ []) ≡ shaded_joints m c v more
shaded_joints-whole m c v [] x h = absurd (omega arith)
shaded_joints-whole m c v (d ∷ []) x h = grind (arith, nat_tests)
shaded_joints-whole m c v (d ∷ w ∷ ws) x h = grind (arith, nat_tests, shaded_joints-whole m d w ws x)

pub shaded_need-part : (more : List ℕ) (x : ℕ) → length more < shaded_need more
    → length more < shaded_need (more ++ x ∷ [])
shaded_need-part [] x h = grind (arith, nat_tests)
shaded_need-part (c ∷ []) x h = grind (arith, nat_tests)
shaded_need-part (c ∷ v ∷ ws) x h = grind (arith, nat_tests, shaded_need-part ws x)

pub shaded_joints-part : (m c v : ℕ) (more : List ℕ) (x : ℕ) → (is_set m 28) ≡ true → length more < shaded_need more →
    shaded_joints m c v (more ++ x ∷ []) ≡ shaded_joints m c v more ++ option_to_list
    (next_item (shaded_rest m c v more) x)
shaded_joints-part m c v [] x f h = grind (arith, nat_tests, common_steps)
shaded_joints-part m c v (d ∷ []) x f h = grind (arith, nat_tests, common_steps)
shaded_joints-part m c v (d ∷ w ∷ ws) x f h = grind (arith, nat_tests, common_steps, shaded_joints-part m d w ws x)

pub shaded_rest-part : (m c v : ℕ) (more : List ℕ) (x : ℕ) → (is_set m 28) ≡ true → length more < shaded_need more →
    cond (nat_lt (length (more ++ x ∷ [])) (shaded_need (more ++ x ∷ [])))
    (shaded_rest m c v (more ++ x ∷ [])) pending.Idle ≡ next_pending (shaded_rest m c v more) x
shaded_rest-part m c v [] x f h = grind (arith, nat_tests, common_steps)
shaded_rest-part m c v (d ∷ []) x f h = grind (arith, nat_tests, common_steps)
shaded_rest-part m c v (d ∷ w ∷ ws) x f h = grind (arith, nat_tests, common_steps, shaded_rest-part m d w ws x)

-- ---- the words after the first item

-- a polyline is shaded if its command word says so
abbrev pub IsKindOf : Kind → ℕ → Type 0
IsKindOf (Plain n) command = 0 < n
IsKindOf Load command = Unit {0}
IsKindOf (Polyline shaded) command = (is_set command 28) ≡ shaded

pub tail_need-whole : (k : Kind) (start more : List ℕ) (x : ℕ) → tail_need k start more ≤ length more
    → tail_need k start (more ++ x ∷ []) ≡ tail_need k start more
tail_need-whole (Plain n) start more x h = refl
tail_need-whole Load start more x h = refl
tail_need-whole (Polyline true) start more x h = shaded_need-whole more x h
tail_need-whole (Polyline false) start more x h = flat_need-whole more x h

pub tail_items-whole : (k : Kind) (start more : List ℕ) (x : ℕ) → tail_need k start more ≤ length more
    → tail_items k start (more ++ x ∷ []) ≡ tail_items k start more
tail_items-whole (Plain n) start more x h = refl
tail_items-whole Load start more x h = ap (map Pixels)
    (take-append-le (data_words_of (slice_index start 2)) more (x ∷ []) h)
tail_items-whole (Polyline true) start more x h = shaded_joints-whole _ _ _ more x h
tail_items-whole (Polyline false) start more x h = flat_joints-whole _ _ more x h

pub tail_need-part : (k : Kind) (start more : List ℕ) (x : ℕ) → length more < tail_need k start more
    → length more < tail_need k start (more ++ x ∷ [])
tail_need-part (Plain n) start more x h = h
tail_need-part Load start more x h = h
tail_need-part (Polyline true) start more x h = shaded_need-part more x h
tail_need-part (Polyline false) start more x h = flat_need-part more x h

pub tail_items-part : (k : Kind) (start more : List ℕ) (x : ℕ) → IsKindOf k (slice_index start 0)
    → length more < tail_need k start more →
    tail_items k start (more ++ x ∷ []) ≡ tail_items k start more ++ option_to_list
    (next_item (tail_rest k start more) x)
tail_items-part (Plain n) start more x f h = absurd (omega arith)
tail_items-part Load start more x f h =
    let whole : take (data_words_of (slice_index start 2)) (more ++ x ∷ [])
    ≡ more ++ x ∷ [] = take_all _ _ (omega (arith, length_push more x)) in
    let part : take (data_words_of (slice_index start 2)) more ≡ more = take_all _ _ (omega arith) in
    rw (whole, part) (map_push Pixels more x)
tail_items-part (Polyline true) start more x f h = shaded_joints-part _ _ _ more x f h
tail_items-part (Polyline false) start more x f h = flat_joints-part _ _ more x f h

pub tail_rest-part : (k : Kind) (start more : List ℕ) (x : ℕ) → IsKindOf k (slice_index start 0)
    → length more < tail_need k start more →
    cond (nat_lt (length (more ++ x ∷ [])) (tail_need k start (more ++ x ∷ [])))
    (tail_rest k start (more ++ x ∷ [])) pending.Idle ≡ next_pending (tail_rest k start more) x
tail_rest-part (Plain n) start more x f h = absurd (omega arith)
tail_rest-part Load start more x f h = grind (arith, nat_tests, length_push)
tail_rest-part (Polyline true) start more x f h = shaded_rest-part _ _ _ more x f h
tail_rest-part (Polyline false) start more x f h = flat_rest-part _ _ more x f h

-- ---- a packet at the front

data_words_of-positive : (size : ℕ) → 0 < data_words_of size
data_words_of-positive size =
    let w = (size % 2 ^ 16 + 1023) % 1024 in
    let h = (size / 2 ^ 16 + 511) % 512 in
    let one : 1 ≤ (w + 1) * (h + 1) = grind arith in
    omega arith

tail_items-none : (k : Kind) (start : List ℕ) → tail_items k start [] ≡ []
tail_items-none (Plain n) start = refl
tail_items-none Load start = rw (take_all {A = ℕ} (data_words_of (slice_index start 2)) [] (omega arith)) refl
tail_items-none (Polyline true) start = refl
tail_items-none (Polyline false) start = refl

tail_rest-none : (k : Kind) (start : List ℕ)
    → cond (nat_lt 0 (tail_need k start [])) (tail_rest k start []) pending.Idle ≡ pending_after k start
tail_rest-none (Plain n) start = refl
tail_rest-none Load start = grind (arith, nat_tests, data_words_of-positive (slice_index start 2))
tail_rest-none (Polyline true) start = refl
tail_rest-none (Polyline false) start = refl

-- the first item, complete or not
packet_items-start : (k : Kind) (all : List ℕ) → length all ≤ start_len k → packet_items k all
    ≡ option_to_list (collected_item k all)
packet_items-start k all h =
    let front : take (start_len k) all ≡ all = take_all _ _ h in
    let back : drop (start_len k) all ≡ [] = drop_all _ _ h in
    rw (front, back, tail_items-none k all) (grind (arith, nat_tests))

packet_rest-start : (k : Kind) (all : List ℕ) → length all ≤ start_len k →
    cond (nat_lt (length all) (packet_need k all)) (packet_rest k all) pending.Idle ≡ collected_pending k all
packet_rest-start k all h =
    let front : take (start_len k) all ≡ all = take_all _ _ h in
    let back : drop (start_len k) all ≡ [] = drop_all _ _ h in
    let none = tail_rest-none k all in
    rw (front, back) (grind (arith, nat_tests))

pub packet_need-whole : (k : Kind) (words : List ℕ) (x : ℕ) → packet_need k words ≤ length words
    → packet_need k (words ++ x ∷ []) ≡ packet_need k words
packet_need-whole k words x h =
    let long : start_len k ≤ length words = grind (arith, nat_tests) in
    let front : take (start_len k) (words ++ x ∷ []) ≡ take (start_len k) words = take-append-le _ _ _ long in
    let back : drop (start_len k) (words ++ x ∷ []) ≡ drop (start_len k) words ++ x ∷ [] = drop-append-le _ _ _ long in
    let same = tail_need-whole k (take (start_len k) words) (drop (start_len k) words) x in
    rw (front, back) (grind (arith, nat_tests, length_push, length-drop, same))

pub packet_items-whole : (k : Kind) (words : List ℕ) (x : ℕ) → packet_need k words ≤ length words
    → packet_items k (words ++ x ∷ []) ≡ packet_items k words
packet_items-whole k words x h =
    let long : start_len k ≤ length words = grind (arith, nat_tests) in
    let front : take (start_len k) (words ++ x ∷ []) ≡ take (start_len k) words = take-append-le _ _ _ long in
    let back : drop (start_len k) (words ++ x ∷ []) ≡ drop (start_len k) words ++ x ∷ [] = drop-append-le _ _ _ long in
    let same = tail_items-whole k (take (start_len k) words) (drop (start_len k) words) x in
    rw (front, back) (grind (arith, nat_tests, length_push, length-drop, same))

pub packet_need-part : (k : Kind) (words : List ℕ) (x : ℕ) → length words < packet_need k words
    → length words < packet_need k (words ++ x ∷ [])
packet_need-part k words x h =
    elim (cases_lt (length words) (start_len k)) [
      | inr long ↦
          let front : take (start_len k) (words ++ x ∷ []) ≡ take (start_len k) words = take-append-le _ _ _ long in
          let back : drop (start_len k) (words ++ x ∷ [])
          ≡ drop (start_len k) words ++ x ∷ [] = drop-append-le _ _ _ long in
          let more = tail_need-part k (take (start_len k) words) (drop (start_len k) words) x in
          rw (front, back) (grind (arith, nat_tests, length_push, length-drop, more))
      | inl short ↦ grind (arith, nat_tests, length_push)
    ]

pub packet_items-part : (k : Kind) (words : List ℕ) (x : ℕ) → 0 < start_len k → k ≡ kind_of (slice_index words 0)
    → IsKindOf k (slice_index words 0) →
    length words < packet_need k words →
    packet_items k (words ++ x ∷ []) ≡ packet_items k words ++ option_to_list (next_item (packet_rest k words) x)
packet_items-part k words x some kind is h =
    elim (cases_lt (length words) (start_len k)) [
      | inr long ↦
          let front : take (start_len k) (words ++ x ∷ []) ≡ take (start_len k) words = take-append-le _ _ _ long in
          let back : drop (start_len k) (words ++ x ∷ [])
          ≡ drop (start_len k) words ++ x ∷ [] = drop-append-le _ _ _ long in
          let first : slice_index (take (start_len k) words) 0 ≡ slice_index words 0 = get_or-take _ _ _ _ some in
          let more = tail_items-part k (take (start_len k) words) (drop (start_len k) words) x (rw first is) in
          rw (front, back) (grind (arith, nat_tests, length_push, length-drop, more))
      | inl short ↦
          let none : packet_items k words ≡ [] = grind (arith, nat_tests) in
          let held : packet_rest k words ≡ pending.Packet words = grind (arith, nat_tests) in
          let start = packet_items-start k (words ++ x ∷ []) (omega (arith, length_push words x)) in
          rw (none, held, ← kind) start
    ]

pub packet_rest-part : (k : Kind) (words : List ℕ) (x : ℕ) → 0 < start_len k → k ≡ kind_of (slice_index words 0)
    → IsKindOf k (slice_index words 0) →
    length words < packet_need k words →
    cond (nat_lt (length (words ++ x ∷ [])) (packet_need k (words ++ x ∷ [])))
    (packet_rest k (words ++ x ∷ [])) pending.Idle ≡ next_pending (packet_rest k words) x
packet_rest-part k words x some kind is h =
    elim (cases_lt (length words) (start_len k)) [
      | inr long ↦
          let front : take (start_len k) (words ++ x ∷ []) ≡ take (start_len k) words = take-append-le _ _ _ long in
          let back : drop (start_len k) (words ++ x ∷ [])
          ≡ drop (start_len k) words ++ x ∷ [] = drop-append-le _ _ _ long in
          let first : slice_index (take (start_len k) words) 0 ≡ slice_index words 0 = get_or-take _ _ _ _ some in
          let more = tail_rest-part k (take (start_len k) words) (drop (start_len k) words) x (rw first is) in
          rw (front, back) (grind (arith, nat_tests, length_push, length-drop, more))
      | inl short ↦
          let held : packet_rest k words ≡ pending.Packet words = grind (arith, nat_tests) in
          let start = packet_rest-start k (words ++ x ∷ []) (omega (arith, length_push words x)) in
          rw (held, ← kind) start
    ]

-- ---- the whole list

pub record IsReadable (w : ℕ) (k : Kind) : Type 0 where
  pub is : IsKindOf k w
  pub some : 0 < start_len k

polygon_len_of-positive : (w : ℕ) → 0 < polygon_len_of w
polygon_len_of-positive w = grind arith

line_kind_of-readable : (w : ℕ) → IsReadable w (line_kind_of w)
line_kind_of-readable w =
    cond_both (is_set w 27) (Polyline (is_set w 28)) (Plain (3 + bit_at w 28)) (IsReadable w)
    (λ e. record { is = refl; some = grind (arith, nat_tests) }) (λ e. record { is = omega arith; some = omega arith })

Plain-readable : (w n : ℕ) → 0 < n → IsReadable w (Plain n)
Plain-readable w n some = record { is = some; some = some }

IsReadable-cond : (w : ℕ) (b : Bool) (x y : Kind) → IsReadable w x → IsReadable w y → IsReadable w (cond b x y)
IsReadable-cond w true x y p q = p
IsReadable-cond w false x y p q = q

Load-readable : (w : ℕ) → IsReadable w Load
Load-readable w = record { is = tt; some = omega arith }

other_len-positive : (w : ℕ) → 0 < cond (opcode_of w == 2) 3 1
other_len-positive w = grind (arith, nat_tests)

kind_of-readable : (w : ℕ) → IsReadable w (kind_of w)
kind_of-readable w = search (
  arith,
  IsReadable-cond,
  Plain-readable,
  Load-readable,
  line_kind_of-readable,
  polygon_len_of-positive,
  other_len-positive,
)

kind_of-is : (w : ℕ) → IsKindOf (kind_of w) w
kind_of-is w = (kind_of-readable w).is

pub start_len-positive : (w : ℕ) → 0 < start_len (kind_of w)
start_len-positive w = (kind_of-readable w).some

pub items_from-past : (skip : ℕ) (words : List ℕ) → length words ≤ skip → items_from skip words ≡ []
items_from-past skip [] h = refl
items_from-past zero (w ∷ ws) h = absurd (omega arith)
items_from-past (suc skip) (w ∷ ws) h = items_from-past skip ws (omega arith)

pub rest_from-past : (skip : ℕ) (words : List ℕ) → length words ≤ skip → rest_from skip words ≡ pending.Idle
rest_from-past skip [] h = refl
rest_from-past zero (w ∷ ws) h = absurd (omega arith)
rest_from-past (suc skip) (w ∷ ws) h = rest_from-past skip ws (omega arith)

pub items_from-push : (skip : ℕ) (words : List ℕ) (x : ℕ) → skip ≤ length words →
    items_from skip (words ++ x ∷ []) ≡ items_from skip words ++ option_to_list (next_item (rest_from skip words) x)
items_from-push zero [] x h = rw append-nil (packet_items-start (kind_of x) (x ∷ []) (start_len-positive x))
items_from-push (suc skip) [] x h = absurd (omega arith)
items_from-push zero (w ∷ ws) x h =
    let k = kind_of w in
    elim (cases_lt (length (w ∷ ws)) (packet_need k (w ∷ ws))) [
      | inr whole ↦
          let need = packet_need-whole k (w ∷ ws) x whole in
          let items = packet_items-whole k (w ∷ ws) x whole in
          let rest = items_from-push (packet_need k (w ∷ ws) - 1) ws x (omega arith) in
          let test : nat_lt (length (w ∷ ws)) (packet_need k (w ∷ ws)) ≡ false = le-ltb _ _ whole in
          rw (need, items, rest, test)
          (sym (append_assoc (packet_items k (w ∷ ws)) (items_from (packet_need k (w ∷ ws) - 1) ws)
          (option_to_list (next_item (rest_from (packet_need k (w ∷ ws) - 1) ws) x))))
      | inl part ↦
          let need = packet_need-part k (w ∷ ws) x part in
          let items = packet_items-part k (w ∷ ws) x (start_len-positive w) refl (kind_of-is w) part in
          let past = items_from-past (packet_need k (w ∷ ws ++ x ∷ []) - 1) (ws ++ x ∷ [])
          (omega (arith, length_push ws x)) in
          let past_old = items_from-past (packet_need k (w ∷ ws) - 1) ws (omega arith) in
          let test : nat_lt (length (w ∷ ws)) (packet_need k (w ∷ ws)) ≡ true = lt-ltb _ _ part in
          rw (items, past, past_old, test, append-nil, append-nil) refl
    ]
items_from-push (suc skip) (w ∷ ws) x h = items_from-push skip ws x (omega arith)

pub rest_from-push : (skip : ℕ) (words : List ℕ) (x : ℕ) → skip ≤ length words →
    rest_from skip (words ++ x ∷ []) ≡ next_pending (rest_from skip words) x
rest_from-push zero [] x h = packet_rest-start (kind_of x) (x ∷ []) (start_len-positive x)
rest_from-push (suc skip) [] x h = absurd (omega arith)
rest_from-push zero (w ∷ ws) x h =
    let k = kind_of w in
    elim (cases_lt (length (w ∷ ws)) (packet_need k (w ∷ ws))) [
      | inr whole ↦
          let need = packet_need-whole k (w ∷ ws) x whole in
          let rest = rest_from-push (packet_need k (w ∷ ws) - 1) ws x (omega arith) in
          let test : nat_lt (length (w ∷ ws)) (packet_need k (w ∷ ws)) ≡ false = le-ltb _ _ whole in
          let longer : nat_lt (length (w ∷ ws ++ x ∷ [])) (packet_need k (w ∷ ws))
          ≡ false = le-ltb _ _ (omega (arith, length_push ws x)) in
          rw (need, longer, test) rest
      | inl part ↦
          let need = packet_need-part k (w ∷ ws) x part in
          let held = packet_rest-part k (w ∷ ws) x (start_len-positive w) refl (kind_of-is w) part in
          let past = rest_from-past (packet_need k (w ∷ ws ++ x ∷ []) - 1) (ws ++ x ∷ [])
          (omega (arith, length_push ws x)) in
          let test : nat_lt (length (w ∷ ws)) (packet_need k (w ∷ ws)) ≡ true = lt-ltb _ _ part in
          rw (past, test) held
    ]
rest_from-push (suc skip) (w ∷ ws) x h = rest_from-push skip ws x (omega arith)

pub items_of-push : (words : List ℕ) (x : ℕ) → items_of (words ++ x ∷ [])
    ≡ items_of words ++ option_to_list (next_item (pending_behind words) x)
unfolding items_of pending_behind
items_of-push words x = items_from-push 0 words x (omega arith)

pub pending_behind-push : (words : List ℕ) (x : ℕ) → pending_behind (words ++ x ∷ [])
    ≡ next_pending (pending_behind words) x
unfolding pending_behind
pending_behind-push words x = rest_from-push 0 words x (omega arith)

-- ---- the bounds

data_words_of-most : (size : ℕ) → data_words_of size ≤ 262144
data_words_of-most size =
    let w = (size % 2 ^ 16 + 1023) % 1024 in
    let h = (size / 2 ^ 16 + 511) % 512 in
    let most : (w + 1) * (h + 1) ≤ 1024 * 512 = mul-le (w + 1) (h + 1) 1024 512 (omega arith) (omega arith) in
    omega arith

pending_after-kept : (k : Kind) (words : List ℕ) → k ≡ kind_of (slice_index words 0) → IsPending (pending_after k words)
pending_after-kept (Plain n) words is = tt
pending_after-kept Load words is =
    (data_words_of-positive (slice_index words 2), data_words_of-most (slice_index words 2))
pending_after-kept (Polyline true) words is =
    let shaded : is_set (slice_index words 0) 28 ≡ true = rw (← is) at (kind_of-is (slice_index words 0)) in
    (sym is ∙ ap Polyline (sym shaded), λ e. cc)
pending_after-kept (Polyline false) words is =
    let flat : is_set (slice_index words 0) 28 ≡ false = rw (← is) at (kind_of-is (slice_index words 0)) in
    (sym is ∙ ap Polyline (sym flat), λ e. refl)

collected_pending-kept : (k : Kind) (words : List ℕ) → 0 < length words → k ≡ kind_of (slice_index words 0)
    → IsPending (collected_pending k words)
collected_pending-kept k words some is =
    cond_both (nat_lt (length words) (start_len k)) (pending.Packet words) (pending_after k words) IsPending
    (λ e. (some, rw (← is) (ltb-true _ _ e))) (λ e. pending_after-kept k words is)

pub next_pending-kept : (h : Pending) (x : ℕ) → IsPending h → IsPending (next_pending h x)
next_pending-kept pending.Idle x kept = collected_pending-kept (kind_of x) (x ∷ []) (omega arith) refl
next_pending-kept (pending.Packet words) x kept = collected_pending-kept (kind_of (slice_index words 0))
    (words ++ x ∷ []) (omega (arith, length_push words x))
    (ap kind_of (sym (get_or_append_left words (x ∷ []) 0 0 kept.0)))
next_pending-kept (pending.Pixels left) x kept =
    cond_both (nat_lt 1 left) (pending.Pixels (left - 1)) pending.Idle IsPending
    (λ e. (omega (arith, ltb-true _ _ e), omega (arith, kept.1))) (λ e. tt)
next_pending-kept (pending.Poly command color vertex None) x kept =
    cond_both (is_end x) pending.Idle _ IsPending (λ e. tt)
    (λ e. cond_both (is_set command 28) (pending.Poly command color vertex (Some x))
    (pending.Poly command command x None) IsPending
    (λ s. (kept.0, s, e)) (λ s. (kept.0, λ f. refl)))
next_pending-kept (pending.Poly command color vertex (Some half)) x kept = (kept.0, λ e. let shaded = kept.1 in cc)
