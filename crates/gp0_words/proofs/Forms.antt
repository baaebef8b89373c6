-- The items of a packet, by its kind.
use Rattle.std.proofs.Common.{◌≡◌, ℕ, ◌-◌, true, false, List, [], ◌∷◌, ◌++◌, length, take, drop, map, slice_index}
use Rattle.std.proofs.Common.{nat_lt, refl, ap, ◌∙◌, arith, append-nil}
use Rattle.std.proofs.lemmas.Bool.{le-ltb}
use Rattle.std.proofs.lemmas.List.{take_all, take_at, drop_at, length-append}
use Rattle.gp0_words.specs.Kinds.{kind_of, start_len}
use Rattle.gp0_words.specs.Items.{flat_joints, shaded_joints, tail_items, packet_items, packet_need, items_from}
use Rattle.gp0_words.specs.Items.{items_of}
use Rattle.gp0_words.specs.Cutting.{IsFlatTail, IsShadedTail, IsTail, IsPacket, flat_tail_items, shaded_tail_items}
use Rattle.gp0_words.specs.Cutting.{items_behind}
use Rattle.gp0_words.specs.declared.item.Item.{Item}
use Rattle.gp0_words.specs.declared.item.Item.TheVariants.{Whole, Joint, Pixels}
use Rattle.gp0_words.specs.declared.kind.Kind.{Kind}
use Rattle.gp0_words.specs.declared.kind.Kind.TheVariants.{Plain, Load, Polyline}
use Rattle.gp0_words.proofs.Cut.{items_from-past}
use Rattle.gp0_words.proofs.Front.{packet_need-is}

flat_joints-tail : (command vertex : ℕ) (more : List ℕ) → IsFlatTail more → flat_joints command vertex more
    ≡ flat_tail_items command vertex more
flat_joints-tail command vertex [] h = absurd h
flat_joints-tail command vertex (w ∷ []) h = rw h refl
flat_joints-tail command vertex (w ∷ v ∷ ws) h =
    rw h.0 (ap (λ (items : List Item). Joint command command vertex command w ∷ items)
    (flat_joints-tail command w (v ∷ ws) h.1))

shaded_joints-tail : (command color vertex : ℕ) (more : List ℕ) → IsShadedTail more
    → shaded_joints command color vertex more ≡ shaded_tail_items command color vertex more
shaded_joints-tail command color vertex [] h = absurd h
shaded_joints-tail command color vertex (c ∷ []) h = rw h refl
shaded_joints-tail command color vertex (c ∷ v ∷ ws) h =
    rw h.0 (ap (λ (items : List Item). Joint command color vertex c v ∷ items) (shaded_joints-tail command c v ws h.1))

tail_items-tail : (k : Kind) (start more : List ℕ) → IsTail k start more → tail_items k start more
    ≡ items_behind k start more
tail_items-tail (Plain n) start more h = refl
tail_items-tail Load start more h = ap (map Pixels) (take_all _ _ (omega (arith, h)))
tail_items-tail (Polyline true) start more h = shaded_joints-tail _ _ _ more h
tail_items-tail (Polyline false) start more h = flat_joints-tail _ _ more h

packet_items-is : (k : Kind) (start more : List ℕ) → length start ≡ start_len k → IsTail k start more
    → packet_items k (start ++ more) ≡ Whole start ∷ items_behind k start more
packet_items-is k start more len tail =
    let front : take (start_len k) (start ++ more) ≡ start = take_at _ _ _ len in
    let back : drop (start_len k) (start ++ more) ≡ more = drop_at _ _ _ len in
    let test : nat_lt (length (start ++ more)) (start_len k)
    ≡ false = le-ltb _ _ (omega (arith, length-append start more)) in
    rw (test, front, back) (ap (λ (items : List Item). Whole start ∷ items) (tail_items-tail k start more tail))

-- the items of a packet alone are those of a packet at the front
front_alone : (p : List ℕ) → IsPacket p → items_from 0 p ≡ packet_items (kind_of (slice_index p 0)) p
front_alone [] h = absurd
    (let e = packet_need-is [] h in omega (arith, e, ap length h.parts, length-append h.start h.more, h.len))
front_alone (x ∷ xs) h =
    let need = packet_need-is (x ∷ xs) h in
    let past = items_from-past (packet_need (kind_of x) (x ∷ xs) - 1) xs (omega (arith, need)) in
    rw past (append-nil _)

pub packet_items-form : (p : List ℕ) (h : IsPacket p)
    → items_of p ≡ Whole h.start ∷ items_behind (kind_of (slice_index p 0)) h.start h.more
unfolding items_of
packet_items-form p h =
    let k = kind_of (slice_index p 0) in
    front_alone p h ∙ ap (packet_items k) h.parts ∙ packet_items-is k h.start h.more h.len h.tail
