-- A packet at the front of a list.
use Rattle.std.proofs.Common.{◌≡◌, ℕ, suc, ◌-◌, ◌<◌, ◌≤◌, true, false, List, [], ◌∷◌, ◌++◌, length, take, drop}
use Rattle.std.proofs.Common.{slice_index, nat_lt, refl, sym, ap, ◌∙◌, arith, append-nil, append_assoc, subst}
use Rattle.std.proofs.lemmas.Bool.{le-ltb}
use Rattle.std.proofs.lemmas.List.{take_at, drop_at, length-append, get_or_append_left, length_push}
use Rattle.gp0_words.specs.Kinds.{kind_of, start_len}
use Rattle.gp0_words.specs.Items.{flat_need, shaded_need, tail_need, packet_items, packet_need, items_from, rest_from}
use Rattle.gp0_words.specs.Cutting.{IsFlatTail, IsShadedTail, IsTail, IsPacket}
use Rattle.gp0_words.specs.declared.kind.Kind.{Kind}
use Rattle.gp0_words.specs.declared.kind.Kind.TheVariants.{Plain, Load, Polyline}
use Rattle.gp0_words.proofs.Cut.{packet_need-whole, packet_items-whole, start_len-positive, items_from-past}

flat_need-tail : (more : List ℕ) → IsFlatTail more → flat_need more ≡ length more
flat_need-tail [] h = absurd h
flat_need-tail (w ∷ []) h = rw h refl
flat_need-tail (w ∷ v ∷ ws) h = rw h.0 (ap suc (flat_need-tail (v ∷ ws) h.1))

shaded_need-tail : (more : List ℕ) → IsShadedTail more → shaded_need more ≡ length more
shaded_need-tail [] h = absurd h
shaded_need-tail (c ∷ []) h = rw h refl
shaded_need-tail (c ∷ v ∷ ws) h = rw h.0 (ap (λ n. suc (suc n)) (shaded_need-tail ws h.1))

tail_need-tail : (k : Kind) (start more : List ℕ) → IsTail k start more → tail_need k start more ≡ length more
tail_need-tail (Plain n) start more h = sym (ap length h)
tail_need-tail Load start more h = sym h
tail_need-tail (Polyline true) start more h = shaded_need-tail more h
tail_need-tail (Polyline false) start more h = flat_need-tail more h

-- the packet's least length is its length
need_of : (k : Kind) (start more : List ℕ) → length start ≡ start_len k → IsTail k start more
    → packet_need k (start ++ more) ≡ length (start ++ more)
need_of k start more len tail =
    let front : take (start_len k) (start ++ more) ≡ start = take_at _ _ _ len in
    let back : drop (start_len k) (start ++ more) ≡ more = drop_at _ _ _ len in
    let test : nat_lt (length (start ++ more)) (start_len k)
    ≡ false = le-ltb _ _ (omega (arith, length-append start more)) in
    rw (test, front, back, tail_need-tail k start more tail, length-append) (omega arith)

pub packet_need-is : (p : List ℕ) → IsPacket p → packet_need (kind_of (slice_index p 0)) p ≡ length p
packet_need-is p h =
    let k = kind_of (slice_index p 0) in
    subst (λ (l : List ℕ). packet_need k l ≡ length l) (sym h.parts) (need_of k h.start h.more h.len h.tail)

-- words after a complete packet change nothing of it
need-more : (k : Kind) (words more : List ℕ) → packet_need k words ≤ length words → packet_need k (words ++ more)
    ≡ packet_need k words
need-more k words [] h = rw append-nil refl
need-more k words (x ∷ xs) h =
    let one = packet_need-whole k words x h in
    ap (packet_need k) (sym (append_assoc words (x ∷ []) xs)) ∙ need-more k (words ++ x ∷ []) xs
    (omega (arith, length_push words x, one)) ∙ one

items-more : (k : Kind) (words more : List ℕ) → packet_need k words ≤ length words → packet_items k (words ++ more)
    ≡ packet_items k words
items-more k words [] h = rw append-nil refl
items-more k words (x ∷ xs) h =
    let one = packet_need-whole k words x h in
    ap (packet_items k) (sym (append_assoc words (x ∷ []) xs)) ∙ items-more k (words ++ x ∷ []) xs
    (omega (arith, length_push words x, one)) ∙ packet_items-whole k words x h

-- skipped words
items_from-skip : (front words : List ℕ) → items_from (length front) (front ++ words) ≡ items_from 0 words
items_from-skip [] words = refl
items_from-skip (x ∷ xs) words = items_from-skip xs words

rest_from-skip : (front words : List ℕ) → rest_from (length front) (front ++ words) ≡ rest_from 0 words
rest_from-skip [] words = refl
rest_from-skip (x ∷ xs) words = rest_from-skip xs words

pub items_front : (p words : List ℕ) → IsPacket p → items_from 0 (p ++ words) ≡ items_from 0 p ++ items_from 0 words
items_front [] words h = refl
items_front (x ∷ xs) words h =
    let k = kind_of x in
    let need = packet_need-is (x ∷ xs) h in
    let whole : packet_need k (x ∷ xs) ≤ length (x ∷ xs) = omega (arith, need) in
    let same = need-more k (x ∷ xs) words whole in
    let items = items-more k (x ∷ xs) words whole in
    let skip : packet_need k (x ∷ xs) - 1 ≡ length xs = omega (arith, need) in
    let past = items_from-past (length xs) xs (omega arith) in
    rw (items, same, skip, items_from-skip xs words, past, append-nil) refl

pub rest_front : (p words : List ℕ) → IsPacket p → rest_from 0 (p ++ words) ≡ rest_from 0 words
rest_front [] words h = refl
rest_front (x ∷ xs) words h =
    let k = kind_of x in
    let need = packet_need-is (x ∷ xs) h in
    let same = need-more k (x ∷ xs) words (omega (arith, need)) in
    let skip : packet_need k (x ∷ xs) - 1 ≡ length xs = omega (arith, need) in
    let test : nat_lt (length (x ∷ xs ++ words)) (packet_need k (x ∷ xs))
    ≡ false = le-ltb _ _ (omega (arith, need, length-append xs words)) in
    rw (same, test, skip) (rest_from-skip xs words)

-- a packet has a word
packet-some : (p : List ℕ) → IsPacket p → 0 < length p
packet-some p h =
    omega (arith, start_len-positive (slice_index p 0), h.len, ap length h.parts, length-append h.start h.more)

pub no_prefix : (p q a b : List ℕ) → IsPacket p → IsPacket q → p ++ a ≡ q ++ b → p ≡ q
no_prefix p q a b hp hq e =
    let first_p : slice_index (p ++ a) 0 ≡ slice_index p 0 = get_or_append_left p a 0 0 (packet-some p hp) in
    let first_q : slice_index (q ++ b) 0 ≡ slice_index q 0 = get_or_append_left q b 0 0 (packet-some q hq) in
    let first : slice_index p 0 ≡ slice_index q 0 = sym first_p ∙ ap (λ l. slice_index l 0) e ∙ first_q in
    let k = kind_of (slice_index q 0) in
    let need_p : packet_need k p ≡ length p = subst (λ w. packet_need (kind_of w) p ≡ length p) first
    (packet_need-is p hp) in
    let need_q : packet_need k q ≡ length q = packet_need-is q hq in
    let more_p : packet_need k (p ++ a) ≡ packet_need k p = need-more k p a (omega (arith, need_p)) in
    let more_q : packet_need k (q ++ b) ≡ packet_need k q = need-more k q b (omega (arith, need_q)) in
    let len : length p ≡ length q = sym need_p ∙ sym more_p ∙ ap (packet_need k) e ∙ more_q ∙ need_q in
    sym (take_at p a (length q) len) ∙ ap (take (length q)) e ∙ take_at q b (length q) refl
