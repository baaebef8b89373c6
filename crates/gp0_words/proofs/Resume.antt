-- What is pending after the list that `list_of` returns.
use Rattle.std.proofs.Common.{◌≡◌, ℕ, ◌+◌, ◌-◌, ◌<◌, Bool, true, false, cond, List, [], ◌∷◌, ◌++◌, length, slice_index}
use Rattle.std.proofs.Common.{nat_lt, replicate, refl, sym, ap, ◌∙◌, arith, Option, Some, None, option_to_list, subst}
use Rattle.std.proofs.Common.{append-nil, append_assoc}
use Rattle.std.proofs.lemmas.Bool.{lt-ltb, le-ltb}
use Rattle.std.proofs.lemmas.List.{length-replicate}
use Rattle.gp0_words.specs.Kinds.{kind_of, start_len, first_len_of, is_set}
use Rattle.gp0_words.specs.Items.{rest_from, packet_need, packet_rest, pending_behind}
use Rattle.gp0_words.specs.Next.{IsPending, IsPolyline}
use Rattle.gp0_words.specs.Resuming.{list_of}
use Rattle.gp0_words.specs.declared.kind.Kind.{Kind}
use Rattle.gp0_words.specs.declared.kind.Kind.TheVariants.{Polyline}
use Rattle.gp0_words.specs.declared.pending.Pending.{Pending}
use Rattle.gp0_words.specs.declared.pending.Pending.TheVariants as pending
use Rattle.gp0_words.proofs.Cut.{next_pending-kept, pending_behind-push}

-- an incomplete packet, by its kind
front : (k : Kind) (w : ℕ) (ws : List ℕ) → kind_of w ≡ k → length (w ∷ ws) < packet_need k (w ∷ ws)
    → rest_from 0 (w ∷ ws) ≡ packet_rest k (w ∷ ws)
front k w ws is short =
    let test : nat_lt (length (w ∷ ws)) (packet_need k (w ∷ ws)) ≡ true = lt-ltb _ _ short in
    rw (is, test) refl

packet : (words : List ℕ) → 0 < length words → length words < first_len_of (slice_index words 0)
    → rest_from 0 words ≡ pending.Packet words
packet [] some short = absurd (omega arith)
packet (w ∷ ws) some short =
    let test : nat_lt (length (w ∷ ws)) (start_len (kind_of w)) ≡ true = lt-ltb _ _ short in
    rw (test, test) refl

load_of : (more : List ℕ) → length more < 262144
    → rest_from 0 (0xa0000000 ∷ 0 ∷ 0 ∷ more) ≡ pending.Pixels (262144 - length more)
load_of more few =
    let begun : nat_lt (length (0xa0000000 ∷ 0 ∷ 0 ∷ more)) 3 ≡ false = le-ltb _ _ (omega arith) in
    let short : nat_lt (length (0xa0000000 ∷ 0 ∷ 0 ∷ more)) (3 + 262144) ≡ true = lt-ltb _ _ (omega (arith, few)) in
    rw (begun, short) refl

load : (n : ℕ) → n < 262144
    → rest_from 0 (0xa0000000 ∷ 0 ∷ 0 ∷ replicate n 0) ≡ pending.Pixels (262144 - n)
load n few =
    let long : length (replicate n 0) ≡ n = length-replicate {A = ℕ} n 0 in
    load_of (replicate n 0) (omega (arith, long, few)) ∙ ap (λ k. pending.Pixels (262144 - k)) long

shaded : (command color vertex : ℕ) (half : Option ℕ) → kind_of command ≡ Polyline true
    → IsPending (pending.Poly command color vertex half)
    → rest_from 0 (command ∷ 0 ∷ color ∷ vertex ∷ option_to_list half) ≡ pending.Poly command color vertex half
shaded command color vertex None is kept = front (Polyline true) command (0 ∷ color ∷ vertex ∷ []) is (omega arith)
shaded command color vertex (Some half) is kept =
    front (Polyline true) command (0 ∷ color ∷ vertex ∷ half ∷ []) is (rw kept.2 (omega arith))

flat : (command color vertex : ℕ) (half : Option ℕ) → kind_of command ≡ Polyline false → is_set command 28 ≡ false
    → IsPending (pending.Poly command color vertex half)
    → rest_from 0 (command ∷ 0 ∷ vertex ∷ option_to_list half) ≡ pending.Poly command color vertex half
flat command color vertex None is off kept =
    front (Polyline false) command (0 ∷ vertex ∷ []) is (omega arith)
    ∙ ap (λ c. pending.Poly command c vertex None) (sym (kept.1 off))
flat command color vertex (Some half) is off kept = absurd (let on = kept.1 in cc)

poly : (b : Bool) (command color vertex : ℕ) (half : Option ℕ) → is_set command 28 ≡ b → kind_of command ≡ Polyline b
    → IsPending (pending.Poly command color vertex half)
    → rest_from 0 (command ∷ 0 ∷ (cond b (color ∷ vertex ∷ []) (vertex ∷ []) ++ option_to_list half))
    ≡ pending.Poly command color vertex half
poly true command color vertex half set is kept = shaded command color vertex half is kept
poly false command color vertex half set is kept = flat command color vertex half is set kept

is_polyline : (command color vertex : ℕ) (half : Option ℕ) → IsPending (pending.Poly command color vertex half)
    → IsPolyline command
is_polyline command color vertex None kept = kept.0
is_polyline command color vertex (Some half) kept = kept.0

-- the list leads to the value that it was made for
pub list_of-leaves : (p : Pending) → IsPending p → pending_behind (list_of p) ≡ p
unfolding pending_behind list_of
list_of-leaves pending.Idle kept = refl
list_of-leaves (pending.Packet words) kept = packet words kept.0 kept.1
list_of-leaves (pending.Pixels left) kept =
    let back : 262144 - (262144 - left) ≡ left = omega (arith, kept.1) in
    load (262144 - left) (omega (arith, kept.0)) ∙ ap pending.Pixels back
list_of-leaves (pending.Poly command color vertex half) kept =
    poly (is_set command 28) command color vertex half refl (is_polyline command color vertex half kept) kept

rest-kept : (before after : List ℕ) → IsPending (pending_behind before) → IsPending (pending_behind (before ++ after))
rest-kept before [] kept = subst (λ words. IsPending (pending_behind words)) (sym (append-nil before)) kept
rest-kept before (word ∷ after) kept =
    let next : IsPending (pending_behind (before ++ word ∷ [])) =
    subst IsPending (sym (pending_behind-push before word)) (next_pending-kept (pending_behind before) word kept) in
    subst (λ words. IsPending (pending_behind words)) (append_assoc before (word ∷ []) after)
    (rest-kept (before ++ word ∷ []) after next)

nothing-kept : IsPending (pending_behind [])
unfolding pending_behind
nothing-kept = tt

-- every list leads to a value within the bounds
pub leaves-kept : (words : List ℕ) → IsPending (pending_behind words)
leaves-kept words = rest-kept [] words nothing-kept
