-- Every list of words is packets and a proper prefix of one.
use Rattle.std.proofs.Common.{◌≡◌, inl, inr, ℕ, zero, suc, ◌-◌, ◌<◌, ◌≤◌, Bool, true, false, cond, List, [], ◌∷◌, ◌++◌}
use Rattle.std.proofs.Common.{length, take, drop, flat_map, replicate, slice_index, refl, sym, ap, ◌∙◌, arith}
use Rattle.std.proofs.Common.{append_assoc, get_or-take}
use Rattle.std.proofs.lemmas.Bool.{cases_lt, cond_both}
use Rattle.std.proofs.lemmas.Bool.Decides.{nat_tests}
use Rattle.std.proofs.lemmas.List.{take-append-drop, length-take-le, length-append, length-replicate, length-drop}
use Rattle.std.proofs.lemmas.List.{get_or_append_left}
use Rattle.gp0_words.specs.Kinds.{kind_of, start_len, is_end}
use Rattle.gp0_words.specs.Sizes.{data_words_of}
use Rattle.gp0_words.specs.Items.{flat_need, shaded_need, tail_need, packet_need}
use Rattle.gp0_words.specs.Cutting.{IsFlatTail, IsShadedTail, IsTail, IsPacket, BeginsPacket, IsCutUp}
use Rattle.gp0_words.specs.declared.kind.Kind.{Kind}
use Rattle.gp0_words.specs.declared.kind.Kind.TheVariants.{Plain, Load, Polyline}
use Rattle.gp0_words.proofs.Cut.{start_len-positive}

-- an end word
abbrev end : ℕ
end = 0x50005000

end_is : is_end end ≡ true
end_is = refl

below_cond : (b : Bool) (n m : ℕ) → 1 ≤ n → n < cond b 1 m → (b ≡ false) × (n < m)
below_cond true n m some h = absurd (omega arith)
below_cond false n m some h = (refl, h)

-- ---- a proper prefix of a tail

-- words that complete a prefix of a tail
record Completes (k : Kind) (start more : List ℕ) : Type 0 where
  pub last : List ℕ
  pub some : 0 < length last
  pub is : IsTail k start (more ++ last)

flat_complete : (more : List ℕ) → length more < flat_need more → IsFlatTail (more ++ end ∷ [])
flat_complete [] h = end_is
flat_complete (w ∷ []) h = ((below_cond (is_end w) 1 2 (omega arith) h).0, end_is)
flat_complete (w ∷ v ∷ ws) h =
    let on = below_cond (is_end w) (length (w ∷ v ∷ ws)) (suc (flat_need (v ∷ ws))) (omega arith) h in
    (on.0, flat_complete (v ∷ ws) (omega (arith, on.1)))

record CompletesShaded (more : List ℕ) : Type 0 where
  pub last : List ℕ
  pub some : 0 < length last
  pub is : IsShadedTail (more ++ last)

shaded_complete : (more : List ℕ) → length more < shaded_need more → CompletesShaded more
shaded_complete [] h = record { last = end ∷ []; some = omega arith; is = end_is }
shaded_complete (c ∷ []) h =
    record { last = 0 ∷ end ∷ []; some = omega arith; is = ((below_cond (is_end c) 1 2 (omega arith) h).0, end_is) }
shaded_complete (c ∷ v ∷ ws) h =
    let on = below_cond (is_end c) (length (c ∷ v ∷ ws)) (suc (suc (shaded_need ws))) (omega arith) h in
    let more = shaded_complete ws (omega (arith, on.1)) in
    record { last = more.last; some = more.some; is = (on.0, more.is) }

tail_completes : (k : Kind) (start more : List ℕ) → length more < tail_need k start more → Completes k start more
tail_completes (Plain n) start more h = absurd (omega arith)
tail_completes Load start more h =
    let n = data_words_of (slice_index start 2) - length more in
    record {
      last = replicate n 0;
      some = omega (arith, length-replicate {A = ℕ} n 0);
      is = omega (arith, length-append more (replicate n 0), length-replicate {A = ℕ} n 0);
    }
tail_completes (Polyline true) start more h =
    let on = shaded_complete more h in record { last = on.last; some = on.some; is = on.is }
tail_completes (Polyline false) start more h = record { last = end ∷ []; some = omega arith; is = flat_complete more h }

-- a tail for every start
shortest_tail : Kind → List ℕ → List ℕ
shortest_tail (Plain n) start = []
shortest_tail Load start = replicate (data_words_of (slice_index start 2)) 0
shortest_tail (Polyline shaded) start = end ∷ []

shortest_tail-is : (k : Kind) (start : List ℕ) → IsTail k start (shortest_tail k start)
unfolding shortest_tail
shortest_tail-is (Plain n) start = refl
shortest_tail-is Load start = length-replicate _ _
shortest_tail-is (Polyline true) start = end_is
shortest_tail-is (Polyline false) start = end_is

-- ---- a proper prefix of a packet

packet_by : (k : Kind) (packet start more : List ℕ) → kind_of (slice_index packet 0) ≡ k → packet ≡ start ++ more
    → length start ≡ start_len k → IsTail k start more → IsPacket packet
packet_by k packet start more kind parts len tail = record {
  start = start;
  more = more;
  parts = parts;
  len = rw kind len;
  tail = rw kind tail;
}

-- the words in front decide the kind
kind_front : (words more : List ℕ) → 0 < length words → kind_of (slice_index (words ++ more) 0)
    ≡ kind_of (slice_index words 0)
kind_front words more some = ap kind_of (get_or_append_left words more 0 0 some)

begins : (words : List ℕ) → 0 < length words → length words < packet_need (kind_of (slice_index words 0)) words
    → BeginsPacket words
begins words some part =
    let k = kind_of (slice_index words 0) in
    let n = start_len k in
    elim (cases_lt (length words) n) [
      | inr long ↦
          let short : length (drop n words) < tail_need k (take n words) (drop n words) = grind
          (arith, nat_tests, length-drop) in
          let on = tail_completes k (take n words) (drop n words) short in
          record {
            more = on.last;
            some = on.some;
            packet = packet_by k (words ++ on.last) (take n words) (drop n words ++ on.last)
                (kind_front words on.last some)
                (ap (λ xs. xs ++ on.last) (sym (take-append-drop n words))
                ∙ append_assoc (take n words) (drop n words) on.last)
                (length-take-le n words long) on.is;
          }
      | inl few ↦
          let zeros = replicate (n - length words) 0 in
          let start = words ++ zeros in
          let tail = shortest_tail k start in
          record {
            more = zeros ++ tail;
            some = omega (arith, length-append zeros tail, length-replicate {A = ℕ} (n - length words) 0);
            packet = packet_by k (words ++ (zeros ++ tail)) start tail (kind_front words (zeros ++ tail) some)
                (sym (append_assoc words zeros tail))
                (omega (arith, length-append words zeros, length-replicate {A = ℕ} (n - length words) 0))
                (shortest_tail-is k start);
          }
    ]

-- ---- a packet at the front

flat_tail-cons : (w : ℕ) (more : List ℕ) → is_end w ≡ false → IsFlatTail more → IsFlatTail (w ∷ more)
flat_tail-cons w [] e h = absurd h
flat_tail-cons w (v ∷ ws) e h = (e, h)

flat_cut : (more : List ℕ) → flat_need more ≤ length more → IsFlatTail (take (flat_need more) more)
flat_cut [] h = absurd (omega arith)
flat_cut (w ∷ ws) h =
    cond_both (is_end w) 1 (suc (flat_need ws)) (λ n. IsFlatTail (take n (w ∷ ws)))
    (λ e. e)
    (λ e. let fits : suc (flat_need ws) ≤ suc (length ws) = rw e at h in
    flat_tail-cons w (take (flat_need ws) ws) e (flat_cut ws (omega arith)))

shaded_tail-cons : (c v : ℕ) (more : List ℕ) → is_end c ≡ false → IsShadedTail more → IsShadedTail (c ∷ v ∷ more)
shaded_tail-cons c v more e h = (e, h)

shaded_cut : (more : List ℕ) → shaded_need more ≤ length more → IsShadedTail (take (shaded_need more) more)
shaded_cut [] h = absurd (omega arith)
shaded_cut (c ∷ []) h =
    cond_both (is_end c) 1 2 (λ n. IsShadedTail (take n (c ∷ []))) (λ e. e)
    (λ e. let fits : 2 ≤ 1 = rw e at h in absurd (omega arith))
shaded_cut (c ∷ v ∷ ws) h =
    cond_both (is_end c) 1 (suc (suc (shaded_need ws))) (λ n. IsShadedTail (take n (c ∷ v ∷ ws)))
    (λ e. e)
    (λ e. let fits : suc (suc (shaded_need ws)) ≤ suc (suc (length ws)) = rw e at h in (e, shaded_cut ws (omega arith)))

tail_cut : (k : Kind) (start more : List ℕ) → tail_need k start more ≤ length more
    → IsTail k start (take (tail_need k start more) more)
tail_cut (Plain n) start more h = refl
tail_cut Load start more h = length-take-le _ more h
tail_cut (Polyline true) start more h = shaded_cut more h
tail_cut (Polyline false) start more h = flat_cut more h

-- the words of the packet at the front, and those after it
record HasFront (words : List ℕ) : Type 0 where
  pub packet : List ℕ
  pub rest : List ℕ
  pub parts : words ≡ packet ++ rest
  pub is : IsPacket packet
  pub some : 0 < length packet

front : (words : List ℕ) → 0 < length words → packet_need (kind_of (slice_index words 0)) words ≤ length words
    → HasFront words
front words some whole =
    let k = kind_of (slice_index words 0) in
    let n = start_len k in
    let positive = start_len-positive (slice_index words 0) in
    let long : n ≤ length words = grind (arith, nat_tests) in
    let start = take n words in
    let behind = drop n words in
    let m = tail_need k start behind in
    let fits : m ≤ length behind = grind (arith, nat_tests, length-drop) in
    let len : length start ≡ n = length-take-le n words long in
    let first : slice_index (start ++ take m behind) 0 ≡ slice_index words 0 =
    get_or_append_left start (take m behind) 0 0 (omega (arith, len)) ∙ get_or-take _ _ _ _ positive in
    record {
      packet = start ++ take m behind;
      rest = drop m behind;
      parts = sym (take-append-drop n words) ∙ ap (λ xs. start ++ xs) (sym (take-append-drop m behind))
          ∙ sym (append_assoc start (take m behind) (drop m behind));
      is = packet_by k (start ++ take m behind) start (take m behind) (ap kind_of first) refl len
          (tail_cut k start behind fits);
      some = omega (arith, length-append start (take m behind), len);
    }

-- ---- every list

cut_up : (fuel : ℕ) (words : List ℕ) → length words ≤ fuel → IsCutUp words
cut_up fuel [] h = record { packets = []; rest = []; parts = refl; whole = tt; part = inl refl }
cut_up zero (w ∷ ws) h = absurd (omega arith)
cut_up (suc fuel) (w ∷ ws) h =
    elim (cases_lt (length (w ∷ ws)) (packet_need (kind_of w) (w ∷ ws))) [
      | inl part ↦ record {
        packets = [];
        rest = w ∷ ws;
        parts = refl;
        whole = tt;
        part = inr
            (begins (w ∷ ws) (omega arith) part);
      }
      | inr whole ↦
          let f = front (w ∷ ws) (omega arith) whole in
          let on = cut_up fuel f.rest (omega (arith, ap length f.parts, length-append f.packet f.rest, f.some)) in
          record {
            packets = f.packet ∷ on.packets;
            rest = on.rest;
            parts = f.parts ∙ ap (λ xs. f.packet ++ xs) on.parts
                ∙ sym (append_assoc f.packet (flat_map (λ packet. packet) on.packets) on.rest);
            whole = (f.is, on.whole);
            part = on.part;
          }
    ]

pub all_cut_up : (words : List ℕ) → IsCutUp words
all_cut_up words = cut_up (length words) words (omega arith)
