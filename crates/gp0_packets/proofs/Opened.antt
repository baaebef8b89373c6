-- Only the first words of a load open one.
use Rattle.std.proofs.Common.{ℕ, ◌-◌, ◌==◌, ◌&&◌, nat_le, Bool, true, false, cond, List, slice_index, refl}
use Rattle.std.proofs.lemmas.Bool.{cond_both}
use Rattle.gp0_words.specs.Kinds.{is_set, class_of, opcode_of, kind_of, line_kind_of, polygon_len_of, rectangle_len_of}
use Rattle.gp0_words.specs.declared.kind.Kind.TheVariants.{Plain, Load}
use Rattle.gp0_packets.specs.Loads.{IsOfNoLoad, OpensLoad}
use Rattle.gp0_packets.specs.Packets.{polygon_of, line_of, rectangle_of, copy_of, load_of, store_of, environment_of}
use Rattle.gp0_packets.specs.Packets.{other_of, fill_of, whole_of}
use Rattle.gp0_packets.specs.Fields.{low_24}
use Rattle.gp0_packets.specs.declared.packet.Packet.{Packet}
use Rattle.gp0_packets.specs.declared.packet.Packet.TheVariants as packet

IsOfNoLoad-cond : (b : Bool) (p q : Packet) → IsOfNoLoad p → IsOfNoLoad q → IsOfNoLoad (cond b p q)
IsOfNoLoad-cond true p q x y = x
IsOfNoLoad-cond false p q x y = y

no_load-polygon : (words : List ℕ) → IsOfNoLoad (polygon_of words)
unfolding polygon_of
no_load-polygon words = tt

no_load-line : (words : List ℕ) → IsOfNoLoad (line_of words)
unfolding line_of
no_load-line words = IsOfNoLoad-cond (is_set (slice_index words 0) 28) _ _ tt tt

no_load-rectangle : (words : List ℕ) → IsOfNoLoad (rectangle_of words)
unfolding rectangle_of
no_load-rectangle words = tt

no_load-copy : (height : ℕ) (words : List ℕ) → IsOfNoLoad (copy_of height words)
unfolding copy_of
no_load-copy height words = tt

no_load-store : (height : ℕ) (words : List ℕ) → IsOfNoLoad (store_of height words)
unfolding store_of
no_load-store height words = tt

no_load-fill : (height : ℕ) (words : List ℕ) → IsOfNoLoad (fill_of height words)
unfolding fill_of
no_load-fill height words = tt

no_load-environment : (word : ℕ) → IsOfNoLoad (environment_of word)
unfolding environment_of
no_load-environment word =
    IsOfNoLoad-cond (nat_le 0xe1 (opcode_of word) && nat_le (opcode_of word) 0xe6)
    (packet.Env (opcode_of word - 0xe0) (low_24 word)) packet.Nop tt tt

no_load-other : (height : ℕ) (words : List ℕ) → IsOfNoLoad (other_of height words)
unfolding other_of
no_load-other height words =
    let opcode = opcode_of (slice_index words 0) in
    IsOfNoLoad-cond (opcode == 0x02) (fill_of height words) (cond (opcode == 0x1f) packet.Irq packet.Nop)
    (no_load-fill height words)
    (IsOfNoLoad-cond (opcode == 0x1f) packet.Irq packet.Nop tt tt)

line_kind-opens : (height : ℕ) (words : List ℕ) (w : ℕ) (p : Packet) → IsOfNoLoad p
    → OpensLoad height (line_kind_of w) words p
line_kind-opens height words w p none = cond_both (is_set w 27) _ _ (λ k. OpensLoad height k words p) (λ e. none)
    (λ e. none)

-- by the class of the first word, in the order of both definitions
by_class : (height : ℕ) (words : List ℕ) (w n : ℕ) (b1 b2 b3 b4 b5 b6 : Bool) (p : Packet) → IsOfNoLoad p →
    OpensLoad height
    (cond b1 (Plain (polygon_len_of w))
    (cond b2 (line_kind_of w)
    (cond b3 (Plain (rectangle_len_of w)) (cond b4 (Plain 4) (cond b5 Load (cond b6 (Plain 3) (Plain n)))))))
    words
    (cond b1 (polygon_of words)
    (cond b2 (line_of words)
    (cond b3 (rectangle_of words)
    (cond b4 (copy_of height words) (cond b5 (load_of height words) (cond b6 (store_of height words) p))))))
by_class height words w n true b2 b3 b4 b5 b6 p none = no_load-polygon words
by_class height words w n false true b3 b4 b5 b6 p none = line_kind-opens height words w (line_of words)
    (no_load-line words)
by_class height words w n false false true b4 b5 b6 p none = no_load-rectangle words
by_class height words w n false false false true b5 b6 p none = no_load-copy height words
by_class height words w n false false false false true b6 p none = record { is = refl; count = refl }
by_class height words w n false false false false false true p none = no_load-store height words
by_class height words w n false false false false false false p none = none

pub whole-opens : (height : ℕ) (words : List ℕ) → OpensLoad height (kind_of (slice_index words 0)) words
    (whole_of height words)
unfolding whole_of
whole-opens height words =
    by_class height words (slice_index words 0) _ _ _ _ _ _ _ _
    (IsOfNoLoad-cond (class_of (slice_index words 0) == 7) (environment_of (slice_index words 0))
    (other_of height words)
    (no_load-environment (slice_index words 0)) (no_load-other height words))
