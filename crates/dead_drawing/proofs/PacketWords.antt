-- The words of one packet.
use Rattle.std.proofs.Common.{◌≡◌, ◌<◌, ℕ, List, [], ◌∷◌, ◌++◌, None, Some, length, map, slice_index, refl, sym, ap}
use Rattle.std.proofs.Common.{◌∙◌, arith, append_assoc}
use Rattle.std.proofs.lemmas.Bool.{le-ltb, lt-ltb}
use Rattle.std.proofs.lemmas.List.{length-append}
use Rattle.gp0_words.specs.Items.{pending_behind}
use Rattle.gp0_words.specs.Kinds.{kind_of}
use Rattle.gp0_words.specs.Next.{next_item, next_pending, collected_item, collected_pending}
use Rattle.gp0_words.specs.declared.item.Item.TheVariants.{Whole}
use Rattle.gp0_words.specs.declared.kind.Kind.{Kind}
use Rattle.gp0_words.specs.declared.kind.Kind.TheVariants.{Plain}
use Rattle.gp0_words.specs.declared.pending.Pending.{Pending}
use Rattle.gp0_words.specs.declared.pending.Pending.TheVariants as pending
use Rattle.gp0_words.proofs.Cut.{pending_behind-push}
use Rattle.gp0_packets.specs.Packets.{packet_of}
use Rattle.gpu_capture.specs.declared.event.Event.TheVariants as event
use Rattle.gpu_core.specs.Machine.{Parts, State, after_gp0, effect_of, after_item}
use Rattle.dead_drawing.specs.Run.{after, run}
use Rattle.dead_drawing.proofs.Events.{new_is}

-- what is pending after the first words of a packet
abbrev pub held_of : List ℕ → Pending
held_of [] = pending.Idle
held_of (w ∷ ws) = pending.Packet (w ∷ ws)

pub next_of : (done : List ℕ) (w : ℕ)
    → next_item (held_of done) w ≡ collected_item (kind_of (slice_index (done ++ w ∷ []) 0)) (done ++ w ∷ [])
next_of [] w = refl
next_of (x ∷ xs) w = refl

pub pending_of : (done : List ℕ) (w : ℕ)
    → next_pending (held_of done) w ≡ collected_pending (kind_of (slice_index (done ++ w ∷ []) 0)) (done ++ w ∷ [])
pending_of [] w = refl
pending_of (x ∷ xs) w = refl

pub held_more : (done : List ℕ) (w : ℕ) → pending.Packet (done ++ w ∷ []) ≡ held_of (done ++ w ∷ [])
held_more [] w = refl
held_more (x ∷ xs) w = refl

-- the state after a packet that is one item
pub record IsFed (s : State) (words : List ℕ) (now : State) : Type 0 where
  pub parts : now.parts ≡ effect_of s.parts (packet_of s.parts.regs.height (Whole words))
  pub rest : pending_behind now.words ≡ pending.Idle

pub last_item : (n : ℕ) (words : List ℕ) → length words ≡ n → collected_item (Plain n) words ≡ Some (Whole words)
last_item n words e = rw (le-ltb (length words) n (omega (arith, e))) refl

pub last_pending : (n : ℕ) (words : List ℕ) → length words ≡ n → collected_pending (Plain n) words ≡ pending.Idle
last_pending n words e = rw (le-ltb (length words) n (omega (arith, e))) refl

pub part_item : (n : ℕ) (words : List ℕ) → length words < n → collected_item (Plain n) words ≡ None
part_item n words lt = rw (lt-ltb (length words) n lt) refl

pub part_pending : (n : ℕ) (words : List ℕ) → length words < n
    → collected_pending (Plain n) words ≡ pending.Packet words
part_pending n words lt = rw (lt-ltb (length words) n lt) refl

fed_last : (s : State) (n : ℕ) (done : List ℕ) (w : ℕ) → kind_of (slice_index (done ++ w ∷ []) 0) ≡ Plain n
    → length (done ++ w ∷ []) ≡ n → pending_behind s.words ≡ held_of done
    → IsFed s (done ++ w ∷ []) (after_gp0 s w)
unfolding after_gp0
fed_last s n done w kind whole held = record {
  parts = ap (after_item s.parts) (new_is s.words w ∙ ap (λ (p : Pending). next_item p w) held ∙ next_of done w
      ∙ ap (λ (k : Kind). collected_item k (done ++ w ∷ [])) kind ∙ last_item n (done ++ w ∷ []) whole);
  rest = pending_behind-push s.words w ∙ ap (λ (p : Pending). next_pending p w) held ∙ pending_of done w
      ∙ ap (λ (k : Kind). collected_pending k (done ++ w ∷ [])) kind ∙ last_pending n (done ++ w ∷ []) whole;
}

-- the state after words of a packet that do not complete it
record IsBegun (s : State) (done : List ℕ) (now : State) : Type 0 where
  parts : now.parts ≡ s.parts
  rest : pending_behind now.words ≡ held_of done

fed_part : (s : State) (n : ℕ) (done : List ℕ) (w : ℕ) → kind_of (slice_index (done ++ w ∷ []) 0) ≡ Plain n
    → length (done ++ w ∷ []) < n → pending_behind s.words ≡ held_of done
    → IsBegun s (done ++ w ∷ []) (after_gp0 s w)
unfolding after_gp0
fed_part s n done w kind part held = record {
  parts = ap (after_item s.parts) (new_is s.words w ∙ ap (λ (p : Pending). next_item p w) held ∙ next_of done w
      ∙ ap (λ (k : Kind). collected_item k (done ++ w ∷ [])) kind ∙ part_item n (done ++ w ∷ []) part);
  rest = pending_behind-push s.words w ∙ ap (λ (p : Pending). next_pending p w) held ∙ pending_of done w
      ∙ ap (λ (k : Kind). collected_pending k (done ++ w ∷ [])) kind ∙ part_pending n (done ++ w ∷ []) part
      ∙ held_more done w;
}

pub first_of_all : (done : List ℕ) (w : ℕ) (ws : List ℕ)
    → slice_index (done ++ w ∷ ws) 0 ≡ slice_index (done ++ w ∷ []) 0
first_of_all [] w ws = refl
first_of_all (x ∷ xs) w ws = refl

fed_more : (s : State) (n : ℕ) (done : List ℕ) (w : ℕ) (ws : List ℕ)
    → kind_of (slice_index (done ++ w ∷ ws) 0) ≡ Plain n → length (done ++ w ∷ ws) ≡ n
    → pending_behind s.words ≡ held_of done
    → IsFed s (done ++ w ∷ ws) (run s (map event.Gp0 (w ∷ ws)))
unfolding after
fed_more s n done w [] kind whole held = fed_last s n done w kind whole held
fed_more s n done w (v ∷ ws) kind whole held =
    let first = first_of_all done w (v ∷ ws) in
    let begun = fed_part s n done w (ap kind_of (sym first) ∙ kind)
    (omega (arith, whole, length-append done (w ∷ v ∷ ws), length-append done (w ∷ []))) held in
    let all : (done ++ w ∷ []) ++ v ∷ ws ≡ done ++ w ∷ v ∷ ws = append_assoc done (w ∷ []) (v ∷ ws) in
    let fed = fed_more (after_gp0 s w) n (done ++ w ∷ []) v ws
    (ap (λ (l : List ℕ). kind_of (slice_index l 0)) all ∙ kind)
    (ap length all ∙ whole) begun.rest in
    record {
      parts = fed.parts
          ∙ ap (λ (p : Parts). effect_of p (packet_of p.regs.height (Whole ((done ++ w ∷ []) ++ v ∷ ws)))) begun.parts
          ∙ ap (λ (l : List ℕ). effect_of s.parts (packet_of s.parts.regs.height (Whole l))) all;
      rest = fed.rest;
    }

-- a whole packet, from a state with nothing pending
pub packet_fed : (s : State) (n : ℕ) (words : List ℕ) → kind_of (slice_index words 0) ≡ Plain n → length words ≡ n
    → 0 < n → pending_behind s.words ≡ pending.Idle
    → IsFed s words (run s (map event.Gp0 words))
packet_fed s n [] kind whole some held = absurd (omega (arith, whole, some))
packet_fed s n (w ∷ ws) kind whole some held = fed_more s n [] w ws kind whole held
