-- The words of a plain packet.
use Rattle.std.proofs.Common.{◌≡◌, ◌≤◌, ◌<◌, ℕ, ◌+◌, ◌-◌, true, false}
use Rattle.std.proofs.Common.{nat_lt, List, [], ◌∷◌, ◌++◌, Some, None, fold}
use Rattle.std.proofs.Common.{length, slice_index, map, refl, ap, sym, subst, ◌∙◌, arith}
use Rattle.std.proofs.Common.{append_assoc, length-append}
use Rattle.std.proofs.lemmas.Bool.Decides.{nat_tests}
use Rattle.gp0_packets.specs.declared.note.Note.{Note}
use Rattle.gp0_packets.specs.Packets.{packet_of}
use Rattle.gp0_words.specs.Kinds.{kind_of, first_len_of}
use Rattle.gp0_words.specs.Next.{next_pending, next_item, collected_pending, collected_item, IsPending}
use Rattle.gp0_words.specs.declared.item.Item.TheVariants as item
use Rattle.gp0_words.specs.declared.kind.Kind.TheVariants.{Plain}
use Rattle.gp0_words.specs.declared.pending.Pending.{Pending}
use Rattle.gp0_words.specs.declared.pending.Pending.TheVariants as pending
use Rattle.gp0_words.proofs.Pushes.{pushed}
use Rattle.gpu_taps.specs.Bare.{after_notes}
use Rattle.gpu_taps.specs.Tally.{capped, reading_after}
use Rattle.gpu_core.specs.Area.{note_of}
use Rattle.gpu_core.specs.Cost.{item_cost}
use Rattle.gpu_core.specs.Feeds.{After, Hearing, TakesWords, feed_notes, feeds_cost}
use Rattle.gpu_core.specs.Kept.{Kept, kept_of, IsLinked}
use Rattle.gpu_core.specs.Machine.{Parts, State, after_gp0, effect_of, after_item}
use Rattle.gpu_core.proofs.Fed.{fed}
use Rattle.gpu_core.proofs.Link.{collected-linked}

-- ---- its words, one after another

-- what is pending after its first words
abbrev begun : List ℕ → Pending
begun [] = pending.Idle
begun (word ∷ words) = pending.Packet (word ∷ words)

begun_pending : (held : List ℕ) (word : ℕ) → next_pending (begun held) word
    ≡ collected_pending (kind_of (slice_index (held ++ word ∷ []) 0)) (held ++ word ∷ [])
begun_pending [] word = refl
begun_pending (first ∷ held) word = refl

begun_item : (held : List ℕ) (word : ℕ) → next_item (begun held) word
    ≡ collected_item (kind_of (slice_index (held ++ word ∷ []) 0)) (held ++ word ∷ [])
begun_item [] word = refl
begun_item (first ∷ held) word = refl

begun_more : (held : List ℕ) (word : ℕ) → begun (held ++ word ∷ []) ≡ pending.Packet (held ++ word ∷ [])
begun_more [] word = refl
begun_more (first ∷ held) word = refl

same_first : (held : List ℕ) (word : ℕ) (words : List ℕ)
    → slice_index (held ++ word ∷ words) 0 ≡ slice_index (held ++ word ∷ []) 0
same_first [] word words = refl
same_first (first ∷ held) word words = refl

begun_bounds : (held : List ℕ) (word : ℕ) (words : List ℕ) (n : ℕ) → kind_of (slice_index (held ++ word ∷ words) 0)
    ≡ Plain n
    → length held < n → IsPending (begun held)
begun_bounds [] word words n kind lt = tt
begun_bounds (first ∷ held) word words n kind lt = (omega arith, rw kind lt)

-- `words` are the last words of a packet
record IsTaken (s : State) (p : Parts) (first : ℕ) (words all : List ℕ) : Type 0 where
  pub feed : kept_of (fold after_gp0 s words)
      ≡ record { parts = after_item p (Some (item.Whole all)); pending = pending.Idle }
  pub notes : feed_notes s first words ≡ note_of p.regs (capped (first + (length words - 1))) (item.Whole all) ∷ []
  pub cost : feeds_cost s words ≡ item_cost p (Some (item.Whole all))

taken : (words : List ℕ) (s : State) (p : Parts) (first : ℕ) (held : List ℕ) (n : ℕ) → 0 < length words
    → kept_of s ≡ record { parts = p; pending = begun held } → kind_of (slice_index (held ++ words) 0) ≡ Plain n
    → length (held ++ words) ≡ n → IsTaken s p first words (held ++ words)
taken [] s p first held n some e kind len = absurd (omega (arith, some))
taken (word ∷ []) s p first held n some e kind len =
    let all = held ++ word ∷ [] in
    let bounds = begun_bounds held word [] n kind (omega (arith, len, length-append held (word ∷ []))) in
    let whole : nat_lt (length all) n ≡ false = grind (arith, nat_tests, len) in
    let idle : pending.Idle ≡ next_pending (begun held) word = sym (begun_pending held word ∙ rw (kind, whole) refl) in
    let is_item : Some (item.Whole all) ≡ next_item (begun held) word = sym
    (begun_item held word ∙ rw (kind, whole) refl) in
    let push = pushed (begun held) pending.Idle word (Some (item.Whole all)) bounds idle is_item in
    let is = fed s (record { parts = p; pending = begun held }) pending.Idle (capped first) word
    (Some (item.Whole all)) e push in
    let number : first + (length (word ∷ []) - 1) ≡ first = omega arith in
    record {
      feed = is.feed;
      notes = rw (is.note, number) refl;
      cost = let c = is.cost in omega (arith, c);
    }
taken (word ∷ next ∷ words) s p first held n some e kind len =
    let all = held ++ word ∷ [] in
    let long = length-append held (word ∷ next ∷ words) in
    let bounds = begun_bounds held word (next ∷ words) n kind (omega (arith, len, long)) in
    let kind_now : kind_of (slice_index all 0) ≡ Plain n = ap kind_of (sym (same_first held word (next ∷ words)))
    ∙ kind in
    let part : nat_lt (length all) n ≡ true =
    let more = length-append held (word ∷ []) in grind (arith, nat_tests, len, long, more) in
    let held_now : begun all ≡ next_pending (begun held) word =
    begun_more held word ∙ sym (begun_pending held word ∙ rw (kind_now, part) refl) in
    let none : None ≡ next_item (begun held) word = sym (begun_item held word ∙ rw (kind_now, part) refl) in
    let push = pushed (begun held) (begun all) word None bounds held_now none in
    let is = fed s (record { parts = p; pending = begun held }) (begun all) (capped first) word None e push in
    let joined = append_assoc held (word ∷ []) (next ∷ words) in
    let rest = taken (next ∷ words) (after_gp0 s word) p (first + 1) all n (omega arith) is.feed
    (ap (λ l. kind_of (slice_index l 0)) joined ∙ kind) (ap length joined ∙ len) in
    let Q : List ℕ → Type 0 = λ l. IsTaken (after_gp0 s word) p (first + 1) (next ∷ words) l in
    let on = subst Q joined rest in
    let number : first + 1 + (length (next ∷ words) - 1) ≡ first + (length (word ∷ next ∷ words) - 1) = omega arith in
    record {
      feed = on.feed;
      notes = rw is.note (on.notes
          ∙ ap (λ n. note_of p.regs (capped n) (item.Whole (held ++ word ∷ next ∷ words)) ∷ []) number);
      cost = let a = is.cost in let b = on.cost in omega (arith, a, b);
    }

-- ---- all its words at once

-- they were fed at once, and have this note
pub plain_taken : (s : State) (p : Parts) (h : Pending) (note : Note) (event played : ℕ) (words : List ℕ)
    (before : Hearing) (now : After)
    → kept_of s ≡ record { parts = p; pending = h } → h ≡ pending.Idle → 0 < length words
    → kind_of (slice_index words 0) ≡ Plain (length words) → event ≡ capped (played + length words)
    → note ≡ note_of p.regs event (item.Whole words)
    → now.gpu ≡ record { parts = after_item p (Some (item.Whole words)); pending = h }
    → now.heard ≡ map (reading_after note) before.heard
    → now.steps ≤ before.steps + item_cost p (Some (item.Whole words))
    → TakesWords s (played + 1) words before now × (feed_notes s (played + 1) words ≡ note ∷ [])
plain_taken s p h note event played words before now e idle some kind number noted effect told cost =
    let f : Pending → Kept = λ h. record { parts = p; pending = h } in
    let is = taken words s p (played + 1) [] (length words) some (e ∙ ap f idle) kind refl in
    let same : capped (played + 1 + (length words - 1)) ≡ event = omega (arith, some, number) in
    let last = ap (λ n. note_of p.regs n (item.Whole words)) same ∙ sym noted in
    let notes = is.notes ∙ ap (λ n. n ∷ []) last in (
      record {
        feed = is.feed ∙ rw (effect, idle) refl;
        told = told ∙ ap (λ notes. map (after_notes notes) before.heard) (sym notes);
        cost = let c = is.cost in omega (arith, c, cost);
      },
      notes,
    )

pub plain_load : (height : ℕ) (words : List ℕ) (p : Parts) → 0 < length words → kind_of (slice_index words 0)
    ≡ Plain (length words)
    → p.load ≡ None → (effect_of p (packet_of height (item.Whole words))).load ≡ None
plain_load height words p some kind none =
    let whole : nat_lt (length words) (length words) ≡ false = grind (arith, nat_tests) in
    let kinds = kind_of (slice_index words 0) in
    let is_item : collected_item kinds words ≡ Some (item.Whole words) = rw (kind, whole) refl in
    let idle : collected_pending kinds words ≡ pending.Idle = rw (kind, whole) refl in
    let most : length words ≤ first_len_of (slice_index words 0) = rw kind (omega arith) in
    let P : Pending → Type 0 = λ h. IsLinked h (effect_of p (packet_of height (item.Whole words))).load in
    subst P idle (collected-linked height words (item.Whole words) p some most none is_item)
