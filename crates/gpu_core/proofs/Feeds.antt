-- Words that are fed one after another.
use Rattle.std.proofs.Common.{◌≡◌, ◌≤◌, ◌<◌, ℕ, suc, ◌+◌, List, [], ◌∷◌, ◌++◌, Option, Some, None, option_to_list, fold}
use Rattle.std.proofs.Common.{length, take, get_or, map, refl, ap, sym, ◌∙◌, arith, append-nil, append_assoc, add-zero}
use Rattle.std.proofs.lemmas.List.{take_more}
use Rattle.std.proofs.lemmas.List.Sums.{fold-append}
use Rattle.gp0_packets.specs.declared.note.Note.{Note}
use Rattle.gp0_packets.specs.Packets.{environment_of}
use Rattle.gp0_words.specs.Kinds.{class_of}
use Rattle.gp0_words.specs.Pushed.{IsPushed}
use Rattle.gp0_words.specs.declared.item.Item.TheVariants as item
use Rattle.gp0_words.specs.declared.pending.Pending.{Pending}
use Rattle.gpu_taps.specs.Bare.{bare_note, bare_notes, after_notes}
use Rattle.gpu_taps.specs.Tally.{Reading, capped}
use Rattle.gpu_taps.proofs.Bare.{bare_notes-push}
use Rattle.gpu_core.specs.Cost.{gp0_cost}
use Rattle.gpu_core.specs.Feeds.{After, Hearing, SetsRegisters, TakesWords, feed_notes}
use Rattle.gpu_core.specs.Kept.{Kept, kept_of}
use Rattle.gpu_core.specs.Machine.{Parts, State, after_gp0, gp0_note, effect_of, told_option}
use Rattle.gpu_core.proofs.Fed.{fed, register_packet, register_note}

-- one word more
notes-push : (s : State) (first : ℕ) (words : List ℕ) (word : ℕ)
    → feed_notes s first (words ++ word ∷ [])
    ≡ feed_notes s first words ++ option_to_list
    (gp0_note (fold after_gp0 s words) (capped (first + length words)) word)
notes-push s first [] word = rw (add-zero first) (append-nil (option_to_list (gp0_note s (capped first) word)))
notes-push s first (x ∷ words) word =
    let e : first + 1 + length words ≡ first + suc (length words) = omega arith in
    let one = option_to_list (gp0_note s (capped first) x) in
    let last = option_to_list (gp0_note (fold after_gp0 (after_gp0 s x) words)
    (capped (first + 1 + length words)) word) in
    rw (← e) (ap (λ notes. one ++ notes) (notes-push (after_gp0 s x) (first + 1) words word)
    ∙ sym (append_assoc one (feed_notes (after_gp0 s x) (first + 1) words) last))

-- ---- one word

map-same : (readings : List Reading) → readings ≡ map (after_notes []) readings
map-same [] = refl
map-same (reading ∷ readings) = ap (λ more. reading ∷ more) (map-same readings)

told_one : (note : Option Note) (readings : List Reading) → told_option note readings
    ≡ map (after_notes (option_to_list note ++ [])) readings
told_one None readings = map-same readings
told_one (Some note) readings = refl

pub one_taken : (s : State) (first word : ℕ) (note : Option Note) (before : Hearing) (now : After)
    → kept_of (after_gp0 s word) ≡ now.gpu → gp0_note s (capped first) word ≡ note
    → now.heard ≡ told_option note before.heard → now.steps ≤ before.steps + gp0_cost s word
    → TakesWords s first (word ∷ []) before now
one_taken s first word note before now feed noted told cost = record {
  feed = feed;
  told = rw noted (told ∙ told_one note before.heard);
  cost = omega (arith, cost);
}

-- ---- words of registers

pub set_none : (s : State) (first : ℕ) (now : Kept) → kept_of s ≡ now → SetsRegisters s first [] now
set_none s first now e = record { feed = e; notes = refl }

pub set_more : (s : State) (first : ℕ) (words : List ℕ) (i : ℕ) (p q : Parts) (h : Pending) → i < length words
    → SetsRegisters s first (take i words) (record { parts = p; pending = h })
    → IsPushed h h (get_or words i 0) (Some (item.Whole (get_or words i 0 ∷ []))) → class_of (get_or words i 0) ≡ 7
    → q ≡ effect_of p (environment_of (get_or words i 0))
    → SetsRegisters s first (take (i + 1) words) (record { parts = q; pending = h })
set_more s first words i p q h lt before push class effect =
    let word = get_or words i 0 in
    let some = take i words in
    let all : take (i + 1) words ≡ some ++ word ∷ [] = take_more words i 0 lt in
    let at = fold after_gp0 s some in
    let event = capped (first + length some) in
    let is = fed at (record { parts = p; pending = h }) h event word (Some (item.Whole (word ∷ []))) before.feed push in
    let f : Parts → Kept = λ p. record { parts = p; pending = h } in
    let note : gp0_note at event word ≡ Some (bare_note 7 event word) =
    is.note ∙ ap Some (register_note p.regs event word class) in
    record {
      feed = ap (λ words. kept_of (fold after_gp0 s words)) all ∙ ap kept_of (fold-append after_gp0 s some (word ∷ []))
          ∙ is.feed ∙ ap f (ap (effect_of p) (register_packet p.regs.height word class) ∙ sym effect);
      notes = ap (feed_notes s first) all ∙ notes-push s first some word
          ∙ ap (λ note. feed_notes s first some ++ option_to_list note) note
          ∙ ap (λ notes. notes ++ bare_note 7 event word ∷ []) before.notes
          ∙ sym (ap (bare_notes 7 first) all ∙ bare_notes-push 7 first some word);
    }

pub set_taken : (s : State) (first : ℕ) (words : List ℕ) (before : Hearing) (now : After)
    → SetsRegisters s first words now.gpu → now.heard ≡ map (after_notes (bare_notes 7 first words)) before.heard
    → now.steps ≡ before.steps → TakesWords s first words before now
set_taken s first words before now set told same = record {
  feed = set.feed;
  told = rw set.notes told;
  cost = omega (arith, same);
}
