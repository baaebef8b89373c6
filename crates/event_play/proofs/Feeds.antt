-- Words that are fed in parts.
use Rattle.std.proofs.Common.{◌≡◌, ◌≤◌, ◌⊎◌, inl, inr, ℕ, ◌+◌, ◌++◌, List, [], ◌∷◌, Option, None, Some, Ok, Err}
use Rattle.std.proofs.Common.{option_to_list}
use Rattle.std.proofs.Common.{flat_map, refl, ap, sym, subst, ◌∙◌, append_assoc, append-nil, arith}
use Rattle.std.proofs.lemmas.List.Sums.{fold-append}
use Rattle.gathered_out.specs.Pieces.{Piece, piece}
use Rattle.gathered_out.proofs.Puts.{HasPut, put_fails, put_none, put_on, puts_all}
use Rattle.gp0_packets.specs.declared.note.Note.{Note}
use Rattle.gpu_core.specs.Cost.{gp0_cost}
use Rattle.gpu_core.specs.Kept.{Kept, kept_of}
use Rattle.gpu_core.specs.Machine.{State, after_gp0, gp0_note, told_option}
use Rattle.gpu_taps.specs.Tally.{Reading}
use Rattle.px_num.specs.declared.shape.Cell.{Cell}
use Rattle.packet_text.specs.Line.{listed}
use Rattle.event_play.specs.Fed.{fed, fed_notes, fed_cost}
use Rattle.event_play.specs.Feeding.{BuffersLines, Feeds, StopsFeeding, FeedsWords, drawing, fed_lines, fed_lines_cost}
use Rattle.event_play.specs.Feeding.{in_event, lines_in, looks_in}
use Rattle.event_play.specs.Streams.{Outlets, sink_of}
use Rattle.event_play.specs.Changes.{Change, word_change, fed_changes, seen_cell, cell_change_line}
use Rattle.event_play.specs.Told.{told_notes}
use Rattle.event_play.specs.declared.ending.Mode.{Mode}
use Rattle.event_play.specs.declared.ending.Mode.TheVariants.{Vram, Shot, Report, Frames, Sums, Pixel}
use Rattle.event_play.specs.declared.ending.Mode.TheVariants.{List as Listing, Play as Words}
use Rattle.event_play.proofs.Grows.{lines_in-none, lines_in-append, looks_in-append}
use Rattle.event_play.proofs.Putting.{puts_none}

-- ---- two lists of words, one after the other

pub fed-append : (s : State) (xs ys : List ℕ) → fed s (xs ++ ys) ≡ fed (fed s xs) ys
fed-append s xs ys = fold-append after_gp0 s xs ys

pub fed_notes-append : (s : State) (number : ℕ) (xs ys : List ℕ)
    → fed_notes s number (xs ++ ys) ≡ fed_notes s number xs ++ fed_notes (fed s xs) number ys
fed_notes-append s number [] ys = refl
fed_notes-append s number (x ∷ xs) ys =
    ap (λ notes. option_to_list (gp0_note s number x) ++ notes) (fed_notes-append (after_gp0 s x) number xs ys)
    ∙ sym (append_assoc (option_to_list (gp0_note s number x)) (fed_notes (after_gp0 s x) number xs)
    (fed_notes (fed (after_gp0 s x) xs) number ys))

pub fed_cost-append : (s : State) (xs ys : List ℕ) → fed_cost s (xs ++ ys) ≡ fed_cost s xs + fed_cost (fed s xs) ys
fed_cost-append s [] ys = omega arith
fed_cost-append s (x ∷ xs) ys = let e = fed_cost-append (after_gp0 s x) xs ys in omega (arith, e)

pub told-append : (notes others : List Note) (readings : List Reading)
    → told_notes (notes ++ others) readings ≡ told_notes others (told_notes notes readings)
told-append notes others readings = fold-append _ readings notes others

pub fed_changes-append : (s : State) (number : ℕ) (xs ys : List ℕ)
    → fed_changes s number (xs ++ ys) ≡ fed_changes s number xs ++ fed_changes (fed s xs) number ys
fed_changes-append s number [] ys = refl
fed_changes-append s number (x ∷ xs) ys =
    ap (λ changes. word_change s number x ∷ changes) (fed_changes-append (after_gp0 s x) number xs ys)

pub fed_lines-append : (mode : Option Mode) (s : State) (number : ℕ) (xs ys : List ℕ)
    → fed_lines mode s number (xs ++ ys) ≡ fed_lines mode s number xs ++ fed_lines mode (fed s xs) number ys
fed_lines-append mode s number xs ys =
    let notes = fed_notes s number xs in
    let others = fed_notes (fed s xs) number ys in
    ap (λ notes. lines_in mode notes (fed_changes s number (xs ++ ys))) (fed_notes-append s number xs ys)
    ∙ ap (lines_in mode (notes ++ others)) (fed_changes-append s number xs ys)
    ∙ lines_in-append mode notes others (fed_changes s number xs) (fed_changes (fed s xs) number ys)

pub fed_looks-append : (mode : Option Mode) (s : State) (number : ℕ) (xs ys : List ℕ)
    → looks_in mode (fed_changes s number (xs ++ ys))
    ≡ looks_in mode (fed_changes s number xs) + looks_in mode (fed_changes (fed s xs) number ys)
fed_looks-append mode s number xs ys =
    ap (looks_in mode) (fed_changes-append s number xs ys)
    ∙ looks_in-append mode (fed_changes s number xs) (fed_changes (fed s xs) number ys)

pub fed_lines_cost-append : (mode : Option Mode) (s : State) (number : ℕ) (xs ys : List ℕ)
    → fed_lines_cost mode s number (xs ++ ys)
    ≡ fed_lines_cost mode s number xs + fed_lines_cost mode (fed s xs) number ys
fed_lines_cost-append mode s number xs ys =
    let e = fed_cost-append s xs ys in let looks = fed_looks-append mode s number xs ys in omega (arith, e, looks)

-- ---- no word, and one

pub feeds_none : (mode : Option Mode) (s : State) (number : ℕ) (at : Outlets) (gpu : Kept) → kept_of s ≡ gpu
    → Feeds (in_event number mode) s [] at (drawing at gpu)
feeds_none mode s number at gpu stands = record {
  stands = stands;
  heard = refl;
  cost = omega arith;
}

told_one : (note : Option Note) (readings : List Reading)
    → told_option note readings ≡ told_notes (option_to_list note ++ []) readings
told_one None readings = refl
told_one (Some note) readings = refl

-- a word was fed, and the line of its note was added or could not be written
module _ (mode : Option Mode) (s : State) (number word : ℕ) (note : Option Note) (before now : Outlets) (gpu : Kept)
    (stands : kept_of (after_gp0 s word) ≡ gpu) (noted : gp0_note s number word ≡ note)
    (told : now.heard ≡ told_option note before.heard) (cost : now.steps ≤ before.steps + gp0_cost s word) where
  word_notes : fed_notes s number (word ∷ []) ≡ option_to_list note ++ []
  word_notes = ap (λ n. option_to_list n ++ []) noted

  pub word_feeds : Feeds (in_event number mode) s (word ∷ []) before (drawing now gpu)
  word_feeds = record {
    stands = stands;
    heard = told ∙ told_one note before.heard ∙ ap (λ ns. told_notes ns before.heard) (sym word_notes);
    cost = omega (arith, cost);
  }

  pub word_stops : StopsFeeding (in_event number mode) s (word ∷ []) before (drawing now gpu)
  word_stops = record {
    before = [];
    word = word;
    after = [];
    is = refl;
    stands = stands;
    heard = told ∙ told_one note before.heard ∙ ap (λ ns. told_notes ns before.heard) (sym word_notes);
    cost = omega (arith, cost);
  }

-- the line of its note
pub word_lines : (s : State) (number word : ℕ) (note : Option Note) → gp0_note s number word ≡ note
    → flat_map listed (option_to_list note) ≡ fed_lines (Some Listing) s number (word ∷ [])
word_lines s number word note noted =
    let notes : fed_notes s number (word ∷ []) ≡ option_to_list note ++ [] = ap (λ n. option_to_list n ++ []) noted in
    sym (rw (notes, append-nil) refl)

-- ---- no line

while_quiet : (mode : Option Mode) (notes : List Note) (changes : List Change) → (BuffersLines mode → ⊥)
    → lines_in mode notes changes ≡ []
while_quiet None notes changes not = refl
while_quiet (Some Listing) notes changes not = absurd (not tt)
while_quiet (Some (Pixel cell)) notes changes not = absurd (not tt)
while_quiet (Some Words) notes changes not = refl
while_quiet (Some Vram) notes changes not = refl
while_quiet (Some Shot) notes changes not = refl
while_quiet (Some Report) notes changes not = refl
while_quiet (Some (Frames at)) notes changes not = refl
while_quiet (Some (Sums at)) notes changes not = refl

-- a word was fed that has no line
pub quiet_feeds : (mode : Option Mode) (number word : ℕ) (note : Option Note) (before now : Outlets) (was gpu : Kept)
    → (BuffersLines mode → ⊥)
    → now.held ≡ before.held → now.faults ≡ before.faults → now.buffered ≡ before.buffered
    → ((s : State) → kept_of s ≡ was → kept_of (after_gp0 s word) ≡ gpu)
    → ((s : State) → kept_of s ≡ was → gp0_note s number word ≡ note)
    → now.heard ≡ told_option note before.heard
    → ((s : State) → kept_of s ≡ was → now.steps ≤ before.steps + gp0_cost s word)
    → FeedsWords {Value = Unit {0}} (in_event number mode) (word ∷ []) (drawing before was) (drawing now gpu) (Ok tt)
quiet_feeds mode number word note before now was gpu not held faults buffered stands noted told cost = record {
  ok = λ s is. word_feeds mode s number word note before now gpu (stands s is) (noted s is) told (cost s is);
  failed = λ s is. tt;
  puts = λ s is.
      puts_none number (fed_lines mode s number (word ∷ [])) (sink_of before) (sink_of now) tt
      (while_quiet mode (fed_notes s number (word ∷ [])) (fed_changes s number (word ∷ [])) not) held faults buffered;
  kept = inr buffered;
  buffers = tt;
  cause = tt;
  faults = omega (arith, faults);
}

-- the line of the word's change of a cell
pub watched_lines : (cell : Cell) (s : State) (number word : ℕ) (item : Option Note) (was gpu : Kept) (old new : ℕ)
    → kept_of s ≡ was → kept_of (after_gp0 s word) ≡ gpu → gp0_note s number word ≡ item
    → old ≡ seen_cell cell was.parts.m → new ≡ seen_cell cell gpu.parts.m
    → cell_change_line item old new ≡ fed_lines (Some (Pixel cell)) s number (word ∷ [])
watched_lines cell s number word item was gpu old new is stands noted saw sees =
    let first : seen_cell cell s.parts.m ≡ old = ap (λ (k : Kept). seen_cell cell k.parts.m) is ∙ sym saw in
    let last : seen_cell cell (after_gp0 s word).parts.m
    ≡ new = ap (λ (k : Kept). seen_cell cell k.parts.m) stands ∙ sym sees in
    sym (append-nil _ ∙ rw (noted, first, last) refl)

-- the same if a cell is watched, and the line of its change was added or could not be written
module _ (cell : Cell) (s : State) (number word : ℕ) (note : Option Note) (gpu : Kept)
    (before now : Outlets) (stands : kept_of (after_gp0 s word) ≡ gpu)
    (noted : gp0_note s number word ≡ note)
    (told : now.heard ≡ told_option note before.heard) (cost : now.steps ≤ before.steps + gp0_cost s word + 2) where
  watched_notes : fed_notes s number (word ∷ []) ≡ option_to_list note ++ []
  watched_notes = ap (λ n. option_to_list n ++ []) noted

  pub watched_feeds : Feeds (in_event number (Some (Pixel cell))) s (word ∷ []) before (drawing now gpu)
  watched_feeds = record {
    stands = stands;
    heard = told ∙ told_one note before.heard ∙ ap (λ ns. told_notes ns before.heard) (sym watched_notes);
    cost = omega (arith, cost);
  }

  pub watched_stops : StopsFeeding (in_event number (Some (Pixel cell))) s (word ∷ []) before (drawing now gpu)
  watched_stops = record {
    before = [];
    word = word;
    after = [];
    is = refl;
    stands = stands;
    heard = told ∙ told_one note before.heard ∙ ap (λ ns. told_notes ns before.heard) (sym watched_notes);
    cost = omega (arith, cost);
  }

-- ---- in parts

module _ (mode : Option Mode) (s : State) (number : ℕ) (xs ys : List ℕ) (before mid now : Outlets) (was gpu : Kept)
    (first : Feeds (in_event number mode) s xs before (drawing mid was)) where
  pub feeds_on : Feeds (in_event number mode) (fed s xs) ys mid (drawing now gpu)
      → Feeds (in_event number mode) s (xs ++ ys) before (drawing now gpu)
  feeds_on next = record {
    stands = ap kept_of (fed-append s xs ys) ∙ next.stands;
    heard = next.heard ∙ ap (told_notes (fed_notes (fed s xs) number ys)) first.heard
        ∙ sym (ap (λ notes. told_notes notes before.heard) (fed_notes-append s number xs ys)
        ∙ told-append (fed_notes s number xs) (fed_notes (fed s xs) number ys) before.heard);
    cost = let e = fed_lines_cost-append mode s number xs ys in omega (arith, e, first.cost, next.cost);
  }

  pub stops_on : StopsFeeding (in_event number mode) (fed s xs) ys mid (drawing now gpu)
      → StopsFeeding (in_event number mode) s (xs ++ ys) before (drawing now gpu)
  stops_on next =
      let done = next.before ++ next.word ∷ [] in
      let all : (xs ++ next.before) ++ next.word ∷ [] ≡ xs ++ done = append_assoc xs next.before (next.word ∷ []) in
      record {
        before = xs ++ next.before;
        word = next.word;
        after = next.after;
        is = ap (λ words. xs ++ words) next.is ∙ sym (append_assoc xs next.before (next.word ∷ next.after));
        stands = ap kept_of (ap (fed s) all ∙ fed-append s xs done) ∙ next.stands;
        heard = next.heard ∙ ap (told_notes (fed_notes (fed s xs) number done)) first.heard
            ∙ sym (ap (λ notes. told_notes notes before.heard)
            (ap (fed_notes s number) all ∙ fed_notes-append s number xs done)
            ∙ told-append (fed_notes s number xs) (fed_notes (fed s xs) number done) before.heard);
        cost = let e = ap (fed_lines_cost mode s number) all ∙ fed_lines_cost-append mode s number xs done in
            omega (arith, e, first.cost, next.cost);
      }

-- If a line could not be written, the words after it do not matter.
pub stops_early : (mode : Option Mode) (s : State) (number : ℕ) (words xs ys : List ℕ) (before now : Outlets)
    (gpu : Kept) → words ≡ xs ++ ys
    → StopsFeeding (in_event number mode) s xs before (drawing now gpu)
    → StopsFeeding (in_event number mode) s words before (drawing now gpu)
stops_early mode s number words xs ys before now gpu are stop = record {
  before = stop.before;
  word = stop.word;
  after = stop.after ++ ys;
  is = are ∙ ap (λ words. words ++ ys) stop.is ∙ append_assoc stop.before (stop.word ∷ stop.after) ys;
  stands = stop.stands;
  heard = stop.heard;
  cost = stop.cost;
}

pub feeds_same : (mode : Option Mode) (s : State) (number : ℕ) (words xs : List ℕ) (before now : Outlets) (gpu : Kept)
    → words ≡ xs
    → Feeds (in_event number mode) s xs before (drawing now gpu)
    → Feeds (in_event number mode) s words before (drawing now gpu)
feeds_same mode s number words xs before now gpu are feeds =
    let P : List ℕ → Type 0 = λ words. Feeds (in_event number mode) s words before (drawing now gpu) in
    subst P (sym are) feeds

-- ---- calls that feed words, for every GPU state with the essential state before them

-- these words were fed since the essential state `was` of the GPU, and their lines added
pub record AreFed (mode : Option Mode) (number : ℕ) (words : List ℕ) (before now : Outlets) (was gpu : Kept)
    : Type 0 where
  pub feeds : (s : State) → kept_of s ≡ was → Feeds (in_event number mode) s words before (drawing now gpu)
  pub put : (s : State) → kept_of s ≡ was → HasPut (piece number (fed_lines mode s number words))
      (sink_of before) (sink_of now)
  pub kept : BuffersLines mode ⊎ (now.buffered ≡ before.buffered)
  pub faults : before.faults ≤ now.faults

pub fed_none : (mode : Option Mode) (number : ℕ) (at : Outlets) (gpu : Kept) → AreFed mode number [] at at gpu gpu
fed_none mode number at gpu = record {
  feeds = λ s is. feeds_none mode s number at gpu is;
  put = λ s is.
      rw (lines_in-none mode) (put_none number (sink_of at));
  kept = inr refl;
  faults = omega arith;
}

-- all words were fed
pub words_fed : {Value : Type 0} (mode : Option Mode) (number : ℕ) (words xs : List ℕ) (before now : Outlets)
    (was gpu : Kept) (v : Value)
    → words ≡ xs → AreFed mode number xs before now was gpu
    → FeedsWords {Value = Value} (in_event number mode) words (drawing before was) (drawing now gpu) (Ok v)
words_fed mode number words xs before now was gpu v are all = record {
  ok = λ s is. feeds_same mode s number words xs before now gpu are (all.feeds s is);
  failed = λ s is. tt;
  puts = λ s is.
      rw are
      (puts_all (piece number (fed_lines mode s number xs)) (sink_of before) (sink_of now) v (all.put s is));
  kept = all.kept;
  buffers = tt;
  cause = tt;
  faults = all.faults;
}

kept_on : (mode : Option Mode) (before mid now : List Piece) → BuffersLines mode ⊎ (mid ≡ before)
    → BuffersLines mode ⊎ (now ≡ mid) → BuffersLines mode ⊎ (now ≡ before)
kept_on mode before mid now (inl is) next = inl is
kept_on mode before mid now (inr same) (inl is) = inl is
kept_on mode before mid now (inr same) (inr next) = inr (next ∙ same)

module _ {Value : Type 0} (mode : Option Mode) (number : ℕ) (xs ys : List ℕ) (before mid now : Outlets)
    (was at gpu : Kept)
    (first : AreFed mode number xs before mid was at) where
  -- more of them were fed
  pub fed_on : (v : Value)
      → FeedsWords {Value = Value} (in_event number mode) ys (drawing mid at) (drawing now gpu) (Ok v)
      → AreFed mode number (xs ++ ys) before now was gpu
  fed_on v next = record {
    feeds = λ s is.
        let so_far = first.feeds s is in
        feeds_on mode s number xs ys before mid now at gpu so_far (next.ok (fed s xs) so_far.stands);
    put = λ s is.
        let so_far = first.feeds s is in
        rw (fed_lines-append mode s number xs ys)
        (put_on number (sink_of before) (sink_of mid) (sink_of now) (fed_lines mode s number xs)
        (fed_lines mode (fed s xs) number ys) v (first.put s is) (next.puts (fed s xs) so_far.stands));
    kept = kept_on mode before.buffered mid.buffered now.buffered first.kept next.kept;
    faults = let a = first.faults in let b = next.faults in omega (arith, a, b);
  }

  -- a line of the further words could not be written
  pub words_stop : {Other : Type 0} (words zs : List ℕ) (e : ℕ) → words ≡ (xs ++ ys) ++ zs
      → FeedsWords {Value = Value} (in_event number mode) ys (drawing mid at) (drawing now gpu) (Err e)
      → FeedsWords {Value = Other} (in_event number mode) words (drawing before was) (drawing now gpu) (Err e)
  words_stop words zs e are next = record {
    ok = λ s is. tt;
    failed = λ s is.
        let so_far = first.feeds s is in
        stops_early mode s number words (xs ++ ys) zs before now gpu are
        (stops_on mode s number xs ys before mid now at gpu so_far (next.failed (fed s xs) so_far.stands));
    puts = λ s is.
        let so_far = first.feeds s is in
        let a = fed_lines mode s number xs in
        let b = fed_lines mode (fed s xs) number ys in
        let c = fed_lines mode (fed s (xs ++ ys)) number zs in
        let all : fed_lines mode s number words ≡ a ++ (b ++ c) =
        ap (fed_lines mode s number) are ∙ fed_lines-append mode s number (xs ++ ys) zs
        ∙ ap (λ bs. bs ++ c) (fed_lines-append mode s number xs ys) ∙ append_assoc a b c in
        rw all
        (put_fails number (sink_of before) (sink_of mid) (sink_of now) a b c e (first.put s is)
        (next.puts (fed s xs) so_far.stands));
    kept = kept_on mode before.buffered mid.buffered now.buffered first.kept next.kept;
    buffers = next.buffers;
    cause = let a = first.faults in let b = next.cause in omega (arith, a, b);
    faults = let a = first.faults in let b = next.faults in omega (arith, a, b);
  }
