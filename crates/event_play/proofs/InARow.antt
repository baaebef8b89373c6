-- Words of GP0 that are played as one block, one event per word.
use Rattle.std.proofs.Common.{◌≡◌, ◌≤◌, ◌<◌, inl, inr, ℕ, ◌+◌, ◌++◌, List, [], ◌∷◌, Option}
use Rattle.std.proofs.Common.{refl, ap, sym, ◌∙◌, append_assoc, append-nil, take, arith}
use Rattle.dev_io.proofs.Parts.{taken_on}
use Rattle.gathered_out.specs.Pieces.{Piece}
use Rattle.gathered_out.specs.Puts.{holding}
use Rattle.gathered_out.proofs.Buffers.{Buffers, buffers_more}
use Rattle.gp0_packets.specs.declared.note.Note.{Note}
use Rattle.gpu_capture.specs.Capture.{Captured, ended, then_events}
use Rattle.gpu_capture.specs.Reader.{capture_from, reader_input}
use Rattle.gpu_capture.specs.Words.{TakesWords, word_events}
use Rattle.gpu_capture.specs.declared.event.Event.{Event}
use Rattle.gpu_capture.specs.declared.event.Event.TheVariants.{Gp0}
use Rattle.gpu_capture.specs.declared.event.Stop.TheVariants.{Truncated}
use Rattle.gpu_capture.specs.declared.progress.Progress.{Progress}
use Rattle.gpu_capture.proofs.Needed.{says_on}
use Rattle.gpu_capture.proofs.Steps.{split}
use Rattle.gpu_capture.proofs.Taken.{few_between}
use Rattle.gpu_taps.specs.Tally.{Reading}
use Rattle.event_play.specs.Lines.{IsBuffered, MayBuffer, lines_cost}
use Rattle.event_play.specs.Listing.{ArePut, pieces_for}
use Rattle.event_play.specs.Out.{lines_of}
use Rattle.event_play.specs.PlayedWords.{after_word, after_words, word_notes, IsTold, IsUnwatched}
use Rattle.event_play.specs.Playing.{AreAllNeeded, IsShort, Follows, plays}
use Rattle.event_play.specs.Replay.{Replay, Script, replayed}
use Rattle.event_play.specs.RigState.{RigState}
use Rattle.event_play.specs.Streams.{Outlets, Streams, streams, without_sink}
use Rattle.event_play.specs.declared.ending.Mode.{Mode}
use Rattle.event_play.specs.declared.ending.Mode.TheVariants.{Vram, Shot, Report, Frames, Sums, Pixel}
use Rattle.event_play.specs.declared.ending.Mode.TheVariants.{List as Listing, Play as Words}
use Rattle.event_play.proofs.AtOnce.{word_is}
use Rattle.event_loop.proofs.Awaiting.{LiesAfter}
use Rattle.event_loop.proofs.Blocks.{reader_none}
use Rattle.event_play.proofs.Awaiting.{AreFew, GoesOn, PlaysOn, Reaches, goes_past}
use Rattle.event_play.proofs.Following.{follows_none, follows_on, follows_all, read_words}
use Rattle.event_play.proofs.Lacking.{WasDue, due_more, due_on}
use Rattle.event_play.proofs.Listed.{words_buffered}
use Rattle.event_play.proofs.OwnWords.{same_ram, same_running}
use Rattle.event_play.proofs.Reaching.{goes_on}

-- ---- replays

-- A replay of words continues from the replay after them.
pub words_are : (t : Replay) (words : List ℕ) (c : Captured)
    → replayed t (then_events (word_events words) c) ≡ replayed (after_words t words) c
words_are t [] c = refl
words_are t (word ∷ words) c =
    goes_on t (after_word t word) (Gp0 word) (then_events (word_events words) c) (word_is t word)
    ∙ words_are (after_word t word) words c

-- Their events lead to that replay.
words_follow : (t : Replay) (words : List ℕ) → Follows t (word_events words) (after_words t words)
words_follow t [] = record { replays = λ more stop rest. refl }
words_follow t (word ∷ words) =
    let one = follows_on t t (after_word t word) [] (Gp0 word) (follows_none t) (word_is t word) in
    follows_all t (after_word t word) (after_words (after_word t word) words) (Gp0 word ∷ []) (word_events words) one
    (words_follow (after_word t word) words)

-- ---- the bytes of words

words_short : (t : Replay) (words : List ℕ) (version byte : ℕ)
    → IsShort (replayed t (then_events (word_events words) (ended version (Truncated byte) []))).ending
words_short t words version byte = rw (words_are t words (ended version (Truncated byte) [])) tt

all_needed : (script : List ℕ → Script) (t : Replay) (old new : Progress) (before now : Option (List ℕ))
    (xs words : List ℕ)
    → PlaysOn script old t xs
    → AreAllNeeded (plays script) xs → (takes : TakesWords (reader_input old before) (reader_input new now) words)
    → AreAllNeeded (plays script) (xs ++ takes.taken)
all_needed script t old new before now xs words goes was takes part more is some =
    elim (split xs takes.taken part more is) [
      | inl after ↦
          let short = takes.needed after.0 more after.2 some in
          let fewer = take short.count words in
          let e : plays script part
          ≡ replayed t (then_events (word_events fewer) (ended short.version (Truncated short.byte) [])) =
          ap (plays script) after.1 ∙ goes after.0 ∙ ap (replayed t) short.is in
          rw e (words_short t fewer short.version short.byte)
      | inr inside ↦ was part inside.0 inside.1 inside.2
    ]

-- ---- their lines

-- In a mode that buffers no lines, words have none.
quiet_lines : (mode : Mode) (t : Replay) (words : List ℕ) → (IsBuffered mode → ⊥)
    → lines_of mode (after_words t words) ≡ lines_of mode t
quiet_lines mode t [] quiet = refl
quiet_lines Listing t (word ∷ words) quiet = absurd (quiet tt)
quiet_lines (Pixel cell) t (word ∷ words) quiet = absurd (quiet tt)
quiet_lines Words t (word ∷ words) quiet = quiet_lines Words (after_word t word) words quiet
quiet_lines Vram t (word ∷ words) quiet = refl
quiet_lines Shot t (word ∷ words) quiet = refl
quiet_lines Report t (word ∷ words) quiet = refl
quiet_lines (Frames at) t (word ∷ words) quiet = quiet_lines (Frames at) (after_word t word) words quiet
quiet_lines (Sums at) t (word ∷ words) quiet = quiet_lines (Sums at) (after_word t word) words quiet

pub unwatched_cost : (mode : Mode) (t : Replay) (words : List ℕ) → IsUnwatched mode
    → lines_cost mode (after_words t words).frames (after_words t words).changes ≡ lines_cost mode t.frames t.changes
unwatched_cost mode t [] unwatched = refl
unwatched_cost Listing t (word ∷ words) unwatched = refl
unwatched_cost (Pixel cell) t (word ∷ words) unwatched = absurd unwatched
unwatched_cost Words t (word ∷ words) unwatched = refl
unwatched_cost Vram t (word ∷ words) unwatched = refl
unwatched_cost Shot t (word ∷ words) unwatched = refl
unwatched_cost Report t (word ∷ words) unwatched = refl
unwatched_cost (Frames at) t (word ∷ words) unwatched = unwatched_cost (Frames at) (after_word t word) words tt
unwatched_cost (Sums at) t (word ∷ words) unwatched = unwatched_cost (Sums at) (after_word t word) words tt

-- A mode that may have a buffer may have these pieces in it too.
pub free_on : (mode : Mode) (buffered : List Piece) (notes : List Note) → MayBuffer mode buffered
    → MayBuffer mode (buffered ++ pieces_for mode notes)
free_on mode buffered notes (inl is) = inl is
free_on Listing buffered notes (inr none) = inl tt
free_on (Pixel cell) buffered notes (inr none) = inl tt
free_on Words buffered notes (inr none) = inr (append-nil buffered ∙ none)
free_on Vram buffered notes (inr none) = inr (append-nil buffered ∙ none)
free_on Shot buffered notes (inr none) = inr (append-nil buffered ∙ none)
free_on Report buffered notes (inr none) = inr (append-nil buffered ∙ none)
free_on (Frames at) buffered notes (inr none) = inr (append-nil buffered ∙ none)
free_on (Sums at) buffered notes (inr none) = inr (append-nil buffered ∙ none)

module _ (script : List ℕ → Script) (t : Replay) (words : List ℕ) (events : List Event) (flushed taken : List ℕ)
    (base held : Option (List ℕ)) (buffered : List Piece) where
  -- the output so far and the lines of the words, with all of those lines buffered
  abbrev pub BuffersWords : Mode → Type 0
  BuffersWords mode = Buffers (WasDue mode script (events ++ word_events words) flushed taken) base
      (lines_of mode (after_words t words)) held (buffered ++ pieces_for mode (word_notes t words))

  quiet_buffers : (mode : Mode) → (IsBuffered mode → ⊥)
      → Buffers (WasDue mode script events flushed taken) base (lines_of mode t) held buffered
      → Buffers (WasDue mode script (events ++ word_events words) flushed taken) base
      (lines_of mode (after_words t words)) held (buffered ++ [])
  quiet_buffers mode quiet so_far =
      rw (quiet_lines mode t words quiet, append-nil buffered)
      (buffers_more (WasDue mode script events flushed taken)
      (WasDue mode script (events ++ word_events words) flushed taken) base (lines_of mode t) held buffered
      (due_on mode script events (word_events words) flushed taken) so_far)

  -- The lines of the words are those of their notes, or there are none.
  pub buffers_words : (mode : Mode) → IsUnwatched mode
      → (Buffers (WasDue Listing script events flushed taken) base (lines_of Listing t) held buffered
      → BuffersWords Listing)
      → Buffers (WasDue mode script events flushed taken) base (lines_of mode t) held buffered → BuffersWords mode
  buffers_words Listing unwatched listing so_far = listing so_far
  buffers_words (Pixel cell) unwatched listing so_far = absurd unwatched
  buffers_words Words unwatched listing so_far = quiet_buffers Words (λ is. is) so_far
  buffers_words Vram unwatched listing so_far = quiet_buffers Vram (λ is. is) so_far
  buffers_words Shot unwatched listing so_far = quiet_buffers Shot (λ is. is) so_far
  buffers_words Report unwatched listing so_far = quiet_buffers Report (λ is. is) so_far
  buffers_words (Frames at) unwatched listing so_far = quiet_buffers (Frames at) (λ is. is) so_far
  buffers_words (Sums at) unwatched listing so_far = quiet_buffers (Sums at) (λ is. is) so_far

-- the taps and the store steps before a replay, with the store steps of its output
abbrev pub before_words : Mode → Streams → Replay → Outlets
before_words mode before t = without_sink before.heard (before.steps + lines_cost mode t.frames t.changes)

-- The GPU, the taps and the store steps are those of the replay so far.
pub told_before : (mode : Mode) (script : List ℕ → Script) (before : Streams) (left held : Option (List ℕ))
    (heard : List Reading) (steps : ℕ) (buffered : List Piece) (was : RigState)
    (Says : Replay → List ℕ → List ℕ → List Event → Type 0)
    (reached : Reaches mode script before (streams left held heard steps) buffered was Says)
    → IsTold reached.replay (before_words mode before reached.replay) (without_sink heard steps) was.gpu was.played
told_before mode script before left held heard steps buffered was Says reached = record {
  state = reached.stands.state.gpu;
  number = reached.stands.played;
  heard = reached.heard;
  cost = let c = reached.cost in omega (arith, c);
}

-- ---- words that were read and played, as if all their lines were still buffered

module _ (mode : Mode) (script : List ℕ → Script) (before : Streams) (left after held : Option (List ℕ))
    (heard heard_now : List Reading) (steps steps_now : ℕ) (buffered : List Piece) (since : ℕ) (was rig : RigState)
    (p q : Progress) (words : List ℕ)
    (reached : Reaches mode script before (streams left held heard steps) buffered was (GoesOn mode script since p))
    (unwatched : IsUnwatched mode) (ram : rig.ram ≡ was.ram) (running : rig.running ≡ was.running)
    (told : IsTold (after_words reached.replay words) (before_words mode before reached.replay)
    (without_sink heard_now steps_now) rig.gpu rig.played)
    (started : 1 ≤ q.version) (near : IsBuffered mode → q.offset < since + 4096) where
  lies_after : (takes : TakesWords (reader_input p left) (reader_input q after) words)
      → LiesAfter since q (reached.after ++ takes.taken)
  lies_after takes =
      let lies = reached.says.lies in
      record {
        at = lies.at;
        known = lies.known;
        offset = lies.offset;
        events = lies.events ++ word_events words;
        says = says_on (capture_from lies.at) p q lies.events (word_events words) reached.after takes.taken lies.says
            takes.says;
      }

  still_few : (takes : TakesWords (reader_input p left) (reader_input q after) words)
      → AreFew mode (reached.after ++ takes.taken)
  still_few takes is =
      let lies = lies_after takes in
      let lt = near is in
      let at = lies.offset in
      let few = few_between lies.at q lies.events (reached.after ++ takes.taken) [] lies.known started lies.says
      (omega (arith, lt, at)) (reader_none q) in
      omega (arith, few)

  still_buffers : (takes : TakesWords (reader_input p left) (reader_input q after) words)
      → BuffersWords script reached.replay words reached.events reached.flushed
      (reached.taken ++ takes.taken) before.held
      held buffered mode
  still_buffers takes =
      let taken = reached.taken ++ takes.taken in
      let read = reached.says.read in
      buffers_words script reached.replay words reached.events reached.flushed taken before.held held buffered mode
      unwatched
      (λ so_far. words_buffered script read.first reached.flushed reached.after takes.taken taken before.held held
      (λ rest. ap (λ bytes. (script bytes).first) (append_assoc reached.taken takes.taken rest)
      ∙ read.begins (takes.taken ++ rest))
      (ap (λ bs. bs ++ takes.taken) reached.taken_is) words reached.replay reached.events buffered read.follows
      (rw (append-nil reached.events, reached.taken_is) at read.needed) so_far)
      (buffers_more (WasDue mode script reached.events reached.flushed reached.taken)
      (WasDue mode script reached.events reached.flushed taken) before.held (lines_of mode reached.replay) held buffered
      (due_more mode script reached.events [] reached.events reached.flushed reached.taken takes.taken
      (sym (append-nil reached.events))) reached.buffers)

  pub words_play : TakesWords (reader_input p left) (reader_input q after) words
      → Reaches mode script before (streams after held heard_now steps_now)
      (buffered ++ pieces_for mode (word_notes reached.replay words)) rig (GoesOn mode script since q)
  words_play takes =
      let t = reached.replay in
      record {
        taken = reached.taken ++ takes.taken;
        bytes = taken_on before.left left after reached.taken takes.taken reached.bytes takes.bytes;
        needed = all_needed script t p q left after reached.taken words reached.says.plays_on reached.needed takes;
        events = reached.events ++ word_events words;
        replay = after_words t words;
        flushed = reached.flushed;
        after = reached.after ++ takes.taken;
        taken_is = ap (λ bs. bs ++ takes.taken) reached.taken_is
            ∙ append_assoc reached.flushed reached.after takes.taken;
        says = record {
          plays_on = λ rest.
              goes_past script t p reached.taken takes.taken rest
              (then_events (word_events words) (capture_from q rest))
              reached.says.plays_on (takes.says rest)
              ∙ words_are t words (capture_from q rest);
          read = read_words script p q left after t (after_words t words) reached.taken words reached.events
              reached.says.read takes (words_follow t words);
          lies = lies_after takes;
          few = still_few takes;
        };
        stands = record {
          state = record {
            gpu = told.state;
            ram = same_ram t words ∙ reached.stands.state.ram ∙ sym ram;
            running = same_running t words ∙ reached.stands.state.running ∙ sym running;
          };
          played = told.number;
        };
        buffers = still_buffers takes;
        free = free_on mode buffered (word_notes t words) reached.free;
        heard = told.heard;
        cost = let e = unwatched_cost mode t words unwatched in let c = told.cost in omega (arith, e, c);
      }

-- ---- buffered lines may have been written

pub lines_out : (mode : Mode) (script : List ℕ → Script) (before : Streams) (left held now : Option (List ℕ))
    (heard : List Reading) (steps : ℕ) (buffered pieces new : List Piece) (rig : RigState)
    (Says : Replay → List ℕ → List ℕ → List Event → Type 0)
    → Reaches mode script before (streams left held heard steps) (buffered ++ pieces) rig Says
    → ArePut pieces (holding held buffered) (holding now new) → MayBuffer mode new
    → Reaches mode script before (streams left now heard steps) new rig Says
lines_out mode script before left held now heard steps buffered pieces new rig Says reached put free = record {
  taken = reached.taken;
  bytes = reached.bytes;
  needed = reached.needed;
  events = reached.events;
  replay = reached.replay;
  flushed = reached.flushed;
  after = reached.after;
  taken_is = reached.taken_is;
  says = reached.says;
  stands = reached.stands;
  buffers = record {
    mid = reached.buffers.mid;
    pieces = reached.buffers.pieces;
    out = put.out reached.buffers.mid reached.buffers.pieces reached.buffers.out;
    all_are = reached.buffers.all_are;
    parts = reached.buffers.parts;
  };
  free = free;
  heard = reached.heard;
  cost = reached.cost;
}
