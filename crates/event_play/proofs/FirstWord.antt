-- The first word of a block of words of GP0, which the reader returned as an event.
use Rattle.std.proofs.Common.{◌≡◌, ◌≤◌, ◌<◌, ◌+◌, ◌++◌, ℕ, List, [], ◌∷◌, Option, Ok}
use Rattle.std.proofs.Common.{refl, ap, sym, subst, ◌∙◌, append_assoc, arith}
use Rattle.gathered_out.specs.Pieces.{Piece}
use Rattle.gp0_packets.specs.declared.note.Note.{Note}
use Rattle.gpu_capture.specs.Reader.{capture_from, reader_input}
use Rattle.gpu_capture.specs.Words.{TakesWords}
use Rattle.gpu_capture.specs.declared.event.Event.TheVariants.{Gp0}
use Rattle.gpu_capture.specs.declared.progress.Progress.{Progress}
use Rattle.gpu_core.specs.Kept.{kept_of}
use Rattle.gpu_core.specs.Machine.{after_gp0}
use Rattle.gpu_taps.specs.Tally.{Reading}
use Rattle.event_play.specs.Lines.{IsBuffered}
use Rattle.event_play.specs.Listing.{pieces_for}
use Rattle.event_play.specs.Out.{replay_cost}
use Rattle.event_play.specs.PlayedWords.{IsTold, IsUnwatched, after_word, after_words, word_notes}
use Rattle.event_play.specs.Replay.{Script, next_number}
use Rattle.event_play.specs.RigState.{RigState}
use Rattle.event_play.specs.Streams.{Outlets, Streams, streams, without_sink}
use Rattle.event_play.specs.Told.{told_notes}
use Rattle.event_play.specs.declared.ending.Mode.{Mode}
use Rattle.event_play.specs.declared.ending.Mode.TheVariants.{Vram, Shot, Report, Frames, Sums, Pixel}
use Rattle.event_play.specs.declared.ending.Mode.TheVariants.{List as Listing, Play as Words}
use Rattle.event_play.proofs.AtOnce.{word_is}
use Rattle.event_play.proofs.Awaiting.{Awaits, GoesOn, Reaches}
use Rattle.event_play.proofs.Following.{read_played}
use Rattle.event_play.proofs.InARow.{before_words, buffers_words, free_on, told_before, unwatched_cost, words_play}
use Rattle.event_play.proofs.Listed.{listed_pieces-append, word_buffered, word_notes-append}
use Rattle.event_play.proofs.Reaching.{beside, goes_on}

pieces_for-append : (mode : Mode) (xs ys : List Note)
    → pieces_for mode (xs ++ ys) ≡ pieces_for mode xs ++ pieces_for mode ys
pieces_for-append Listing xs ys = listed_pieces-append xs ys
pieces_for-append (Pixel cell) xs ys = refl
pieces_for-append Words xs ys = refl
pieces_for-append Vram xs ys = refl
pieces_for-append Shot xs ys = refl
pieces_for-append Report xs ys = refl
pieces_for-append (Frames at) xs ys = refl
pieces_for-append (Sums at) xs ys = refl

module _ (mode : Mode) (script : List ℕ → Script) (before : Streams) (left : Option (List ℕ)) (mid : Outlets)
    (since : ℕ) (was : RigState) (p : Progress) (word : ℕ)
    (reached : Awaits mode script before (beside left mid) mid.buffered since was p (Ok (Gp0 word)))
    (unwatched : IsUnwatched mode) where
  -- what the rig, the taps and the store steps would be if only the word were played
  abbrev fed_rig : RigState
  fed_rig = record {
    gpu = kept_of (after_gp0 reached.replay.state.gpu word);
    ram = was.ram;
    running = was.running;
    played = next_number reached.replay.played;
  }

  abbrev heard_then : List Reading
  heard_then = told_notes (after_word reached.replay word).notes before.heard

  abbrev steps_then : ℕ
  steps_then = before.steps + replay_cost mode (after_word reached.replay word)

  -- its lines
  abbrev word_pieces : List Piece
  word_pieces = pieces_for mode (word_notes reached.replay (word ∷ []))

  -- The word is played, and its lines are buffered.
  word_plays : Reaches mode script before (streams left mid.held heard_then steps_then) (mid.buffered ++ word_pieces)
      fed_rig (GoesOn mode script since p)
  word_plays =
      let t = reached.replay in
      let read = reached.says.read in
      let is = word_is t word in
      record {
        taken = reached.taken;
        bytes = reached.bytes;
        needed = reached.needed;
        events = reached.events ++ Gp0 word ∷ [];
        replay = after_word t word;
        flushed = reached.flushed;
        after = reached.after;
        taken_is = reached.taken_is;
        says = record {
          plays_on = λ rest. reached.says.says rest ∙ goes_on t (after_word t word) (Gp0 word) (capture_from p rest) is;
          read = read_played script p t (after_word t word) reached.taken reached.events (Gp0 word) read is;
          lies = reached.says.lies;
          few = reached.says.few;
        };
        stands = record {
          state = record { gpu = refl; ram = reached.stands.state.ram; running = reached.stands.state.running };
          played = refl;
        };
        buffers = buffers_words script t (word ∷ []) reached.events reached.flushed reached.taken before.held mid.held
            mid.buffered mode unwatched
            (λ so_far. word_buffered script read.first t reached.events word reached.flushed reached.after reached.taken
            before.held mid.held mid.buffered read.begins read.follows reached.taken_is read.needed so_far)
            reached.buffers;
        free = free_on mode mid.buffered (word_notes t (word ∷ [])) reached.free;
        heard = refl;
        cost = omega arith;
      }

  -- the replay so far agrees with the rig, the taps and the store steps
  pub told_so_far : IsTold reached.replay (before_words mode before reached.replay)
      (without_sink mid.heard mid.steps) was.gpu was.played
  told_so_far = told_before mode script before left mid.held mid.heard mid.steps mid.buffered was _ reached

  -- The words after it were read, and all were played, as if all their lines were still buffered.
  pub block_plays : (after : Option (List ℕ)) (now : Outlets) (rig : RigState) (q : Progress) (words : List ℕ)
      → rig.ram ≡ was.ram → rig.running ≡ was.running
      → IsTold (after_words reached.replay (word ∷ words)) (before_words mode before reached.replay)
      (without_sink now.heard now.steps) rig.gpu rig.played
      → 1 ≤ q.version → (IsBuffered mode → q.offset < since + 4096)
      → TakesWords (reader_input p left) (reader_input q after) words
      → Reaches mode script before (streams after mid.held now.heard now.steps)
      (mid.buffered ++ pieces_for mode (word_notes reached.replay (word ∷ words))) rig (GoesOn mode script since q)
  unfolding word_plays
  block_plays after now rig q words ram running told started near takes =
      let t = reached.replay in
      let next = after_word t word in
      let same : before_words mode before next ≡ before_words mode before t =
      ap (λ steps. without_sink before.heard (before.steps + steps)) (unwatched_cost mode t (word ∷ []) unwatched) in
      let pieces : (mid.buffered ++ word_pieces) ++ pieces_for mode (word_notes next words)
      ≡ mid.buffered ++ pieces_for mode (word_notes t (word ∷ words)) =
      append_assoc mid.buffered word_pieces (pieces_for mode (word_notes next words))
      ∙ ap (λ ps. mid.buffered ++ ps)
      (sym (pieces_for-append mode (word_notes t (word ∷ [])) (word_notes next words))
      ∙ ap (pieces_for mode) (sym (word_notes-append t (word ∷ []) words))) in
      let P : List Piece → Type 0 = λ ps. Reaches mode script before (streams after mid.held now.heard now.steps) ps rig
      (GoesOn mode script since q) in
      let Q : Outlets → Type 0 = λ first. IsTold (after_words t (word ∷ words)) first
      (without_sink now.heard now.steps) rig.gpu rig.played in
      subst P pieces
      (words_play mode script before left after mid.held heard_then now.heard steps_then now.steps
      (mid.buffered ++ word_pieces) since fed_rig rig p q words word_plays unwatched ram running
      (subst Q (sym same) told) started near takes)
