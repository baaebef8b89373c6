-- An event that was read is played, or a block of words that starts with it. A line of theirs may not be written.
use Rattle.std.proofs.Common.{◌≡◌, ◌≤◌, ◌<◌, ◌+◌, ◌++◌, inr, ℕ, List, [], ◌∷◌, Option, Result, Ok, Err, OnOk, IfErr}
use Rattle.std.proofs.Common.{refl, ap, sym, subst}
use Rattle.gathered_out.specs.Pieces.{Piece}
use Rattle.gathered_out.specs.Puts.{BreaksWriting}
use Rattle.gpu_capture.specs.Reader.{ReaderInput, reader_input}
use Rattle.gpu_capture.specs.Words.{StopsAfter, TakesWords}
use Rattle.gpu_capture.specs.declared.event.Event.{Event}
use Rattle.gpu_capture.specs.declared.event.Event.TheVariants.{Gp0}
use Rattle.gpu_capture.specs.declared.event.Stop.{Stop}
use Rattle.gpu_capture.specs.declared.progress.Progress.{Progress}
use Rattle.event_loop.specs.Closing.{EndsAfter}
use Rattle.event_loop.specs.declared.ended.Ended.{Ended}
use Rattle.event_loop.specs.declared.ended.Halt.{Halt}
use Rattle.event_loop.specs.declared.ended.Halt.TheVariants.{Lacks, Refuses}
use Rattle.event_play.specs.Ends.{play_ending}
use Rattle.event_play.specs.Lines.{IsBuffered}
use Rattle.event_play.specs.Listing.{pieces_for}
use Rattle.event_play.specs.PlayInput.{at_end}
use Rattle.event_play.specs.PlayState.{play_state}
use Rattle.event_play.specs.PlayedWords.{IsUnwatched, word_notes}
use Rattle.event_play.specs.Playing.{EndsPlay, plays}
use Rattle.event_play.specs.Reading.{AreBlockOf, PlaysRead, PlaysWords, ReadsBlock, StopsInBlock}
use Rattle.event_play.specs.Replay.{Script, next_number}
use Rattle.event_play.specs.RigState.{RigState}
use Rattle.event_play.specs.Streams.{Outlets, Streams, buffering, outlets, streams}
use Rattle.event_play.specs.declared.ending.Ending.TheVariants.{WriteFailed}
use Rattle.event_play.specs.declared.ending.Mode.{Mode}
use Rattle.event_play.specs.declared.fault.EventFault.{EventFault}
use Rattle.event_play.proofs.Awaiting.{Answers, Awaits, GoesOn, Reaches, awaits_is, few_more, stops}
use Rattle.event_play.proofs.BoxCosts.{AreSmall}
use Rattle.event_play.proofs.FirstWord.{block_plays, told_so_far}
use Rattle.event_play.proofs.InARow.{before_words, lines_out}
use Rattle.event_play.proofs.Reaching.{beside, event_ends, plays_on}
use Rattle.event_play.proofs.Stopping.{pause_ends, reading_ends}

-- ---- words that are played as one block

module _ (mode : Mode) (script : List ℕ → Script) (before : Streams) (left after : Option (List ℕ)) (mid now : Outlets)
    (since : ℕ) (was rig : RigState) (p q : Progress) (word : ℕ) (words : List ℕ)
    (reached : Awaits mode script before (beside left mid) mid.buffered since was p (Ok (Gp0 word)))
    (unwatched : IsUnwatched mode) {Value : Type 0} (result : Result Value (Halt EventFault))
    (played : PlaysWords mode (word ∷ words) (play_state mid was) (play_state now rig) result)
    (started : 1 ≤ q.version) (near : IsBuffered mode → q.offset < since + 4096) where
  -- their lines as pieces
  abbrev pieces : List Piece
  pieces = pieces_for mode (word_notes reached.replay (word ∷ words))

  -- They were read, and none of their lines is written yet.
  all_played : (at : Option (List ℕ)) → TakesWords (reader_input p left) (reader_input q at) words
      → Reaches mode script before (streams at mid.held now.heard now.steps) (mid.buffered ++ pieces) rig
      (GoesOn mode script since q)
  all_played at takes =
      block_plays mode script before left mid since was p word reached unwatched at now rig q words played.ram
      played.running
      (played.told reached.replay (before_words mode before reached.replay)
      (told_so_far mode script before left mid since was p word reached unwatched)) started near takes

  -- The reader stopped after them, and none of their lines is written yet.
  stops_after : (stop : Stop) → StopsAfter (reader_input p left) (reader_input q after) words stop
      → Awaits mode script before (streams after mid.held now.heard now.steps) (mid.buffered ++ pieces) since rig q
      (Err stop)
  stops_after stop stopping =
      let at = all_played stopping.left stopping.takes in
      let then = streams stopping.left mid.held now.heard now.steps in
      stops mode script before then (mid.buffered ++ pieces) since rig q q after at stop stopping.stops
      (λ is. few_more mode script before then (mid.buffered ++ pieces) since rig q q after at started (near is)
      stopping.stops.taken stopping.stops.needed is)

  -- one of their lines could not be written
  words_fail : {Got : Type 0} (lacking : ℕ) (read : Result Got Stop)
      → BreaksWriting mid.held now.held (mid.buffered ++ pieces) lacking
      → OnOk read (TakesWords (reader_input p left) (reader_input q after) words)
      → IfErr read (λ stop. StopsAfter (reader_input p left) (reader_input q after) words stop)
      → AreSmall (plays script)
      → EndsPlay mode script before (at_end (beside after now) rig) (WriteFailed lacking)
  words_fail lacking (Ok v) breaks takes stopping is_small =
      pause_ends mode script before (streams after mid.held now.heard now.steps) (mid.buffered ++ pieces) since rig q
      now.held lacking (all_played after takes) is_small breaks
  words_fail lacking (Err stop) breaks takes stopping is_small =
      reading_ends mode script before after
      (buffering (mid.buffered ++ pieces) (outlets mid.held 0 now.heard now.steps))
      (outlets now.held 0 now.heard now.steps) since rig q stop (stops_after stop stopping) is_small refl
      (WriteFailed lacking) (inr (lacking, refl, breaks, refl, refl))

-- ---- an event, or a block of words that starts with it

module _ (mode : Mode) (script : List ℕ → Script) (before : Streams) (left after : Option (List ℕ)) (mid now : Outlets)
    (since : ℕ) (was rig : RigState) (p q : Progress) (event : Event)
    (reached : Awaits mode script before (beside left mid) mid.buffered since was p (Ok event))
    (started : 1 ≤ q.version) (near : IsBuffered mode → q.offset < since + 4096) where
  -- the same for the word of the event
  word_reached : (word : ℕ) → event ≡ Gp0 word
      → Awaits mode script before (beside left mid) mid.buffered since was p (Ok (Gp0 word))
  word_reached word is =
      awaits_is mode script before (beside left mid) mid.buffered since was p (Ok event) (Ok (Gp0 word)) (ap Ok is)
      reached

  -- It was played, and all lines were added.
  pub read_went : {Value : Type 0} (words : List ℕ) (v : Value) → AreBlockOf mode event words
      → PlaysRead mode event words (play_state mid was) (play_state now rig) (Ok v)
      → ReadsBlock (reader_input p left) (reader_input q after) words
      → Reaches mode script before (beside after now) now.buffered rig (GoesOn mode script since q)
  read_went [] v block played reads =
      let P : ReaderInput → Type 0 = λ (at : ReaderInput).
      Reaches mode script before (beside at.left now) now.buffered rig (GoesOn mode script since at.progress) in
      subst P (sym reads)
      (plays_on mode script before left mid now since was rig p event reached
      (played.ok reached.replay reached.stands reached.free))
  read_went (word ∷ words) v block played reads =
      let at = word_reached word block.0 in
      let told = told_so_far mode script before left mid since was p word at block.1 in
      lines_out mode script before after mid.held now.held now.heard now.steps mid.buffered
      (pieces_for mode (word_notes at.replay (word ∷ words))) now.buffered rig (GoesOn mode script since q)
      (all_played mode script before left after mid now since was rig p q word words at block.1 (Ok v) played started
      near after reads)
      (played.put at.replay (before_words mode before at.replay) told) (played.free at.free)

  -- the same, and then the reader stopped
  pub read_stops : {Value : Type 0} (words : List ℕ) (v : Value) (stop : Stop) → AreBlockOf mode event words
      → PlaysRead mode event words (play_state mid was) (play_state now rig) (Ok v)
      → StopsInBlock (reader_input p left) (reader_input q after) words stop
      → Awaits mode script before (beside after now) now.buffered since rig q (Err stop)
  read_stops [] v stop block played stopping = absurd stopping
  read_stops (word ∷ words) v stop block played stopping =
      let at = word_reached word block.0 in
      let told = told_so_far mode script before left mid since was p word at block.1 in
      lines_out mode script before after mid.held now.held now.heard now.steps mid.buffered
      (pieces_for mode (word_notes at.replay (word ∷ words))) now.buffered rig
      (Answers mode script since q after (Err stop))
      (stops_after mode script before left after mid now since was rig p q word words at block.1 (Ok v) played started
      near stop stopping)
      (played.put at.replay (before_words mode before at.replay) told) (played.free at.free)

  -- It has a fault, or a line was not written.
  pub read_ends : (Value : Type 0) {Got : Type 0} (words : List ℕ) (read : Result Got Stop) (halt : Halt EventFault)
      (held : Option (List ℕ)) (result : Ended EventFault) → AreBlockOf mode event words
      → PlaysRead {Value = Value} mode event words (play_state mid was) (play_state now rig) (Err halt)
      → OnOk read (ReadsBlock (reader_input p left) (reader_input q after) words)
      → IfErr read (λ stop. StopsInBlock (reader_input p left) (reader_input q after) words stop)
      → AreSmall (plays script) → EndsAfter halt now.buffered now.held held result
      → EndsPlay mode script before (at_end (streams after held now.heard now.steps) rig)
      (play_ending result (next_number rig.played))
  read_ends Value [] (Ok got) halt held result block played reads stopping is_small ends =
      let P : ReaderInput → Type 0 = λ (at : ReaderInput).
      EndsPlay mode script before (at_end (streams at.left held now.heard now.steps) rig)
      (play_ending result (next_number rig.played)) in
      subst P (sym reads)
      (event_ends mode script before left mid now since was rig p event reached is_small halt held result
      (played.ends reached.replay reached.stands reached.free) ends)
  read_ends Value [] (Err stop) halt held result block played reads stopping is_small ends = absurd stopping
  read_ends Value (word ∷ words) read (Lacks number) held result block played reads stopping is_small ends =
      let at = word_reached word block.0 in
      let told = told_so_far mode script before left mid since was p word at block.1 in
      rw (ends.0, ends.1)
      (words_fail mode script before left after mid now since was rig p q word words at block.1
      {Value = Value} (Err (Lacks number)) played started near number read
      (played.breaks at.replay (before_words mode before at.replay) told) reads stopping is_small)
  read_ends Value (word ∷ words) read (Refuses fault) held result block played reads stopping is_small ends =
      let at = word_reached word block.0 in
      let told = told_so_far mode script before left mid since was p word at block.1 in
      absurd (played.breaks at.replay (before_words mode before at.replay) told)
