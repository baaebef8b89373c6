-- Words of a Gp0 record that are read and played as one block. There are none if an event is played on its own.
use Rattle.std.specs.Prelude.{◌≡◌, ℕ, List, [], ◌∷◌, ◌++◌, Result, OnOk, IfErr}
use Rattle.event_loop.specs.Halting.{Halts}
use Rattle.event_loop.specs.declared.ended.Halt.{Halt}
use Rattle.gathered_out.specs.Puts.{BreaksWriting, holding}
use Rattle.gpu_capture.specs.Reader.{ReaderInput}
use Rattle.gpu_capture.specs.Words.{TakesWords, StopsAfter}
use Rattle.gpu_capture.specs.declared.event.Event.{Event}
use Rattle.gpu_capture.specs.declared.event.Event.TheVariants.{Gp0}
use Rattle.gpu_capture.specs.declared.event.Stop.{Stop}
use Rattle.event_play.specs.Ends.{PlaysOrEnds}
use Rattle.event_play.specs.Lines.{MayBuffer}
use Rattle.event_play.specs.Listing.{ArePut, pieces_for}
use Rattle.event_play.specs.PlayedWords.{IsTold, IsUnwatched, after_words, word_notes}
use Rattle.event_play.specs.PlayState.{PlayState}
use Rattle.event_play.specs.Replay.{Replay}
use Rattle.event_play.specs.Streams.{Outlets, without_sink}
use Rattle.event_play.specs.declared.ending.Mode.{Mode}
use Rattle.event_play.specs.declared.fault.EventFault.{EventFault}

-- The first word is that of the event, and the mode does not watch a cell.
abbrev pub AreBlockOf : Mode → Event → List ℕ → Type 0
AreBlockOf mode event [] = Unit {0}
AreBlockOf mode event (word ∷ words) = (event ≡ Gp0 word) × IsUnwatched mode

-- The words after the first one were read. If there are no words, nothing was read.
abbrev pub ReadsBlock : (before now : ReaderInput) → List ℕ → Type 0
ReadsBlock before now [] = now ≡ before
ReadsBlock before now (word ∷ words) = TakesWords before now words

-- The same, and then the reader stopped. It does not stop if there are no words.
abbrev pub StopsInBlock : (before now : ReaderInput) → List ℕ → Stop → Type 0
StopsInBlock before now [] stop = ⊥
StopsInBlock before now (word ∷ words) stop = StopsAfter before now words stop

-- What a call that plays these words does, one event per word, for every replay with which the rig, the taps and the
-- store steps agree. Ok: all their lines were added. Err: a line could not be written; all words were played
-- nevertheless.
pub record PlaysWords {Value : Type 0} (mode : Mode) (words : List ℕ) (before now : PlayState)
    (result : Result Value (Halt EventFault)) : Type 0 where
  pub told : (t : Replay) (first : Outlets)
      → IsTold t first (without_sink before.out.heard before.out.steps) before.rig.gpu before.rig.played
      → IsTold (after_words t words) first (without_sink now.out.heard now.out.steps) now.rig.gpu now.rig.played
  pub put : (t : Replay) (first : Outlets)
      → IsTold t first (without_sink before.out.heard before.out.steps) before.rig.gpu before.rig.played
      → OnOk result (ArePut (pieces_for mode (word_notes t words)) (holding before.out.held before.out.buffered)
      (holding now.out.held now.out.buffered))
  pub breaks : (t : Replay) (first : Outlets)
      → IsTold t first (without_sink before.out.heard before.out.steps) before.rig.gpu before.rig.played
      → IfErr result (Halts (BreaksWriting before.out.held now.out.held
      (before.out.buffered ++ pieces_for mode (word_notes t words))) (λ fault. ⊥))
  pub free : MayBuffer mode before.out.buffered → MayBuffer mode now.out.buffered
  pub ram : now.rig.ram ≡ before.rig.ram
  pub running : now.rig.running ≡ before.rig.running

-- what a call does that plays these words as one block, or the event if there are none
abbrev pub PlaysRead : {Value : Type 0} → Mode → Event → List ℕ → (before now : PlayState)
    → Result Value (Halt EventFault) → Type 0
PlaysRead mode event [] before now result = PlaysOrEnds mode event before now result
PlaysRead mode event (word ∷ words) before now result = PlaysWords mode (word ∷ words) before now result
