-- How a loop over events ends, and writes what is buffered (our own rule).
use Rattle.std.specs.Prelude.{◌≡◌, ◌⊎◌, ℕ, List, [], Option}
use Rattle.gathered_out.specs.Pieces.{Piece}
use Rattle.gathered_out.specs.Puts.{BreaksWriting, Holding, IsWritten, holding}
use Rattle.gpu_capture.specs.declared.event.Stop.{Stop}
use Rattle.gpu_capture.specs.declared.event.Stop.TheVariants.{End}
use Rattle.event_loop.specs.Puts.{ArePut, BreakPut}
use Rattle.event_loop.specs.declared.ended.Ended.{Ended}
use Rattle.event_loop.specs.declared.ended.Ended.TheVariants.{Done, Stopped, Refused, WriteFailed}
use Rattle.event_loop.specs.declared.ended.Halt.{Halt}
use Rattle.event_loop.specs.declared.ended.Halt.TheVariants.{Lacks, Refuses}

-- the buffered output was written, and this is the ending; or a write failed
abbrev pub WritesBefore : {R : Type 0} → Ended R → List Piece → (before now : Option (List ℕ)) → Ended R → Type 0
WritesBefore ending buffered before now ended =
    ((ended ≡ ending) × IsWritten before now buffered)
    ⊎ ((lacking : ℕ) × (ended ≡ WriteFailed lacking) × BreaksWriting before now buffered lacking)

-- the ending at an event whose output is not complete: buffered output is written first, unless a write has failed
abbrev pub EndsAfter : {R : Type 0} → Halt R → List Piece → (before now : Option (List ℕ)) → Ended R → Type 0
EndsAfter (Lacks number) buffered before now ended = (ended ≡ WriteFailed number) × (now ≡ before)
EndsAfter (Refuses why) buffered before now ended = WritesBefore (Refused why) buffered before now ended

-- the ending at a stop of the reader; `number` is that of the next event
abbrev pub closed_as : {R : Type 0} → (number : ℕ) → Stop → Ended R
closed_as number End = Done
closed_as number stop = Stopped number stop

-- the ending at a stop whose output is not complete
abbrev pub ended_by : {R : Type 0} → Halt R → Ended R
ended_by (Lacks number) = WriteFailed number
ended_by (Refuses why) = Refused why

-- The output at a stop, how the stop may be refused, the state of the passage before it and after its output, the
-- number of the next event, and the stop.
pub record Closing (R : Type 0) : Type 1 where
  pub due : List Piece
  pub refuses : R → Type 0
  pub stands : Type 0
  pub closes : Type 0
  pub number : ℕ
  pub stop : Stop

abbrev pub closing_of : {R : Type 0} → List Piece → (R → Type 0) → (Stands Closes : Type 0) → (number : ℕ) → Stop
    → Closing R
closing_of due refuses Stands Closes number stop = record {
  due = due;
  refuses = refuses;
  stands = Stands;
  closes = Closes;
  number = number;
  stop = stop;
}

-- the ending at a stop with nothing buffered
abbrev pub ClosesFrom : {R : Type 0} → Closing R → (mid now : Option (List ℕ)) → Ended R → Type 0
ClosesFrom {R} at mid now ended =
    ((lacking : ℕ) × (ended ≡ WriteFailed lacking) × BreakPut at.due (holding mid []) now lacking × at.closes)
    ⊎ (((why : R) × (ended ≡ Refused why) × at.refuses why × (now ≡ mid))
    ⊎ ((put : Holding) × ArePut at.due (holding mid []) put
    × WritesBefore (closed_as at.number at.stop) put.buffered put.held now ended × at.closes))

-- the ending at a stop with buffered output
abbrev pub EndsReading : {R : Type 0} → Closing R → List Piece → (before now : Option (List ℕ)) → Ended R → Type 0
EndsReading at buffered before now ended =
    ((lacking : ℕ) × (ended ≡ WriteFailed lacking) × BreaksWriting before now buffered lacking × at.stands)
    ⊎ ((mid : Option (List ℕ)) × IsWritten before mid buffered × ClosesFrom at mid now ended)
