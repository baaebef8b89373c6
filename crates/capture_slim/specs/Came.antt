-- The state of writing a capture without dead drawing, and how it ends (our own rule).
use Rattle.std.specs.Prelude.{◌≡◌, ◌≤◌, ◌<◌, ◌⊎◌, ℕ, List, [], ◌∷◌, ◌++◌, ◌+◌, ◌^◌, Option, length}
use Rattle.dev_io.specs.Device.{appended, AppendsPart}
use Rattle.gpu_capture.specs.Capture.{limit}
use Rattle.gpu_capture.specs.Written.{spelled_end, HoldsWords}
use Rattle.gpu_capture.specs.declared.event.Event.{Event}
use Rattle.gpu_capture.specs.declared.event.Stop.{Stop}
use Rattle.gpu_capture.specs.declared.event.Stop.TheVariants.{End}
use Rattle.event_play.specs.Ends.{IsNotEnd}
use Rattle.event_play.specs.Ports.{IsAtPorts, AreAtPorts}
use Rattle.dead_drawing.specs.Dead.{window_events}
use Rattle.dead_drawing.specs.Laws.{height_for}
use Rattle.capture_slim.specs.File.{AreFrom, IsDraft}
use Rattle.gpu_capture.specs.Draft.{head_at}
use Rattle.capture_slim.specs.Passing.{FailsAt, IsAmongLast, Passed, WritesAll, WritesPart, slim_file}
use Rattle.capture_slim.specs.Stream.{outs, window_after}
use Rattle.capture_slim.specs.Window.{Window, first_window, waiting}
use Rattle.capture_slim.specs.declared.ending.SlimEnding.{SlimEnding}
use Rattle.capture_slim.specs.declared.ending.SlimEnding.TheVariants.{Done, Stopped, NotFlat, TooLong, WriteFailed}
use Rattle.gpu_capture.specs.declared.draft.Draft.{Draft}
use Rattle.gpu_capture.specs.declared.draft.CaptureFile.{CaptureFile}

-- the values of port events are 32-bit words
abbrev pub HoldWords : List Event → Type 0
HoldWords [] = Unit {0}
HoldWords (e ∷ events) = HoldsWords e × HoldWords events

-- the window before the first event
abbrev pub window_for : Passed → Window
window_for passed = first_window (height_for passed.version)

-- the same with one more event
abbrev pub and_event : Passed → Event → Passed
and_event passed event = record passed { events = passed.events ++ event ∷ [] }

-- `count` port events were read. What must be written of them is written or buffered.
pub record Came (passed : Passed) (window : Window) (draft : Draft) (count : ℕ) (held : Option (List ℕ)) : Type 0 where
  pub ports : AreAtPorts passed.events
  pub words : HoldWords passed.events
  pub version_is : draft.file.version ≡ passed.version
  pub window_is : window ≡ window_after passed.events (window_for passed)
  pub count_is : count ≡ length passed.events
  pub draft_is : IsDraft draft passed.base held (outs passed.events (window_for passed))

-- the buffered records, and those of the waiting events, belong to event `least` or later ones
pub record BuffersFrom (least : ℕ) (window : Window) (draft : Draft) (count : ℕ) : Type 0 where
  pub buffered : AreFrom least draft.buffered
  pub later : least + length (waiting window) ≤ count + 1

-- at most as many events wait as were read, and `count` is below 2^60
pub record HasCount (window : Window) (count : ℕ) : Type 0 where
  pub most : length (waiting window) ≤ count
  pub few : count < 2 ^ 60

-- at the end of reading: with the record of one of the last events, the file would be too long
pub record FailsLast (passed : Passed) (held : Option (List ℕ)) (number : ℕ) (ending : SlimEnding) : Type 0 where
  pub last : IsAmongLast passed.events number
  pub fails : FailsAt passed held number ending

-- at the end of reading: the record of any of the events was not written completely
pub record FailsAny (passed : Passed) (held : Option (List ℕ)) (number : ℕ) (ending : SlimEnding) : Type 0 where
  pub some : number ≤ length passed.events
  pub fails : FailsAt passed held number ending

-- the ending at an event that is not at the ports
abbrev pub EndsRefused : Passed → (held : Option (List ℕ)) → SlimEnding → Type 0
EndsRefused passed held (NotFlat number) = WritesAll passed held number
EndsRefused passed held (TooLong number) = FailsLast passed held number (TooLong number)
EndsRefused passed held (WriteFailed number) = FailsAny passed held number (WriteFailed number)
EndsRefused passed held ending = ⊥

-- the record that is written at the last event would make the file too long
pub record FailsNow (passed : Passed) (held : Option (List ℕ)) (number : ℕ) (ending : SlimEnding) : Type 0 where
  pub due : length passed.events ≡ number + window_events
  pub fails : FailsAt passed held number ending

-- a record that had to be written at the last event or before was not written completely
pub record FailsAfter (passed : Passed) (held : Option (List ℕ)) (number : ℕ) (ending : SlimEnding) : Type 0 where
  pub due : number + window_events ≤ length passed.events
  pub fails : FailsAt passed held number ending

-- the ending caused by a port event
abbrev pub EndsPushed : Passed → (held : Option (List ℕ)) → SlimEnding → Type 0
EndsPushed passed held (TooLong number) = FailsNow passed held number (TooLong number)
EndsPushed passed held (WriteFailed number) = FailsAfter passed held number (WriteFailed number)
EndsPushed passed held ending = ⊥

-- the ending caused by any event
abbrev pub EndsEvent : Passed → Event → (held : Option (List ℕ)) → SlimEnding → Type 0
EndsEvent passed event held ending =
    (IsAtPorts event × EndsPushed (and_event passed event) held ending)
    ⊎ ((IsAtPorts event → ⊥) × EndsRefused passed held ending)

-- the ending caused by a stop of the reader
abbrev pub EndsStop : Passed → Stop → (held : Option (List ℕ)) → SlimEnding → Type 0
EndsStop passed stop held Done =
    (stop ≡ End) × (held ≡ appended passed.base (slim_file passed.version passed.events))
    × (length (slim_file passed.version passed.events) ≤ limit)
EndsStop passed stop held (Stopped number told) = (told ≡ stop) × IsNotEnd stop × WritesAll passed held number
EndsStop passed stop held (TooLong number) = FailsLast passed held number (TooLong number)
EndsStop passed stop held (WriteFailed number) =
    FailsAny passed held number (WriteFailed number) ⊎ ((stop ≡ End) × WritesPart passed held number)
EndsStop passed stop held ending = ⊥

-- the ending at a stop of the reader after all waiting events are written; `number`: the number of events plus 1
abbrev pub StopsAs : Stop → (number : ℕ) → SlimEnding → Type 0
StopsAs stop number Done = stop ≡ End
StopsAs stop number (Stopped at told) = (at ≡ number) × (told ≡ stop) × IsNotEnd stop
StopsAs stop number (WriteFailed at) = (at ≡ number) × (stop ≡ End)
StopsAs stop number ending = ⊥

-- the bytes written there
abbrev pub ClosesFile : CaptureFile → (before now : Option (List ℕ)) → SlimEnding → Type 0
ClosesFile file before now Done = now ≡ appended before (head_at file ++ spelled_end)
ClosesFile file before now (WriteFailed number) = AppendsPart before now (head_at file ++ spelled_end)
ClosesFile file before now ending = now ≡ before
