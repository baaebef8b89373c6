-- What a call of C returns: 0, or the code of a cause, and its details (our own rule).
use Rattle.std.specs.Prelude.{ℕ, Option, Some, None, Result, Ok, Err}
use Rattle.event_play.specs.declared.fault.EventFault.{EventFault}
use Rattle.event_play.specs.declared.fault.EventFault.TheVariants as fault
use Rattle.gpu_capture.specs.declared.event.Stop.{Stop}
use Rattle.gpu_capture.specs.declared.event.Stop.TheVariants as stop
use Rattle.snapshot_words.specs.declared.fault.SnapFault.{SnapFault}
use Rattle.snapshot_words.specs.declared.fault.SnapFault.TheVariants as snap
use Rattle.psxgpu_c.specs.declared.ended.Ended.{Ended}
use Rattle.psxgpu_c.specs.declared.refusal.Refusal.{Refusal}
use Rattle.psxgpu_c.specs.declared.refusal.Refusal.TheVariants as refusal

-- nothing was written
abbrev pub numbers : (code event place word : ℕ) → Ended
numbers code event place word = record { written = 0; event = event; place = place; word = word; code = code }

-- at a byte offset
abbrev pub at_place : (code event byte word : ℕ) → Ended
at_place code event byte word = numbers code event byte word

-- a stop of the reader; `event`: the number of the event that would have been read
abbrev pub at_stop : (event : ℕ) → Stop → Ended
at_stop event stop.End = numbers 1 event 0 0
at_stop event (stop.NotCapture byte) = at_place 2 event byte 0
at_stop event (stop.Truncated byte) = at_place 3 event byte 0
at_stop event (stop.BadRecord byte word) = at_place 4 event byte word
at_stop event (stop.TooLong byte) = at_place 5 event byte 0
at_stop event (stop.ReadFault byte) = at_place 6 event byte 0

-- a fault of event `event`
abbrev pub at_fault : (event : ℕ) → EventFault → Ended
at_fault event fault.BadDma = numbers 7 event 0 0
at_fault event (fault.DmaTooLong words) = numbers 8 event words 0
at_fault event (fault.ListLoop node) = numbers 9 event 0 node

-- bytes that cannot be opened: event 1
abbrev pub unopened : SnapFault → Ended
unopened (snap.Stop stop) = at_stop 1 stop
unopened (snap.Bad byte word) = at_place 12 1 byte word

-- a refusal
abbrev pub refused : Refusal → Ended
refused refusal.Closed = numbers 14 0 0 0
refused refusal.Open = numbers 15 0 0 0
refused refusal.NoMemory = numbers 13 0 0 0
refused refusal.NoRoom = numbers 11 0 0 0
refused refusal.NoPicture = numbers 10 0 0 0
refused refusal.NoCell = numbers 17 0 0 0
refused refusal.BadAddress = numbers 18 0 0 0
refused refusal.BadChannel = numbers 19 0 0 0
refused refusal.BadMode = numbers 16 0 0 0
refused refusal.TooManyEvents = numbers 20 0 0 0
refused (refusal.Faulted event fault) = at_fault event fault
refused (refusal.Unopened fault) = unopened fault

-- the code of a refusal, and of a result
abbrev pub code_for : Refusal → ℕ
code_for why = (refused why).code

abbrev pub code_of : {Value : Type 0} → Result Value Refusal → ℕ
code_of (Ok value) = 0
code_of (Err why) = code_for why

-- the details of a result
abbrev pub told_of : {Value : Type 0} → Result Value Refusal → Ended
told_of (Ok value) = numbers 0 0 0 0
told_of (Err why) = refused why

-- the details of a refusal, or of success
abbrev pub told_by : Option Refusal → Ended
told_by None = numbers 0 0 0 0
told_by (Some why) = refused why
