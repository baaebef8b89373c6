-- The lines on the error stream (our own rule).
use Rattle.std.specs.Prelude.{ℕ, List, [], ◌++◌, codes, decimal, flat_map, ◌==◌, if◌then◌else◌}
use Rattle.gpu_taps.specs.Tally.{Reading}
use Rattle.packet_text.specs.Number.{word_text, address_text}
use Rattle.packet_text.specs.Tap.{last_lines}
use Rattle.gpu_capture.specs.declared.event.Stop.{Stop}
use Rattle.gpu_capture.specs.declared.event.Stop.TheVariants.{End, NotCapture, Truncated, BadRecord, TooLong, ReadFault}
use Rattle.event_loop.specs.declared.ended.Ended.{Ended}
use Rattle.event_loop.specs.declared.ended.Ended.TheVariants as ended
use Rattle.capture_flat.specs.Ended.{flat_ended}
use Rattle.capture_flat.specs.declared.ending.FlatEnding.{FlatEnding}
use Rattle.capture_flat.specs.declared.refusal.FlatRefusal.{FlatRefusal}
use Rattle.capture_flat.specs.declared.refusal.FlatRefusal.TheVariants as flat
use Rattle.capture_cut.specs.Ended.{cut_ended}
use Rattle.capture_cut.specs.declared.ending.CutEnding.{CutEnding}
use Rattle.capture_cut.specs.declared.ending.CutRefusal.{CutRefusal}
use Rattle.capture_cut.specs.declared.ending.CutRefusal.TheVariants as cut
use Rattle.capture_slim.specs.Ended.{slim_ended}
use Rattle.capture_slim.specs.declared.ending.SlimEnding.{SlimEnding}
use Rattle.capture_slim.specs.declared.ending.SlimRefusal.{SlimRefusal}
use Rattle.capture_slim.specs.declared.ending.SlimRefusal.TheVariants as slim
use Rattle.gpu_snapshot.specs.declared.ending.AnyEnding.{AnyEnding}
use Rattle.gpu_snapshot.specs.declared.ending.AnyEnding.TheVariants as any
use Rattle.event_play.specs.Causes.{play_ended}
use Rattle.event_play.specs.declared.ending.Ending.{Ending}
use Rattle.event_play.specs.declared.ending.PlayRefusal.{PlayRefusal}
use Rattle.event_play.specs.declared.ending.PlayRefusal.TheVariants as play
use Rattle.event_play.specs.declared.fault.EventFault.{EventFault}
use Rattle.event_play.specs.declared.fault.EventFault.TheVariants.{BadDma, DmaTooLong, ListLoop}

abbrev pub usage_line : List ℕ
usage_line = codes "psxgpu: usage\n"

abbrev pub memory_line : List ℕ
memory_line = codes "psxgpu: memory\n"

-- psxgpu: NAME at event N
unfoldable pub event_line : (name : List ℕ) → (event : ℕ) → List ℕ
event_line name event = codes "psxgpu: " ++ (name ++ (codes " at event " ++ (decimal event ++ codes "\n")))

-- psxgpu: NAME at event N byte B
unfoldable pub offset_line : (name : List ℕ) → (event byte : ℕ) → List ℕ
offset_line name event byte =
    codes "psxgpu: " ++ (name ++ (codes " at event "
    ++ (decimal event ++ (codes " byte " ++ (decimal byte ++ codes "\n")))))

-- psxgpu: NAME at event N byte B word W
unfoldable pub word_line : (name : List ℕ) → (event byte word : ℕ) → List ℕ
word_line name event byte word =
    codes "psxgpu: " ++ (name ++ (codes " at event " ++ (decimal event
    ++ (codes " byte " ++ (decimal byte ++ (codes " word " ++ (word_text word ++ codes "\n")))))))

-- psxgpu: dma-too-long at event N words W
unfoldable pub too_long_line : (event words : ℕ) → List ℕ
too_long_line event words =
    codes "psxgpu: dma-too-long at event " ++ (decimal event ++ (codes " words " ++ (decimal words ++ codes "\n")))

-- psxgpu: list-loop at event N node A
unfoldable pub list_loop_line : (event node : ℕ) → List ℕ
list_loop_line event node =
    codes "psxgpu: list-loop at event " ++ (decimal event ++ (codes " node " ++ (address_text node ++ codes "\n")))

abbrev pub stop_line : (event : ℕ) → Stop → List ℕ
stop_line event End = []
stop_line event (NotCapture byte) = offset_line (codes "not-capture") event byte
stop_line event (Truncated byte) = offset_line (codes "truncated") event byte
stop_line event (BadRecord byte word) = word_line (codes "bad-record") event byte word
stop_line event (TooLong byte) = offset_line (codes "too-long") event byte
stop_line event (ReadFault byte) = offset_line (codes "read-fault") event byte

abbrev pub fault_line : (event : ℕ) → EventFault → List ℕ
fault_line event BadDma = event_line (codes "bad-dma") event
fault_line event (DmaTooLong words) = too_long_line event words
fault_line event (ListLoop node) = list_loop_line event node

-- ---- a loop over events

-- its line, given those of the command's own refusals; empty after a success
abbrev pub ended_line : {R : Type 0} → (R → List ℕ) → Ended R → List ℕ
ended_line line ended.Done = []
ended_line line (ended.Stopped event stop) = stop_line event stop
ended_line line (ended.Refused why) = line why
ended_line line (ended.WriteFailed event) = event_line (codes "write-fault") event

-- the exit status of a stop of the reader
abbrev pub status_of_stop : Stop → ℕ
status_of_stop (ReadFault byte) = 3
status_of_stop stop = 2

-- its exit status
abbrev pub ended_status : {R : Type 0} → Ended R → ℕ
ended_status ended.Done = 0
ended_status (ended.Stopped event stop) = status_of_stop stop
ended_status (ended.Refused why) = 2
ended_status (ended.WriteFailed event) = 4

-- ---- playing

abbrev pub play_refusal_line : PlayRefusal → List ℕ
play_refusal_line (play.Fault event fault) = fault_line event fault
play_refusal_line (play.NoPicture event) = event_line (codes "no-picture") event

abbrev pub ending_line : Ending → List ℕ
ending_line ending = ended_line play_refusal_line (play_ended ending)

abbrev pub status_of : Ending → ℕ
status_of ending = ended_status (play_ended ending)

-- ---- the last items

-- after the line of a refusal, the last items of each tap that stores them, in the order of the taps
abbrev pub last_items : (status : ℕ) → List Reading → List ℕ
last_items status heard = if status == 2 then flat_map last_lines heard else []

-- all that is written of an ending, given its line, its status and the state of the taps
abbrev pub told : (line : List ℕ) → (status : ℕ) → List Reading → List ℕ
told line status heard = line ++ last_items status heard

abbrev pub ending_text : Ending → List Reading → List ℕ
ending_text ending heard = told (ending_line ending) (status_of ending) heard

-- ---- the same for a capture or a snapshot

abbrev pub any_line : AnyEnding → List ℕ
any_line (any.Played ending) = ending_line ending
any_line (any.BadSnapshot byte word) = word_line (codes "bad-snapshot") 1 byte word

abbrev pub any_status : AnyEnding → ℕ
any_status (any.Played ending) = status_of ending
any_status (any.BadSnapshot byte word) = 2

abbrev pub any_text : AnyEnding → List Reading → List ℕ
any_text ending heard = told (any_line ending) (any_status ending) heard

-- ---- the same for a flat capture

abbrev pub flat_refusal_line : FlatRefusal → List ℕ
flat_refusal_line (flat.Fault event fault) = fault_line event fault
flat_refusal_line (flat.TooMuch event) = event_line (codes "out-too-long") event

abbrev pub flat_line : FlatEnding → List ℕ
flat_line ending = ended_line flat_refusal_line (flat_ended ending)

abbrev pub flat_status : FlatEnding → ℕ
flat_status ending = ended_status (flat_ended ending)

abbrev pub flat_text : FlatEnding → List Reading → List ℕ
flat_text ending heard = told (flat_line ending) (flat_status ending) heard

-- ---- the same for a capture without dead drawing

abbrev pub slim_refusal_line : SlimRefusal → List ℕ
slim_refusal_line (slim.NotFlat event) = event_line (codes "not-flat") event
slim_refusal_line (slim.TooLong event) = event_line (codes "out-too-long") event

abbrev pub slim_line : SlimEnding → List ℕ
slim_line ending = ended_line slim_refusal_line (slim_ended ending)

abbrev pub slim_status : SlimEnding → ℕ
slim_status ending = ended_status (slim_ended ending)

abbrev pub slim_text : SlimEnding → List Reading → List ℕ
slim_text ending heard = told (slim_line ending) (slim_status ending) heard

-- ---- the same for a capture that is cut

abbrev pub cut_refusal_line : CutRefusal → List ℕ
cut_refusal_line (cut.PastEnd event) = event_line (codes "cut-past-end") event
cut_refusal_line (cut.Fault event fault) = fault_line event fault
cut_refusal_line (cut.TooLong event) = event_line (codes "out-too-long") event

abbrev pub cut_line : CutEnding → List ℕ
cut_line ending = ended_line cut_refusal_line (cut_ended ending)

abbrev pub cut_status : CutEnding → ℕ
cut_status ending = ended_status (cut_ended ending)

abbrev pub cut_text : CutEnding → List Reading → List ℕ
cut_text ending heard = told (cut_line ending) (cut_status ending) heard
