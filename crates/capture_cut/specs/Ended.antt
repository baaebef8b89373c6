-- The ending of cutting a capture, as that of a loop over events (our own rule).
use Rattle.event_loop.specs.declared.ended.Ended.{Ended}
use Rattle.event_loop.specs.declared.ended.Ended.TheVariants as ended
use Rattle.capture_cut.specs.declared.ending.CutEnding.{CutEnding}
use Rattle.capture_cut.specs.declared.ending.CutEnding.TheVariants.{Done, PastEnd, Stopped, Faulted, TooLong}
use Rattle.capture_cut.specs.declared.ending.CutEnding.TheVariants.{WriteFailed}
use Rattle.capture_cut.specs.declared.ending.CutRefusal.{CutRefusal}
use Rattle.capture_cut.specs.declared.ending.CutRefusal.TheVariants as why

abbrev pub cut_ended : CutEnding → Ended CutRefusal
cut_ended Done = ended.Done
cut_ended (PastEnd number) = ended.Refused (why.PastEnd number)
cut_ended (Stopped number stop) = ended.Stopped number stop
cut_ended (Faulted number fault) = ended.Refused (why.Fault number fault)
cut_ended (TooLong number) = ended.Refused (why.TooLong number)
cut_ended (WriteFailed number) = ended.WriteFailed number
