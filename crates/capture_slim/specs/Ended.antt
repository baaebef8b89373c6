-- The ending of writing a capture without dead drawing, as that of a loop over events (our own rule).
use Rattle.event_loop.specs.declared.ended.Ended.{Ended}
use Rattle.event_loop.specs.declared.ended.Ended.TheVariants as ended
use Rattle.capture_slim.specs.declared.ending.SlimEnding.{SlimEnding}
use Rattle.capture_slim.specs.declared.ending.SlimEnding.TheVariants.{Done, Stopped, NotFlat, TooLong, WriteFailed}
use Rattle.capture_slim.specs.declared.ending.SlimRefusal.{SlimRefusal}
use Rattle.capture_slim.specs.declared.ending.SlimRefusal.TheVariants as why

abbrev pub slim_ended : SlimEnding → Ended SlimRefusal
slim_ended Done = ended.Done
slim_ended (Stopped number stop) = ended.Stopped number stop
slim_ended (NotFlat number) = ended.Refused (why.NotFlat number)
slim_ended (TooLong number) = ended.Refused (why.TooLong number)
slim_ended (WriteFailed number) = ended.WriteFailed number
