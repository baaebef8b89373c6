-- The ending of a loop over events, as that of a flat capture (our own rule).
use Rattle.event_loop.specs.declared.ended.Ended.{Ended}
use Rattle.event_loop.specs.declared.ended.Ended.TheVariants as ended
use Rattle.capture_flat.specs.declared.ending.FlatEnding.{FlatEnding}
use Rattle.capture_flat.specs.declared.ending.FlatEnding.TheVariants.{Done, Stopped, Faulted, TooLong, WriteFailed}
use Rattle.capture_flat.specs.declared.refusal.FlatRefusal.{FlatRefusal}
use Rattle.capture_flat.specs.declared.refusal.FlatRefusal.TheVariants.{Fault, TooMuch}

abbrev pub refused_as : FlatRefusal → FlatEnding
refused_as (Fault number fault) = Faulted number fault
refused_as (TooMuch number) = TooLong number

abbrev pub flat_ending : Ended FlatRefusal → FlatEnding
flat_ending ended.Done = Done
flat_ending (ended.Stopped number stop) = Stopped number stop
flat_ending (ended.Refused why) = refused_as why
flat_ending (ended.WriteFailed number) = WriteFailed number

-- the same the other way round
abbrev pub flat_ended : FlatEnding → Ended FlatRefusal
flat_ended Done = ended.Done
flat_ended (Stopped number stop) = ended.Stopped number stop
flat_ended (Faulted number fault) = ended.Refused (Fault number fault)
flat_ended (TooLong number) = ended.Refused (TooMuch number)
flat_ended (WriteFailed number) = ended.WriteFailed number
