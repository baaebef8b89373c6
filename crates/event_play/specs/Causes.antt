-- What playing may end with, and why.
use Rattle.event_loop.specs.Ending as loop
use Rattle.event_loop.specs.declared.ended.Ended.{Ended}
use Rattle.event_loop.specs.declared.ended.Ended.TheVariants as ended
use Rattle.event_play.specs.declared.ending.Ending.{Ending}
use Rattle.event_play.specs.declared.ending.Ending.TheVariants.{Done, Stopped, Faulted, NoPicture, WriteFailed}
use Rattle.event_play.specs.declared.ending.PlayRefusal.{PlayRefusal}
use Rattle.event_play.specs.declared.ending.PlayRefusal.TheVariants as why

-- an ending as that of a loop
abbrev pub play_ended : Ending → Ended PlayRefusal
play_ended Done = ended.Done
play_ended (Stopped number stop) = ended.Stopped number stop
play_ended (Faulted number fault) = ended.Refused (why.Fault number fault)
play_ended (NoPicture number) = ended.Refused (why.NoPicture number)
play_ended (WriteFailed number) = ended.WriteFailed number

abbrev pub MayReadFault : Ending → Type 0
MayReadFault ending = loop.MayReadFault (play_ended ending)

abbrev pub MayWriteFault : Ending → Type 0
MayWriteFault ending = loop.MayWriteFault (play_ended ending)

abbrev pub IsEnding : Ending → Type 0
IsEnding ending = loop.IsEnding (play_ended ending)
