-- How the writing of an output ends whose bytes belong to one event.
use Rattle.std.specs.Prelude.{◌≡◌, ℕ, List}
use Rattle.dev_io.specs.Device.{AppendsPart, Rose, SinkSide, appended}
use Rattle.event_play.specs.declared.ending.Ending.{Ending}
use Rattle.event_play.specs.declared.ending.Ending.TheVariants.{Done, WriteFailed}

-- these bytes were written; or the sink failed, and a byte that belongs to this event is missing
abbrev pub EndsTelling : (bytes : List ℕ) → (event : ℕ) → (before now : SinkSide) → Ending → Type 0
EndsTelling bytes event before now Done = now.held ≡ appended before.held bytes
EndsTelling bytes event before now (WriteFailed at) =
    (at ≡ event) × AppendsPart before.held now.held bytes × Rose before.faults now.faults
EndsTelling bytes event before now ending = ⊥
