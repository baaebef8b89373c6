-- The output for flat events (our own rule).
use Rattle.std.specs.Prelude.{ℕ, List, [], ◌++◌, ◌==◌, max, map, if◌then◌else◌}
use Rattle.gpu_capture.specs.Capture.{head_of}
use Rattle.gpu_capture.specs.Written.{spell, written}
use Rattle.gpu_capture.specs.declared.event.Event.{Event}
use Rattle.gpu_capture.specs.declared.event.Event.TheVariants.{Gp0}
use Rattle.event_play.specs.Replay.{Replay}
use Rattle.capture_flat.specs.Flat.{flat_events, flat_replay}

-- the output version for an input version: at least 2, because Skip records need version 2
abbrev pub flat_version : ℕ → ℕ
flat_version version = max 2 version

-- the records of words written to GP0
abbrev pub spell_words : List ℕ → List ℕ
spell_words words = spell (map Gp0 words)

-- the file header: output of the first event, or of End if there is no event
abbrev pub head_due : (version played : ℕ) → List ℕ
head_due version played = if played == 0 then head_of (flat_version version) else []

-- the output of an event
abbrev pub due_at : ℕ → Replay → Event → List ℕ
due_at version t event = head_due version t.played ++ spell (flat_events t.state event)

-- the output after `played` events, whose flat events are `flat`
abbrev pub begun : (version played : ℕ) → List Event → List ℕ
begun version played flat = if played == 0 then [] else head_of (flat_version version) ++ spell flat

-- the whole file of the flat events of `events`, played from the replay `first`
abbrev pub flat_file : (first : Replay) (version : ℕ) → List Event → List ℕ
flat_file first version events = written (flat_version version) (flat_replay first events)
