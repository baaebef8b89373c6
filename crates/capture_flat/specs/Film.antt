-- The film and the history of cells of a replay of flat events, compared with the replay that they were made from (our
-- own rule).
use Rattle.std.specs.Prelude.{◌≡◌, ℕ, List, map, Option, None, Some}
use Rattle.gp0_packets.specs.declared.note.Note.{Note}
use Rattle.gpu_capture.specs.declared.event.Event.{Event}
use Rattle.gpu_core.specs.Machine.{Parts}
use Rattle.gpu_taps.specs.Tally.{Reading}
use Rattle.event_play.specs.Alike.{replay_of}
use Rattle.event_play.specs.Frames.{Frame}
use Rattle.event_play.specs.Out.{out_bytes}
use Rattle.event_play.specs.Replay.{Played, from_state}
use Rattle.event_play.specs.Step.{Machine}
use Rattle.event_play.specs.Changes.{Change}
use Rattle.event_play.specs.declared.ending.Ending.TheVariants.{Done}
use Rattle.event_play.specs.declared.ending.Mode.TheVariants.{Frames}
use Rattle.event_play.specs.declared.ending.FrameTrigger.{FrameTrigger}
use Rattle.capture_flat.specs.Flat.{flat_replay}

-- a frame without the number of its event
abbrev pub bare_frame : Frame → ℕ × Parts
bare_frame frame = (frame.word, frame.parts)

-- a note, and a change, without the number of its event
abbrev pub unnumbered : Option Note → Option Note
unnumbered None = None
unnumbered (Some note) = Some (record note { event = 0 })

abbrev pub bare_change : Change → Change
bare_change change = record { note = unnumbered change.note; before = change.before; after = change.after }

-- Two replays write the same pictures, at flips and at marks. Except for event numbers, they have the same frames, and
-- their items change the same cells in the same way.
pub record ShowAlike (a b : Played) : Type 0 where
  pub pictures : (at : FrameTrigger) (heard other : List Reading)
      → out_bytes (Frames at) heard a ≡ out_bytes (Frames at) other b
  pub frames : map bare_frame a.replay.frames ≡ map bare_frame b.replay.frames
  pub changes : map bare_change a.replay.changes ≡ map bare_change b.replay.changes

-- From every machine, of either height: if events have no fault, their flat events keep the film and the history of
-- every cell.
abbrev pub FlatKeepsFilm : Type 0
FlatKeepsFilm = (s : Machine) (events : List Event) → (replay_of s events).ending ≡ Done
    → ShowAlike (replay_of s (flat_replay (from_state s 0) events)) (replay_of s events)
