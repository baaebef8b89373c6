-- Playing a capture or a snapshot (our own rule).
use Rattle.std.specs.Prelude.{◌≡◌, ◌≤◌, ℕ, ◌+◌, List, [], ◌++◌}
use Rattle.dev_io.specs.Device.{prepended}
use Rattle.gpu_capture.specs.Capture.{ended}
use Rattle.gpu_capture.specs.Reader.{tag_expected}
use Rattle.gpu_capture.specs.declared.event.Stop.{Stop}
use Rattle.gpu_capture.specs.declared.event.Stop.TheVariants.{NotCapture, Truncated, BadRecord, ReadFault}
use Rattle.event_play.specs.Causes.{MayReadFault, MayWriteFault, IsEnding}
use Rattle.event_play.specs.Out.{ending_under}
use Rattle.event_play.specs.Playing.{EndsPlay}
use Rattle.event_play.specs.Replay.{Replay, Played, Script, played_script, script_from, script_of, script_after}
use Rattle.event_play.specs.Replay.{from_state}
use Rattle.event_play.specs.RigState.{RigState}
use Rattle.event_play.specs.Streams.{Streams}
use Rattle.event_play.specs.declared.ending.Ending.{Ending}
use Rattle.event_play.specs.declared.ending.Ending.TheVariants.{Stopped}
use Rattle.event_play.specs.declared.ending.Mode.{Mode}
use Rattle.snapshot_words.specs.Reading.{Snapshot}
use Rattle.snapshot_words.specs.declared.fault.SnapFault.{SnapFault}
use Rattle.snapshot_words.specs.declared.fault.SnapFault.TheVariants as fault
use Rattle.gpu_snapshot.specs.Opened.{Opened, Captured, Restored, Unknown, BreaksOff, BadWord, opened}
use Rattle.gpu_snapshot.specs.Opening.{AreNeeded, opening_cost}
use Rattle.gpu_snapshot.specs.Restored.{machine_in, version_after}
use Rattle.gpu_snapshot.specs.declared.ending.AnyEnding.{AnyEnding}
use Rattle.gpu_snapshot.specs.declared.ending.AnyEnding.TheVariants as any
use Rattle.event_play.specs.PlayInput.{at_end}

-- the start of a replay from a state: nothing was played from it yet, and it counts the events played before
abbrev pub restored_replay : Snapshot → Replay
restored_replay s = from_state (machine_in s) s.outline.played

-- the records after a state that ends at `offset`, played from it
abbrev pub script_restored : Snapshot → (offset : ℕ) → List ℕ → Script
script_restored s offset rest =
    script_after (restored_replay s) (tag_expected (version_after s.outline.regs.height) offset)
    rest

abbrev pub played_restored : Snapshot → (offset : ℕ) → List ℕ → Played
played_restored s offset rest = played_script (script_restored s offset rest)

-- nothing is played, and it ends with this stop
abbrev pub unplayed : Replay → Stop → List ℕ → Script
unplayed first stop rest = script_from first (ended 0 stop rest)

abbrev pub script_opened : Replay → (bytes : List ℕ) → Opened → Script
script_opened first bytes (Captured version rest) = script_of first bytes
script_opened first bytes (Restored s offset rest) = script_restored s offset rest
script_opened first bytes (Unknown offset rest) = unplayed first (NotCapture offset) rest
script_opened first bytes (BreaksOff offset) = unplayed first (Truncated offset) []
script_opened first bytes (BadWord offset word) = unplayed first (BadRecord offset word) []

-- A capture is played from `first`; a snapshot from its own state, with the records after it. Other bytes have no
-- event. Those with an invalid word in a state end like those with an invalid record; `any_ending_under` separates the
-- two.
unfoldable pub script_file : Replay → List ℕ → Script
script_file first bytes = script_opened first bytes (opened bytes)

abbrev pub played_file : Replay → List ℕ → Played
played_file first bytes = played_script (script_file first bytes)

-- ---- endings

-- an invalid word of a state is an ending of its own
abbrev pub any_ending : Opened → Ending → AnyEnding
any_ending (BadWord offset word) ending = any.BadSnapshot offset word
any_ending found ending = any.Played ending

-- the ending of playing bytes in a mode
abbrev pub any_ending_under : Mode → Replay → List ℕ → AnyEnding
any_ending_under mode first bytes = any_ending (opened bytes) (ending_under mode (played_file first bytes))

-- the ending for a file that is not opened
abbrev pub any_ending_of : SnapFault → AnyEnding
any_ending_of (fault.Stop stop) = any.Played (Stopped 1 stop)
any_ending_of (fault.Bad byte word) = any.BadSnapshot byte word

abbrev pub IsAnyEnding : AnyEnding → Type 0
IsAnyEnding (any.Played ending) = IsEnding ending
IsAnyEnding (any.BadSnapshot byte word) = Unit {0}

abbrev pub AnyMayReadFault : AnyEnding → Type 0
AnyMayReadFault (any.Played ending) = MayReadFault ending
AnyMayReadFault (any.BadSnapshot byte word) = ⊥

abbrev pub AnyMayWriteFault : AnyEnding → Type 0
AnyMayWriteFault (any.Played ending) = MayWriteFault ending
AnyMayWriteFault (any.BadSnapshot byte word) = ⊥

-- ---- playing it

abbrev pub HasNoBadWord : Opened → Type 0
HasNoBadWord (BadWord offset word) = ⊥
HasNoBadWord found = Unit {0}

-- No word of a state is invalid: in the bytes read, if these are all or the source failed; else in any bytes that begin
-- with them.
abbrev pub IsGood : Ending → (taken : List ℕ) → Type 0
IsGood (Stopped number (Truncated byte)) taken = HasNoBadWord (opened taken)
IsGood (Stopped number (ReadFault byte)) taken = HasNoBadWord (opened taken)
IsGood ending taken = (rest : List ℕ) → HasNoBadWord (opened (taken ++ rest))

-- with `more` more steps
abbrev pub spent : Streams → ℕ → Streams
spent before more = record before { steps = before.steps + more }

-- It was played to this ending. The steps are those of opening it and those of playing.
pub record PlaysAny (mode : Mode) (first : Replay) (before now : Streams) (ending : Ending) : Type 0 where
  pub rig : RigState
  pub opening : ℕ
  pub plays : EndsPlay mode (script_file first) (spent before opening) (at_end now rig) ending
  pub good : IsGood ending plays.taken
  pub cost : (rest : List ℕ) → opening ≤ opening_cost (plays.taken ++ rest)

-- This word of a state is invalid, whatever follows, and each byte read is needed: a proper part of them ends within
-- the magic number or the state. Nothing was played or written.
pub record FindsBadWord (before now : Streams) (byte word : ℕ) : Type 0 where
  pub taken : List ℕ
  pub bytes : before.left ≡ prepended taken now.left
  pub needed : AreNeeded taken
  pub says : (rest : List ℕ) → opened (taken ++ rest) ≡ BadWord byte word
  pub held : now.held ≡ before.held
  pub heard : now.heard ≡ before.heard
  pub cost : (rest : List ℕ) → now.steps ≤ before.steps + opening_cost (taken ++ rest)

abbrev pub EndsAny : Mode → (first : Replay) → (before now : Streams) → AnyEnding → Type 0
EndsAny mode first before now (any.Played ending) = PlaysAny mode first before now ending
EndsAny mode first before now (any.BadSnapshot byte word) = FindsBadWord before now byte word
