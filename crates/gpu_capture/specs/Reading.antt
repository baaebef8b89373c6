-- The meaning of the bytes read of a capture (our own rule). `Reading` is `capture` for a whole capture, and
-- `capture_from progress` for what a reader has not read yet.
use Rattle.std.specs.Prelude.{◌≡◌, ◌≤◌, ℕ, List, [], ◌∷◌, ◌++◌, Option, length}
use Rattle.dev_io.specs.Device.{IsAtEnd}
use Rattle.gpu_capture.specs.Capture.{Captured, then_events}
use Rattle.gpu_capture.specs.declared.event.Event.{Event}
use Rattle.gpu_capture.specs.declared.event.Stop.{Stop}
use Rattle.gpu_capture.specs.declared.event.Stop.TheVariants.{Truncated, ReadFault}

-- the meaning of bytes
abbrev pub Reading : Type 0
Reading = List ℕ → Captured

-- these bytes give only a prefix of the events, and are then truncated; `missing` are the other events
pub record IsCutShort (read : Reading) (events : List Event) (part : List ℕ) (missing : List Event) : Type 0 where
  pub version : ℕ
  pub byte : ℕ
  pub fewer : List Event
  pub are : events ≡ fewer ++ missing
  pub is : read part ≡ record { version = version; events = fewer; ending = Truncated byte; rest = [] }

-- All of these bytes are needed for the last of these events: any proper prefix of them is truncated before that event.
abbrev pub AreNeeded : Reading → List Event → List ℕ → Type 0
AreNeeded read events taken = (part more : List ℕ) → taken ≡ part ++ more → (more ≡ [] → ⊥)
    → (event : Event) × (missing : List Event) × IsCutShort read events part (event ∷ missing)

-- All of them are needed to see how the capture ends after these events: any proper prefix of them is truncated.
abbrev pub AreNeededToEnd : Reading → List Event → List ℕ → Type 0
AreNeededToEnd read events taken = (part more : List ℕ) → taken ≡ part ++ more → (more ≡ [] → ⊥)
    → (missing : List Event) × IsCutShort read events part missing

-- whatever follows the bytes read, the capture begins with these events and has this version
abbrev pub SaysFirst : Reading → (version : ℕ) → (taken : List ℕ) → List Event → Type 0
SaysFirst read version taken events = (rest : List ℕ)
    → (more : Captured) × (read (taken ++ rest) ≡ then_events events more) × (more.version ≡ version)

-- a capture before its end: its version and its events
pub record Said : Type 0 where
  pub version : ℕ
  pub events : List Event

-- a whole capture: with its end and the bytes after it
abbrev pub said_whole : Said → (ending : Stop) → (rest : List ℕ) → Captured
said_whole said ending rest =
    record { version = said.version; events = said.events; ending = ending; rest = rest }

-- the bytes read mean these events and then this stop
abbrev pub SaysStop : Reading → (taken : List ℕ) → Said → Stop → (left : Option (List ℕ)) → Type 0
SaysStop read taken said (ReadFault byte) left = read taken ≡ said_whole said (Truncated byte) []
SaysStop read taken said (Truncated byte) left = (read taken ≡ said_whole said (Truncated byte) []) × IsAtEnd left
SaysStop read taken said stop left = (rest : List ℕ) → read (taken ++ rest) ≡ said_whole said stop rest

-- At most `most` bytes were read after those that the last of these events needs.
pub record AreFewAfter (read : Reading) (events : List Event) (taken : List ℕ) (most : ℕ) : Type 0 where
  pub needed : List ℕ
  pub later : List ℕ
  pub are : taken ≡ needed ++ later
  pub are_needed : AreNeeded read events needed
  pub few : length later ≤ most
