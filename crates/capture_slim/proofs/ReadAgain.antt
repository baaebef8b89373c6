-- What is written is read again as the events that stay, and replayed alike.
use Rattle.std.proofs.Common.{◌≡◌, ◌≤◌, ◌++◌, ◌==◌, ℕ, zero, suc, List, [], ◌∷◌, Bool, true, false, cond, length, refl}
use Rattle.std.proofs.Common.{ap, sym, subst, ◌∙◌}
use Rattle.gpu_capture.specs.Capture.{Captured, capture, limit}
use Rattle.gpu_capture.specs.Written.{Allows, AllowsAll, HoldsWords}
use Rattle.gpu_capture.specs.declared.event.Event.{Event}
use Rattle.gpu_capture.specs.declared.event.Event.TheVariants as event
use Rattle.gpu_capture.specs.declared.event.Stop.TheVariants.{End}
use Rattle.gpu_capture.proofs.Written.{written_read}
use Rattle.event_play.specs.Alike.{AreAlike, replay_of}
use Rattle.event_play.specs.Ports.{IsAtPorts, AreAtPorts}
use Rattle.event_play.specs.Replay.{Played, played_capture, played_events, Replay, from_state, played_from, raised}
use Rattle.event_play.specs.Replay.{tall_version}
use Rattle.event_play.specs.Step.{first_machine, tall_machine}
use Rattle.dead_drawing.specs.Control.{Control, controlled, first_control}
use Rattle.dead_drawing.specs.Dead.{dead_len}
use Rattle.dead_drawing.specs.Laws.{height_for, machine_for}
use Rattle.dead_drawing.specs.Slim.{slim_events, slim_from, kept_by}
use Rattle.dead_drawing.proofs.SlimLaw.{slim_ports}
use Rattle.dead_drawing.proofs.WholeLists.{slim_law}
use Rattle.event_play.specs.Alike.{IsFlatCapture}
use Rattle.event_play.proofs.Rests.{rest_same}
use Rattle.capture_slim.specs.Came.{HoldWords}
use Rattle.capture_slim.specs.Passing.{first, slim_file}
use Rattle.gpu_capture.proofs.Known.{AreKnown, capture_known}

-- ---- what stays can be written

port_allowed : (version : ℕ) (e : Event) → 1 ≤ version → IsAtPorts e → HoldsWords e → AreKnown version (e ∷ [])
    → Allows version e
port_allowed version (event.Gp0 word) some port words known = record { known = some; event = tt; words = words }
port_allowed version (event.Gp1 word) some port words known = record { known = some; event = tt; words = words }
port_allowed version event.Read some port words known = record { known = some; event = tt; words = tt }
port_allowed version event.Stat some port words known = record { known = some; event = tt; words = tt }
port_allowed version event.Skip some port words known = record { known = known.0; event = tt; words = tt }
port_allowed version other some port words known = absurd port

ports_allowed : (version : ℕ) (events : List Event) → 1 ≤ version → AreAtPorts events → HoldWords events
    → AreKnown version events
    → AllowsAll version events
ports_allowed version [] some ports words known = tt
ports_allowed version (e ∷ events) some ports words known = (
  port_allowed version e some ports.0 words.0 (known.0, tt),
  ports_allowed version events some ports.1 words.1 known.1,
)

kept_allowed : (version k : ℕ) (e : Event) (rest : ℕ → List Event) → Allows version e
    → ((skip : ℕ) → AllowsAll version (rest skip)) → AllowsAll version (kept_by k e rest)
kept_allowed version zero e rest here later = (here, later 0)
kept_allowed version (suc k) e rest here later = later k

slim_allowed : (version : ℕ) (events : List Event) (c : Control) (skip : ℕ) → AllowsAll version events
    → AllowsAll version (slim_from events c skip)
slim_allowed version [] c skip allowed = tt
slim_allowed version (e ∷ events) c (suc skip) allowed = slim_allowed version events (controlled c e) skip allowed.1
slim_allowed version (e ∷ events) c zero allowed = kept_allowed version (dead_len c (e ∷ events)) e
    (λ skip. slim_from events (controlled c e) skip) allowed.0
    (λ j. slim_allowed version events (controlled c e) j allowed.1)

all_allowed : (version height : ℕ) (events : List Event) → AllowsAll version events
    → AllowsAll version (slim_events height events)
unfolding slim_events
all_allowed version height events allowed = slim_allowed version events (first_control height) 0 allowed

all_ports : (height : ℕ) (events : List Event) → AreAtPorts events → AreAtPorts (slim_events height events)
unfolding slim_events
all_ports height events ports = slim_ports events (first_control height) 0 ports

-- ---- the machine that plays a version

raised_by : (is_tall : Bool) → cond is_tall (from_state (tall_machine first_machine) 0) first
    ≡ from_state (cond is_tall (tall_machine first_machine) first_machine) 0
raised_by true = refl
raised_by false = refl

raised_is : (version : ℕ) → raised first version ≡ from_state (machine_for version) 0
raised_is version = raised_by (version == tall_version)

-- ---- the file

module _ (version : ℕ) (taken : List ℕ) (events : List Event) (some : 1 ≤ version) (most : version ≤ 3)
    (says : (rest : List ℕ) → capture (taken ++ rest)
    ≡ record { version = version; events = events; ending = End; rest = rest })
    (ports : AreAtPorts events) (words : HoldWords events) (fits : length (slim_file version events) ≤ limit) where
  abbrev slim : List Event
  slim = slim_events (height_for version) events

  allowed : AllowsAll version slim
  allowed =
      let P : Captured → Type 0 = λ c. AreKnown c.version c.events in
      all_allowed version (height_for version) events
      (ports_allowed version events some ports words (subst P (says []) (capture_known (taken ++ []))))

  reads : (after : List ℕ)
      → capture (slim_file version events ++ after)
      ≡ record { version = version; events = slim; ending = End; rest = after }
  reads after = written_read version slim after (some, most) allowed fits

  -- replaying bytes that encode these events
  plays : (es : List Event) (bytes after : List ℕ)
      → capture bytes ≡ record { version = version; events = es; ending = End; rest = after }
      → ((played_capture first bytes).ending ≡ (replay_of (machine_for version) es).ending)
      × ((played_capture first bytes).replay ≡ (replay_of (machine_for version) es).replay)
  plays es bytes after is =
      let played : played_capture first bytes ≡ played_events (from_state (machine_for version) 0) es End after =
      ap (played_from first) is ∙ ap (λ t. played_events t es End after) (raised_is version) in
      let same = rest_same es (from_state (machine_for version) 0) after in (
        ap (λ (r : Played). r.ending) played ∙ same.0,
        ap (λ (r : Played). r.replay) played ∙ same.1,
      )

  pub is_slim : (rest : List ℕ)
      → IsFlatCapture first (played_capture first (taken ++ rest)).replay version slim (slim_file version events)
  is_slim rest =
      let law = slim_law version events ports in
      let whole = plays events (taken ++ rest) rest (says rest) in
      record {
        ports = all_ports (height_for version) events ports;
        reads = reads;
        whole = λ after. (plays slim (slim_file version events ++ after) after (reads after)).0 ∙ law.0;
        alike = λ after.
            let P : Replay → Type 0 = λ a. AreAlike a (played_capture first (taken ++ rest)).replay in
            let Q : Replay → Type 0 = λ b. AreAlike (replay_of (machine_for version) slim).replay b in
            subst P (sym (plays slim (slim_file version events ++ after) after (reads after)).1)
            (subst Q (sym whole.1) law.2);
      }
