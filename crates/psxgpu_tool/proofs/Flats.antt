-- The result of writing a flat capture.
use Rattle.std.proofs.Common.{◌≡◌, ◌≤◌, ◌<◌, inr, ℕ, ◌++◌, List, [], ◌∷◌, Some, Result, Ok, Err, length, refl, ap, sym}
use Rattle.std.proofs.Common.{subst, ◌∙◌, append-nil, append_assoc, arith}
use Rattle.dev_io.specs.Device.{appended}
use Rattle.gpu_capture.specs.Capture.{Captured, capture, head_of, limit}
use Rattle.gpu_capture.specs.Written.{written}
use Rattle.gpu_capture.specs.declared.event.Event.{Event}
use Rattle.gpu_capture.specs.declared.event.Stop.{Stop}
use Rattle.gpu_capture.specs.declared.event.Stop.TheVariants.{End, ReadFault}
use Rattle.gpu_taps.specs.Tally.{Reading}
use Rattle.event_play.specs.Ends.{IsNotEnd}
use Rattle.event_play.specs.Playing.{whole}
use Rattle.event_play.specs.Replay.{Replay, Played, played_events, after_event, told_on, go_on, ending_of, next_number}
use Rattle.event_play.specs.Replay.{raised}
use Rattle.event_play.specs.RigState.{RigState}
use Rattle.event_play.specs.Step.{Machine, event_step, event_cost, event_box_cost, stepped}
use Rattle.event_play.specs.Operation.{operation_of}
use Rattle.event_play.specs.declared.ending.Ending.TheVariants as play
use Rattle.event_play.specs.declared.fault.EventFault.{EventFault}
use Rattle.event_play.specs.declared.operation.Operation.{Operation}
use Rattle.capture_flat.specs.Flat.{flat_events, flat_replay, flat_asked, then_flat}
use Rattle.capture_flat.specs.Out.{flat_file, flat_version}
use Rattle.capture_flat.specs.Passing.{Follows, EndsFlat, IsEnding, MayReadFault, MayWriteFault, said_of}
use Rattle.event_play.specs.Alike.{IsFlatCapture}
use Rattle.capture_flat.specs.declared.ending.FlatEnding.{FlatEnding}
use Rattle.capture_flat.specs.declared.ending.FlatEnding.TheVariants.{Done, Stopped, Faulted, TooLong, WriteFailed}
use Rattle.capture_flat.proofs.Following.{all_flat}
use Rattle.psxgpu_tool.specs.First.{first, play_of, seen}
use Rattle.psxgpu_tool.specs.FlatRun.{flat_of, FlatWhole, EndsAsFlat}
use Rattle.psxgpu_tool.specs.Line.{status_of, status_of_stop, flat_status, flat_text}
use Rattle.psxgpu_tool.specs.Outside.{Outside, Says, HasFailed, HasFailedToRead}
use Rattle.psxgpu_tool.specs.Run.{CommandRun}
use Rattle.command_line.specs.declared.command.Command.TheVariants.{Flat}
use Rattle.psxgpu_tool.proofs.Causes.{HasCause, is_done, is_refused, is_read, is_write, answers, IsCut, cut, if_told}
use Rattle.psxgpu_tool.proofs.Causes.{stop_read, going_on, first_read, longer}

flat_cause : (ending : FlatEnding) → HasCause (flat_status ending) (ending ≡ Done) (MayReadFault ending)
    (MayWriteFault ending)
flat_cause Done = is_done refl
flat_cause (Stopped n (ReadFault byte)) = is_read tt
flat_cause (WriteFailed n) = is_write tt
flat_cause other = is_refused

-- ---- flat events

-- an event with a fault has none
asks_none : (s : Machine) (number : ℕ) (asked : Result Operation EventFault) (fault : EventFault)
    → stepped s number asked ≡ Err fault → flat_asked s.ram asked ≡ []
asks_none s number (Ok asked) fault is = absurd cc
asks_none s number (Err other) fault is = refl

fault_none : (s : Machine) (number : ℕ) (event : Event) (fault : EventFault) → event_step s number event ≡ Err fault
    → flat_events s event ≡ []
unfolding event_step flat_events
fault_none s number event fault is = asks_none s number (operation_of s.ram s.running event) fault is

-- the file of events that follow, by the flat events of both
file_on : (start replay : Replay) (version : ℕ) (events flat more : List Event) → Follows start events replay flat
    → flat_file start version (events ++ more) ≡ written (flat_version version) (flat ++ flat_replay replay more)
file_on start replay version events flat more follows = ap (written (flat_version version)) (follows.flats more)

file_of : (start replay : Replay) (version : ℕ) (events flat : List Event) → Follows start events replay flat
    → flat_file start version events ≡ written (flat_version version) flat
file_of start replay version events flat follows = ap (written (flat_version version))
    (all_flat start replay events flat follows)

-- ---- the ending

-- the status of a stop
stop_status : (number : ℕ) (stop : Stop) → IsNotEnd stop → status_of (ending_of number stop) ≡ status_of_stop stop
stop_status number End other = absurd other
stop_status number stop other = refl

-- a capture that fits ends as it is played
fits_as : (bytes : List ℕ) (captured : Captured) (status : ℕ) → capture bytes ≡ captured
    → length (flat_of captured) ≤ limit
    → status_of (played_events (raised first captured.version) captured.events captured.ending captured.rest).ending
    ≡ status → EndsAsFlat bytes status
fits_as bytes captured status is fits ends = record {
  long = λ long. let few = subst (λ (c : Captured). length (flat_of c) ≤ limit) (sym is) fits in
      absurd (omega (arith, few, long));
  fits = λ few. sym (ap (λ (c : Captured).
      status_of (played_events (raised first c.version) c.events c.ending c.rest).ending) is ∙ ends);
}

module _ (heard heard_now : List Reading) (before now : Outside) (rig : RigState) where
  abbrev Ends : FlatEnding → Type 0
  Ends ending = EndsFlat first (seen heard before) (seen heard_now now) rig ending

  module _ (bytes : List ℕ) (told : before.source.left ≡ Some bytes) where
    part_of : (ending : FlatEnding) (ends : Ends ending) → IsCut bytes ends.way.taken now.source.left
    part_of ending ends = cut bytes ends.way.taken now.source.left (sym told ∙ ends.bytes)

    whole_by : Ends Done → FlatWhole bytes before now
    whole_by ends =
        let way = ends.way in
        let part = part_of Done ends in
        let captured : capture bytes
        ≡ record { version = way.version; events = way.events; ending = End; rest = part.rest } =
        ap capture part.all ∙ ends.says.says part.rest
        in
        let is : play_of bytes ≡ whole way.replay part.rest = ap play_of part.all ∙ ends.says.plays part.rest in
        record {
          ending = ap (λ (r : Played). r.ending) is;
          left = part.left_is ∙ ap (λ (r : Played). Some r.rest) (sym is);
          held = ends.says.held ∙ ap (λ (c : Captured). appended before.out.held (flat_of c)) (sym captured);
          fits = subst (λ (c : Captured). length (flat_of c) ≤ limit) (sym captured) ends.fits;
          is_flat = subst (λ (t : Replay). IsFlatCapture first t (flat_version (capture bytes).version)
              (flat_replay (raised first (capture bytes).version) (capture bytes).events) (flat_of (capture bytes)))
              (ap (λ (r : Played). r.replay) (sym is))
              (subst (λ (c : Captured). IsFlatCapture first way.replay (flat_version c.version)
              (flat_replay (raised first c.version) c.events) (flat_of c)) (sym captured) ends.says.is_flat);
        }

    fault_by : (number : ℕ) (fault : EventFault) → Ends (Faulted number fault) → EndsAsFlat bytes 2
    fault_by number fault ends =
        let way = ends.way in
        let event = ends.says.event in
        let start = raised first way.version in
        let (more, captured) = first_read bytes way.taken now.source.left (part_of (Faulted number fault) ends)
        way.version (way.events ++ event ∷ []) ends.says.says in
        let step : event_step way.replay.state (next_number way.replay.played) event ≡ Err fault =
        ap (λ n. event_step way.replay.state n event) (sym ends.says.number_is) ∙ ends.says.fault_is
        in
        let after : after_event way.replay event ≡ Err fault =
        ap (told_on way.replay event (event_cost way.replay.state event) (event_box_cost way.replay.state event)) step
        in
        let replay : played_events start ((way.events ++ event ∷ []) ++ more.events) more.ending more.rest
        ≡ record {
          replay = way.replay;
          ending = play.Faulted (next_number way.replay.played) fault;
          rest = more.rest;
        } =
        ap (λ events. played_events start events more.ending more.rest)
        (append_assoc way.events (event ∷ []) more.events)
        ∙ ends.follows.replays (event ∷ more.events) more.ending more.rest
        ∙ ap (λ r. go_on r (λ next. played_events next more.events more.ending more.rest) (λ fault. record {
          replay = way.replay;
          ending = play.Faulted (next_number way.replay.played) fault;
          rest = more.rest;
        })) after
        in
        let none : flat_replay way.replay (event ∷ more.events) ≡ [] =
        ap (λ r. flat_events way.replay.state event ++ then_flat r (λ next. flat_replay next more.events)) after
        ∙ append-nil (flat_events way.replay.state event)
        ∙ fault_none way.replay.state (next_number way.replay.played) event fault step
        in
        let file : flat_file start way.version ((way.events ++ event ∷ []) ++ more.events)
        ≡ flat_file start way.version way.events =
        ap (flat_file start way.version) (append_assoc way.events (event ∷ []) more.events)
        ∙ file_on start way.replay way.version way.events way.flat (event ∷ more.events) ends.follows
        ∙ ap (λ xs. written (flat_version way.version) (way.flat ++ xs)) none
        ∙ ap (written (flat_version way.version)) (append-nil way.flat)
        ∙ sym (file_of start way.replay way.version way.events way.flat ends.follows)
        in
        fits_as bytes (going_on way.version (way.events ++ event ∷ []) more) 2 captured
        (subst (λ (xs : List ℕ). length xs ≤ limit) (sym file) ends.fits)
        (ap (λ (r : Played). status_of r.ending) replay)

    long_by : (number : ℕ) → Ends (TooLong number) → EndsAsFlat bytes 2
    long_by number ends =
        let way = ends.way in
        let start = raised first way.version in
        let (more, captured) = first_read bytes way.taken now.source.left (part_of (TooLong number) ends)
        way.version way.events ends.says.last.says in
        let a = ap length (file_on start way.replay way.version way.events way.flat more.events ends.follows) in
        let b = ap length (file_of start way.replay way.version way.events way.flat ends.follows) in
        let c = longer (head_of (flat_version way.version)) way.flat (flat_replay way.replay more.events) in
        let d = ends.says.long in
        let long : limit < length (flat_of (going_on way.version way.events more)) = omega (arith, a, b, c, d) in
        let is_long = subst (λ (c : Captured). limit < length (flat_of c)) (sym captured) long in
        record { long = λ long. refl; fits = λ few. absurd (omega (arith, few, is_long)) }

    stopped_by : (number : ℕ) (stop : Stop) (ends : Ends (Stopped number stop)) (rest : List ℕ)
        → capture bytes ≡ record { version = ends.way.version; events = ends.way.events; ending = stop; rest = rest }
        → EndsAsFlat bytes (status_of_stop stop)
    stopped_by number stop ends rest is =
        let way = ends.way in
        let replay = ap (λ (events : List Event). played_events (raised first way.version) events stop rest)
        (sym (append-nil way.events)) ∙ ends.follows.replays [] stop rest in
        fits_as bytes _ _ is ends.fits (ap (λ (r : Played). status_of r.ending) replay
        ∙ stop_status (next_number way.replay.played) stop ends.says.1)

    complete_by : (ending : FlatEnding) → Ends ending → (flat_status ending ≡ 3 → ⊥) → (flat_status ending ≡ 4 → ⊥)
        → EndsAsFlat bytes (flat_status ending)
    complete_by Done ends read write =
        let is = whole_by ends in fits_as bytes (capture bytes) 0 refl is.fits (ap status_of is.ending)
    complete_by (Faulted number fault) ends read write = fault_by number fault ends
    complete_by (TooLong number) ends read write = long_by number ends
    complete_by (WriteFailed number) ends read write = absurd (write refl)
    complete_by (Stopped number (ReadFault byte)) ends read write = absurd (read refl)
    complete_by (Stopped number stop) ends read write =
        let found = stop_read bytes ends.way.taken now.source.left (part_of (Stopped number stop) ends)
        (said_of ends.way) stop
        (λ is. is) ends.says.0.says in
        stopped_by number stop ends found.0 found.1

  pub flat_runs : (ending : FlatEnding) → Says before.err now.err (flat_text ending heard_now)
      → (flat_status ending ≡ 0 → now.err ≡ before.err) → Ends ending → IsEnding ending
      → (MayReadFault ending → HasFailedToRead before.source now.source)
      → (MayWriteFault ending → HasFailed before.out now.out)
      → CommandRun Flat heard before now (flat_status ending)
  flat_runs ending says silent ends known read_cause write_cause =
      let cause = flat_cause ending in
      answers Flat heard before now (flat_status ending) cause silent (record {
        ends = inr (record {
          ending = ending;
          rig = rig;
          told = heard_now;
          ends = ends;
          known = known;
          status_is = refl;
          says = says;
        });
        whole = λ zero. if_told before.source.left _
            (λ bytes told. whole_by bytes told (subst Ends (cause.done zero) ends));
        starved = λ three. read_cause (cause.read three);
        cut = λ four. write_cause (cause.write four);
        complete = λ fine full. inr (if_told before.source.left _ (λ bytes told. complete_by bytes told ending ends
            (λ three. fine (read_cause (cause.read three))) (λ four. full (write_cause (cause.write four)))));
      })
