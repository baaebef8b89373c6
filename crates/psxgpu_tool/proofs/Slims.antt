-- The result of writing a capture without dead drawing.
use Rattle.std.proofs.Common.{◌≡◌, ◌≤◌, ◌<◌, inl, inr, ℕ, ◌++◌, List, [], ◌∷◌, Some, length}
use Rattle.std.proofs.Common.{refl, ap, sym, subst, ◌∙◌, arith}
use Rattle.dev_io.specs.Device.{appended}
use Rattle.gpu_capture.specs.Capture.{Captured, capture, limit}
use Rattle.gpu_capture.specs.declared.event.Event.{Event}
use Rattle.gpu_capture.specs.declared.event.Stop.TheVariants.{End, ReadFault}
use Rattle.gpu_taps.specs.Tally.{Reading}
use Rattle.event_play.specs.Ports.{IsAtPorts, AreAtPorts}
use Rattle.event_play.specs.Replay.{Replay}
use Rattle.dead_drawing.specs.Laws.{height_for}
use Rattle.dead_drawing.specs.Slim.{slim_events}
use Rattle.event_play.specs.Alike.{IsFlatCapture}
use Rattle.capture_slim.specs.Passing.{EndsSlim, IsEnding, MayReadFault, MayWriteFault, RefusesNext, Way}
use Rattle.capture_slim.specs.Passing.{said_of, streams}
use Rattle.capture_slim.specs.declared.ending.SlimEnding.{SlimEnding}
use Rattle.capture_slim.specs.declared.ending.SlimEnding.TheVariants.{Done, Stopped, NotFlat, TooLong, WriteFailed}
use Rattle.psxgpu_tool.specs.First.{first, play_of}
use Rattle.psxgpu_tool.specs.Line.{slim_status, slim_text}
use Rattle.psxgpu_tool.specs.Outside.{Outside, Says, HasFailed, HasFailedToRead}
use Rattle.psxgpu_tool.specs.Run.{CommandRun}
use Rattle.psxgpu_tool.specs.SlimRun.{slim_of, stop_status, SlimWhole, EndsAsSlim}
use Rattle.command_line.specs.declared.command.Command.TheVariants.{Slim}
use Rattle.psxgpu_tool.proofs.Causes.{HasCause, is_done, is_refused, is_read, is_write, answers, IsCut, cut, if_told}
use Rattle.psxgpu_tool.proofs.Causes.{stop_read, first_read}

slim_cause : (ending : SlimEnding) → HasCause (slim_status ending) (ending ≡ Done) (MayReadFault ending)
    (MayWriteFault ending)
slim_cause Done = is_done refl
slim_cause (Stopped n (ReadFault byte)) = is_read tt
slim_cause (WriteFailed n) = is_write tt
slim_cause other = is_refused

-- an event among those of the ports is one
among : (xs : List Event) (e : Event) (ys : List Event) → AreAtPorts ((xs ++ e ∷ []) ++ ys) → IsAtPorts e
among [] e ys ports = ports.0
among (x ∷ xs) e ys ports = among xs e ys ports.1

-- a complete capture that encodes these events
abbrev whole_of : Way → (rest : List ℕ) → Captured
whole_of way rest = record { version = way.version; events = way.events; ending = End; rest = rest }

-- what was written of a capture is a capture, and replays alike
abbrev IsSlimOf : Replay → Captured → Type 0
IsSlimOf t c = IsFlatCapture first t c.version (slim_events (height_for c.version) c.events) (slim_of c)

module _ (heard : List Reading) (before now : Outside) where
  abbrev Ends : SlimEnding → Type 0
  Ends ending = EndsSlim (streams before.source.left before.source.faults before.out.held)
      (streams now.source.left now.source.faults now.out.held) ending

  module _ (bytes : List ℕ) (told : before.source.left ≡ Some bytes) where
    part_of : (ending : SlimEnding) (ends : Ends ending) → IsCut bytes ends.way.taken now.source.left
    part_of ending ends = cut bytes ends.way.taken now.source.left (sym told ∙ ends.bytes)

    whole_by : Ends Done → SlimWhole bytes before now
    whole_by ends =
        let way = ends.way in
        let part = part_of Done ends in
        let captured : capture bytes ≡ whole_of way part.rest =
        ap capture part.all ∙ ends.says.stops.says part.rest
        in
        record {
          ending = ap (λ (c : Captured). c.ending) captured;
          ports = subst (λ (c : Captured). AreAtPorts c.events) (sym captured) ends.ports;
          left = part.left_is ∙ ap (λ (c : Captured). Some c.rest) (sym captured);
          held = ends.says.held ∙ ap (λ (c : Captured). appended before.out.held (slim_of c)) (sym captured);
          fits = subst (λ (c : Captured). length (slim_of c) ≤ limit) (sym captured) ends.says.fits;
          is_slim = subst (λ (c : Captured). IsSlimOf (play_of bytes).replay c) (sym captured)
              (subst (λ (given : List ℕ). IsSlimOf (play_of given).replay (whole_of way part.rest)) (sym part.all)
              (ends.says.is_slim part.rest));
        }

    -- ---- a refusal

    -- a capture of port events alone that fits is refused as it is read
    refused : (AreAtPorts (capture bytes).events → length (slim_of (capture bytes)) ≤ limit
        → 2 ≡ stop_status (capture bytes).ending) → EndsAsSlim (capture bytes) 2
    refused fits = record { refused = λ refused. refl; long = λ long. refl; fits = fits }

    too_long : (captured : Captured) → capture bytes ≡ captured → limit < length (slim_of captured)
        → EndsAsSlim (capture bytes) 2
    too_long captured is long = refused (λ ports fits.
        let few = subst (λ (c : Captured). length (slim_of c) ≤ limit) is fits in absurd (omega (arith, few, long)))

    -- it is refused at an event that is not at the ports
    stops_next : (way : Way) → IsCut bytes way.taken now.source.left → RefusesNext way → EndsAsSlim (capture bytes) 2
    stops_next way part next = refused (λ ports fits.
        let (more, captured) = first_read bytes way.taken now.source.left part way.version
        (way.events ++ next.event ∷ []) next.says in
        absurd (next.refused (among way.events next.event more.events
        (subst (λ (c : Captured). AreAtPorts c.events) captured ports))))

    long_by : (number : ℕ) → Ends (TooLong number) → (HasFailedToRead before.source now.source → ⊥)
        → EndsAsSlim (capture bytes) 2
    long_by number ends read =
        let way = ends.way in
        let part = part_of (TooLong number) ends in
        elim ends.says.0.due [
          | inl on ↦
              let (more, captured) = first_read bytes way.taken now.source.left part way.version way.events on.says in
              let due = on.number_is in
              too_long _ captured (ends.says.1.stays (omega (arith, due)) more.events)
          | inr last ↦ elim last.1 [
            | inl stops ↦
                let found = stop_read bytes way.taken now.source.left part (said_of way) stops.0
                (λ is. read (stops.1.cause is)) stops.1.says in
                too_long _ found.1 ends.says.1.long
            | inr next ↦ stops_next way part next
          ]
        ]

    complete_by : (ending : SlimEnding) → Ends ending → (HasFailedToRead before.source now.source → ⊥)
        → (slim_status ending ≡ 3 → ⊥) → (slim_status ending ≡ 4 → ⊥)
        → EndsAsSlim (capture bytes) (slim_status ending)
    complete_by Done ends fine read write =
        let is = whole_by ends in
        record {
          refused = λ refused. absurd (refused is.ports);
          long = λ long. let fits = is.fits in absurd (omega (arith, fits, long));
          fits = λ ports fits. ap stop_status (sym is.ending);
        }
    complete_by (NotFlat number) ends fine read write =
        stops_next ends.way (part_of (NotFlat number) ends) ends.says.1
    complete_by (TooLong number) ends fine read write = long_by number ends fine
    complete_by (WriteFailed number) ends fine read write = absurd (write refl)
    complete_by (Stopped number (ReadFault byte)) ends fine read write = absurd (read refl)
    complete_by (Stopped number End) ends fine read write = absurd ends.says.2
    complete_by (Stopped number stop) ends fine read write =
        let found = stop_read bytes ends.way.taken now.source.left (part_of (Stopped number stop) ends)
        (said_of ends.way) stop (λ is. is) ends.says.1.says in
        refused (λ ports fits. ap (λ (c : Captured). stop_status c.ending) (sym found.1))

  pub slim_runs : (ending : SlimEnding) → Says before.err now.err (slim_text ending heard)
      → (slim_status ending ≡ 0 → now.err ≡ before.err) → Ends ending → IsEnding ending
      → (MayReadFault ending → HasFailedToRead before.source now.source)
      → (MayWriteFault ending → HasFailed before.out now.out)
      → now.steps ≡ before.steps → CommandRun Slim heard before now (slim_status ending)
  slim_runs ending says silent ends known read_cause write_cause free =
      let cause = slim_cause ending in
      answers Slim heard before now (slim_status ending) cause silent (record {
        ends = inr (record {
          ending = ending;
          ends = ends;
          known = known;
          status_is = refl;
          says = says;
          complete = λ fine full. if_told before.source.left _ (λ bytes told. complete_by bytes told ending ends fine
              (λ three. fine (read_cause (cause.read three))) (λ four. full (write_cause (cause.write four))));
        });
        whole = λ zero. if_told before.source.left _
            (λ bytes told. whole_by bytes told (subst Ends (cause.done zero) ends));
        starved = λ three. read_cause (cause.read three);
        cut = λ four. write_cause (cause.write four);
        free = free;
      })
