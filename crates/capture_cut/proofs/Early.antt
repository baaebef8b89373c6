-- How cutting ends before the first n events are played.
use Rattle.std.proofs.Common.{◌≡◌, ◌≤◌, ◌<◌, ◌+◌, ◌^◌, ◌++◌, ◌==◌, ℕ, List, [], ◌∷◌, Result, Ok, Err}
use Rattle.std.proofs.Common.{length, refl, ap, sym, subst, ◌∙◌, append-nil, arith, false}
use Rattle.dev_io.specs.Device.{prepended}
use Rattle.dev_io.proofs.Appended.{appended-nil}
use Rattle.gpu_capture.specs.declared.event.Event.{Event}
use Rattle.gpu_capture.specs.declared.event.Stop.{Stop}
use Rattle.gpu_capture.specs.declared.progress.Progress.{Progress}
use Rattle.gpu_taps.specs.Tally.{Reading}
use Rattle.event_play.specs.Replay.{Replay, next_number}
use Rattle.event_play.specs.RigState.{RigState}
use Rattle.event_play.specs.Step.{event_step}
use Rattle.event_play.specs.Streams.{Outlets, Streams, streams, without_sink}
use Rattle.event_play.specs.declared.fault.EventFault.{EventFault}
use Rattle.capture_cut.specs.Came.{EndsAnswer, EndsEarly, IsIdle, HasRead}
use Rattle.capture_cut.specs.Cut.{Way, EndsCut, IsEarly, SaysEnding, StopsAfter, cut_at}
use Rattle.capture_cut.specs.declared.ending.CutEnding.{CutEnding}
use Rattle.capture_cut.specs.declared.ending.CutEnding.TheVariants.{Done, PastEnd, Stopped, Faulted, TooLong}
use Rattle.capture_cut.specs.declared.ending.CutEnding.TheVariants.{WriteFailed}
use Rattle.capture_cut.proofs.Playing.{Awaits}
use Rattle.capture_cut.proofs.Reading.{read_on, reads_to, stops_bytes, stops_after}

not_whole : (k n : ℕ) → k < n → (k == n) ≡ false
not_whole k n lt = grind arith

spent_within : (before now a b more : ℕ) → now ≤ before + a → a ≤ b → now ≤ before + b + more
spent_within before now a b more within small = omega arith

module _ (k n : ℕ) (start : Replay) (version : ℕ) (before now : Streams) (was rig : RigState) (new : Progress)
    (heard : List Reading) (steps : ℕ) (lt : k < n) (few : n < 2 ^ 32) where
  abbrev mid : Outlets
  mid = without_sink now.heard now.steps

  abbrev following : Outlets
  following = without_sink heard steps

  abbrev after : Streams
  after = streams now.left now.held heard steps

  abbrev way : (answer : Result Event Stop) → Awaits k start version before now was new answer → List ℕ → Way
  way answer at taken =
      record { version = version; taken = taken; played = at.events; replay = at.replay; later = [] }

  -- What the reader returned was not played: the rig and the taps are unchanged.
  ends : (answer : Result Event Stop) (at : Awaits k start version before now was new answer) (taken : List ℕ)
      (ending : CutEnding) → IsIdle mid following was rig → before.left ≡ prepended taken now.left
      → SaysEnding n (way answer at taken) before after ending → EndsCut (cut_at n start) before after rig ending
  ends answer at taken ending idle bytes says =
      let same_heard : heard ≡ now.heard = ap (λ (o : Outlets). o.heard) idle.unchanged in
      let same_steps : steps ≤ now.steps = omega (arith, ap (λ (o : Outlets). o.steps) idle.unchanged) in
      let within : steps ≤ before.steps + at.replay.cost = omega (arith, at.cost, same_steps) in
      record {
        way = way answer at taken;
        bytes = bytes;
        order = record { most = omega (arith, at.many, lt); first = λ some. refl };
        plays = at.plays;
        stands = rw (idle.rig_is, same_heard) at.stands;
        says = says;
        cost = omega (arith, within);
        box_cost = spent_within before.steps steps at.replay.cost at.replay.box_cost _ within at.small;
      }

  -- the event after those that were played, of which there are fewer than n
  is_early : (answer : Result Event Stop) (at : Awaits k start version before now was new answer) (taken : List ℕ)
      (number : ℕ) → now.held ≡ before.held → number ≡ next_number at.replay.played
      → IsEarly n (way answer at taken) number before after
  is_early answer at taken number unwritten is = record {
    number_is = omega (arith, is, at.plays.counts, at.many, lt, few);
    few = omega (arith, at.many, lt);
    held = unwritten;
  }

  fault_ends : (event : Event) (at : Awaits k start version before now was new (Ok event)) (number : ℕ)
      (fault : EventFault) → now.held ≡ before.held → number ≡ next_number at.replay.played
      → event_step at.replay.state (next_number at.replay.played) event ≡ Err fault → IsIdle mid following was rig
      → EndsCut (cut_at n start) before after rig (Faulted number fault)
  fault_ends event at number fault unwritten is faults idle =
      let has = read_on before.left at.left now.left at.old new at.taken at.events event at.reads at.answers.0 in
      let taken = at.taken ++ at.answers.0.taken in
      ends (Ok event) at taken (Faulted number fault) idle has.bytes (
        is_early (Ok event) at taken number unwritten is,
        record {
          event = event;
          reads = reads_to before.left now.left new (at.events ++ event ∷ []) (way (Ok event) at taken) has
              at.answers.1 at.same;
          fault_is = rw is faults;
        },
      )

  -- the reader stopped after the events that were played
  stops_way : (stop : Stop) (at : Awaits k start version before now was new (Err stop))
      → StopsAfter (way (Err stop) at (at.taken ++ at.answers.taken)) stop now.left
  stops_way stop at =
      let P : List Event → Type 0 = λ events. HasRead before.left at.left at.old at.taken events in
      stops_after before.left at.left now.left at.old new at.taken stop
      (way (Err stop) at (at.taken ++ at.answers.taken)) (subst P (sym (append-nil at.events)) at.reads) at.answers
      at.same refl

  stop_ends : (stop : Stop) (at : Awaits k start version before now was new (Err stop)) (ending : CutEnding)
      → now.held ≡ before.held → EndsEarly (next_number at.replay.played) stop ending → IsIdle mid following was rig
      → EndsCut (cut_at n start) before after rig ending
  stop_ends stop at (PastEnd number) unwritten end idle =
      let P : Stop → Type 0 = λ s. StopsAfter (way (Err stop) at (at.taken ++ at.answers.taken)) s now.left in
      ends (Err stop) at (at.taken ++ at.answers.taken) (PastEnd number) idle
      (stops_bytes before.left at.left now.left at.old new at.taken at.events stop at.reads at.answers) (
        is_early (Err stop) at (at.taken ++ at.answers.taken) number unwritten end.0,
        subst P end.1 (stops_way stop at),
      )
  stop_ends stop at (Stopped number told) unwritten end idle =
      let Q : Stop → Type 0 = λ stop. EndsCut (cut_at n start) before after rig (Stopped number stop) in
      let none : (length at.events == n) ≡ false = not_whole (length at.events) n (omega (arith, at.many, lt)) in
      subst Q (sym end.1)
      (ends (Err stop) at (at.taken ++ at.answers.taken) (Stopped number stop) idle
      (stops_bytes before.left at.left now.left at.old new at.taken at.events stop at.reads at.answers) (
        record {
          number_is = rw append-nil (omega (arith, end.0, at.plays.counts, at.many, lt, few));
          held = rw none (unwritten ∙ sym (appended-nil before.held));
        },
        stops_way stop at,
        end.2,
      ))
  stop_ends stop at Done unwritten end idle = absurd end
  stop_ends stop at (Faulted number fault) unwritten end idle = absurd end
  stop_ends stop at (TooLong number) unwritten end idle = absurd end
  stop_ends stop at (WriteFailed number) unwritten end idle = absurd end

  pub early_ends : (answer : Result Event Stop) (at : Awaits k start version before now was new answer)
      (ending : CutEnding) → now.held ≡ before.held → EndsAnswer at.replay answer ending → IsIdle mid following was rig
      → EndsCut (cut_at n start) before after rig ending
  early_ends (Ok event) at (Faulted number fault) unwritten end idle =
      fault_ends event at number fault unwritten end.0 end.1 idle
  early_ends (Ok event) at Done unwritten end idle = absurd end
  early_ends (Ok event) at (PastEnd number) unwritten end idle = absurd end
  early_ends (Ok event) at (Stopped number stop) unwritten end idle = absurd end
  early_ends (Ok event) at (TooLong number) unwritten end idle = absurd end
  early_ends (Ok event) at (WriteFailed number) unwritten end idle = absurd end
  early_ends (Err stop) at ending unwritten end idle = stop_ends stop at ending unwritten end idle
