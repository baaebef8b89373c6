-- The end of a capture without dead drawing when the reader stops.
use Rattle.std.proofs.Common.{◌≡◌, ◌≤◌, inl, inr, ◌+◌, ◌++◌, ℕ, List, [], Option}
use Rattle.std.proofs.Common.{Err, length, refl, ap, sym, ◌∙◌, subst, arith, take}
use Rattle.std.proofs.Common.{◌-◌}
use Rattle.dev_io.specs.Device.{appended, Rose}
use Rattle.dev_io.proofs.Parts.{taken_on}
use Rattle.gpu_capture.specs.Capture.{capture}
use Rattle.gpu_capture.specs.Reader.{StopsAt, IsReadFault}
use Rattle.gpu_capture.specs.Reader.{reader_input}
use Rattle.gpu_capture.specs.declared.event.Event.{Event}
use Rattle.gpu_capture.specs.declared.event.Stop.{Stop}
use Rattle.gpu_capture.specs.declared.event.Stop.TheVariants.{End}
use Rattle.gpu_capture.specs.declared.progress.Progress.{Progress}
use Rattle.event_play.specs.Ends.{IsNotEnd}
use Rattle.event_loop.specs.Pausing.{most_after}
use Rattle.dead_drawing.specs.Laws.{height_for}
use Rattle.dead_drawing.specs.Slim.{slim_events}
use Rattle.gpu_capture.specs.Reading.{AreFewAfter}
use Rattle.gpu_capture.proofs.Needed.{needed_end, stop_says}
use Rattle.capture_slim.specs.Came.{EndsStop, FailsAny, FailsLast}
use Rattle.capture_slim.specs.File.{LacksFrom, begun}
use Rattle.capture_slim.specs.Passing.{Streams, streams, Way, StopsAfter, SaysEnding, said_of}
use Rattle.capture_slim.specs.Passing.{EndsSlim, Passed, WritesAll}
use Rattle.capture_slim.specs.Window.{Window}
use Rattle.capture_slim.specs.declared.ending.SlimEnding.{SlimEnding}
use Rattle.capture_slim.specs.declared.ending.SlimEnding.TheVariants.{Done, Stopped, NotFlat, TooLong, WriteFailed}
use Rattle.gpu_capture.specs.declared.draft.Draft.{Draft}
use Rattle.capture_slim.proofs.Files.{written_most}
use Rattle.capture_slim.proofs.Late.{few_later}
use Rattle.capture_slim.proofs.ReadAgain.{is_slim}
use Rattle.capture_slim.proofs.TooMuch.{is_too_long}
use Rattle.capture_slim.proofs.Awaiting.{Awaits, named_by_end}

module _ (version : ℕ) (before now : Streams) (window : Window) (draft : Draft) (count since : ℕ) (new : Progress)
    (stop : Stop)
    (at : Awaits version before now window draft count since new (Err stop)) (most : version ≤ 3)
    (cause : IsReadFault stop → Rose before.faults now.faults) where
  stops : StopsAt (reader_input at.old at.left) (reader_input new now.left) stop
  stops = at.answer

  -- these events, of a capture of this version
  abbrev passed_as : (version : ℕ) → List Event → Passed
  passed_as version events = record { version = version; events = events; base = before.held }

  abbrev way : Way
  way = record { version = new.version; taken = at.taken ++ at.answer.taken; events = at.events }

  stops_after : (held : Option (List ℕ)) → StopsAfter way stop before (streams now.left now.faults held)
  stops_after held = record {
    says = stop_says capture at.old (said_of way) at.taken at.answer.taken now.left stop at.says at.answer.says;
    needed = needed_end capture at.old at.events at.taken at.answer.taken at.says at.needed at.answer.needed;
    cause = cause;
  }

  -- it stops with End
  ends_after : (held : Option (List ℕ)) → stop ≡ End → StopsAfter way End before (streams now.left now.faults held)
  ends_after held is =
      let P : Stop → Type 0 = λ s. StopsAfter way s before (streams now.left now.faults held) in
      subst P is (stops_after held)

  end_named : stop ≡ End → 1 ≤ new.version
  end_named is =
      named_by_end (way.taken ++ []) new.version at.events [] ((ends_after now.held is).says [])

  few_stop : (number : ℕ) → at.least ≤ number → number + 4096 ≤ length at.events
      → AreFewAfter capture (take (number + 4096) at.events) way.taken most_after
  few_stop number from most = few_later at.old at.events at.taken at.answer.taken at.least since (number + 4096) at.last
      at.reading at.says at.near at.answer.needed (omega (arith, from)) most

  stop_is : (held : Option (List ℕ)) (ending : SlimEnding) → EndsStop (passed_as new.version at.events) stop held ending
      → LacksFrom at.least ending → EndsSlim before (streams now.left now.faults held) ending
  stop_is held ending ends from = record {
    way = way;
    bytes = taken_on before.left at.left now.left at.taken at.answer.taken at.bytes at.answer.bytes;
    ports = at.came.ports;
    says = by_ending ending ends from;
  }
    where
      by_ending : (ending : SlimEnding) → EndsStop (passed_as new.version at.events) stop held ending
          → LacksFrom at.least ending → SaysEnding way before (streams now.left now.faults held) ending
      by_ending Done ends from =
          let after = ends_after held ends.0 in
          record {
            stops = after;
            held = ends.1;
            fits = ends.2;
            is_slim = is_slim new.version way.taken at.events (end_named ends.0) (omega (arith, most, at.same))
                after.says at.came.ports at.came.words ends.2;
          }
      by_ending (Stopped number told) ends from =
          let P : Stop → Type 0 = λ s. StopsAfter way s before (streams now.left now.faults held) in
          let Q : Stop → Type 0 = λ s. IsNotEnd s in
          (ends.2, subst P (sym ends.0) (stops_after held), subst Q (sym ends.0) ends.1)
      by_ending (TooLong number) fails from = (
        record { due = inr (fails.last, inl (stop, stops_after held)); fails = fails.fails },
        is_too_long way before held number number fails.fails,
      )
      by_ending (WriteFailed number) ends from =
          elim ends [
            | inl fails ↦ inl (record {
              due = inr (fails.some, inl (stop, stops_after held));
              few = few_stop number from;
              fails = fails.fails;
            })
            | inr u ↦ inr (record { stops = ends_after held u.0; writes = u.1 })
          ]
      by_ending (NotFlat number) ends from = absurd ends

  slim_none : (height : ℕ) → slim_events height [] ≡ []
  unfolding slim_events
  slim_none height = refl

  -- nothing was written of no events, whatever the version
  none_all : (number : ℕ) (held : Option (List ℕ)) → WritesAll (passed_as version []) held number
      → WritesAll (passed_as new.version []) held number
  none_all number held all = record {
    number_is = all.number_is;
    stands = all.stands
        ∙ ap (λ (es : List Event). appended before.held (begun version es)) (slim_none (height_for version))
        ∙ ap (λ (es : List Event). appended before.held (begun new.version es))
        (sym (slim_none (height_for new.version)));
    fits = rw (slim_none (height_for new.version)) (written_most new.version [] (omega arith));
  }

  pub stop_end : (held : Option (List ℕ)) (ending : SlimEnding)
      → EndsStop (passed_as version at.events) stop held ending → LacksFrom at.least ending
      → EndsSlim before (streams now.left now.faults held) ending
  stop_end held ending ends from = elim at.named
      [ inl none ↦ unnamed ending none ends from | inr some ↦ named_end some ending ends from ]
    where
      named_end : 1 ≤ new.version → (ending : SlimEnding) → EndsStop (passed_as version at.events) stop held ending
          → LacksFrom at.least ending → EndsSlim before (streams now.left now.faults held) ending
      named_end some ending ends from =
          let same : version ≡ new.version = omega (arith, at.same, some) in
          let P : ℕ → Type 0 = λ v. EndsStop (passed_as v at.events) stop held ending in
          stop_is held ending (subst P same ends) from

      unnamed : (ending : SlimEnding) → at.events ≡ [] → EndsStop (passed_as version at.events) stop held ending
          → LacksFrom at.least ending → EndsSlim before (streams now.left now.faults held) ending
      unnamed Done none ends from = named_end (end_named ends.0) Done ends from
      unnamed (Stopped number told) none ends from =
          let P : List Event → Type 0 = λ es. WritesAll (passed_as version es) held number in
          let Q : List Event → Type 0 = λ es. WritesAll (passed_as new.version es) held number in
          stop_is held (Stopped number told)
          (ends.0, ends.1, subst Q (sym none) (none_all number held (subst P none ends.2))) from
      unnamed (TooLong number) none fails from =
          let P : List Event → Type 0 = λ es. FailsLast (passed_as version es) held number (TooLong number) in
          let last = subst P none fails in
          absurd (omega (arith, last.last.some, last.fails.number_is))
      unnamed (WriteFailed number) none ends from =
          let P : List Event → Type 0 = λ es. FailsAny (passed_as version es) held number (WriteFailed number) in
          elim ends [
            | inl fails ↦
                let any = subst P none fails in absurd (omega (arith, any.some, any.fails.number_is))
            | inr u ↦ named_end (end_named u.0) (WriteFailed number) (inr u) from
          ]
      unnamed (NotFlat number) none ends from = absurd ends
