use Rattle.std.proofs.Common.{◌<◌, ◌∷◌, ◌++◌, [], ◌+◌, Err, refl, arith}
use Rattle.std.proofs.lemmas.Result.{IfErr-weaker}
use Rattle.gpu_capture.specs.Words.{word_events}
use Rattle.event_loop.proofs.Awaiting.{awaits_is, goes_on, left_less, pauses_on, pauses_wait, reads, some_events}
use Rattle.event_loop.proofs.Awaiting.{starts}
use Rattle.event_loop.proofs.Blocks.{words_lack, words_on}
use Rattle.event_loop.proofs.Ending.{event_ends, pause_ends, reading_ends}
use Rattle.event_loop.proofs.pass.pass_all.Goals as goal

pub events-init : goal.events-init
events-init g c = record {
  awaits = λ s b. (
    [],
    c.begin.ensures.stands s b,
    starts _ _ _ _ _ _ _ _ c.new-buffered.ensures c.offset-since.ensures refl c.version-version.ensures.value
        c.next_event-next.result c.next_event-next.ensures.takes c.next_event-next.ensures.gives.version
        (c.next_event-next.ensures.stop c.requires),
  );
  event = c.next_event-next.ensures.gives.event;
  ready = rw c.new-buffered.ensures c.begin.ensures.ready;
  running = c.next_event-next.ensures.keeps.runs_on;
  read_cause = c.next_event-next.ensures.cause c.requires;
  read_faults = c.next_event-next.ensures.faults;
  write_faults = omega arith;
  same = c.begin.ensures.same;
}

pub take-requires-clause-event : goal.take-requires-clause-event
take-requires-clause-event g c = rw c.in-Ok.is at c.events.invariant.event

pub returns-in-Err-take-clause-ends : goal.returns-in-Err-take-clause-ends
returns-in-Err-take-clause-ends g c = λ s b.
    let at = c.events.invariant.awaits s b in
    let awaits = awaits_is _ _ _ _ _ _ _ _ _ c.in-Ok.is at.2 in (
      c.version-version.result,
      event_ends _ _ _ _ _ _ _ _ c.in-Ok.event awaits c.in-Err-take.halt (g.K.Sink.held c.take.new.out)
          (g.K.Sink.held c.end_after.new.out) c.take.new.buffered c.end_after.result
          (c.in-Err-take.ensures.halts s c.version-version.result at.0 at.1) c.end_after.ensures.ends,
    )

pub returns-in-Err-write_at_pause-clause-ends : goal.returns-in-Err-write_at_pause-clause-ends
returns-in-Err-write_at_pause-clause-ends g c = λ s b.
    let at = c.events.invariant.awaits s b in
    let awaits = awaits_is _ _ _ _ _ _ _ _ _ c.in-Ok.is at.2 in
    let on = goes_on _ _ _ _ _ _ _ c.in-Ok.event awaits (g.K.Sink.held c.take.new.out) c.take.new.buffered
    (c.in-Ok-take.ensures.put s c.version-version.result at.0 at.1)
    (c.in-Ok-take.ensures.near s c.version-version.result at.0 at.1)
    (c.in-Ok-take.ensures.knows s c.version-version.result at.0 at.1) in (
      c.version-version.result,
      pause_ends _ _ _ _ _ _ _ _ on (g.K.Sink.held c.write_at_pause.new.out) c.in-Err-write_at_pause.event
          c.in-Err-write_at_pause.ensures.failed
          (c.in-Ok-take.ensures.stands s c.version-version.result at.0 at.1),
    )

pub returns-in-Err-clause-ends : goal.returns-in-Err-clause-ends
returns-in-Err-clause-ends g c = λ s b.
    let at = c.events.invariant.awaits s b in
    let awaits = awaits_is _ _ _ _ _ _ _ _ _ c.in-Err.is at.2 in (
      c.version-version.result,
      reading_ends _ _ _ _ _ c.events.since c.events.reader.progress _ c.in-Err.stop awaits _ refl
          (g.K.Sink.held c.end_reading-in-Err.new.out) c.end_reading-in-Err.result
          (c.end_reading-in-Err.ensures.ends s c.version-version.result at.0 at.1),
    )

pub returns-in-Err-take_words-clause-ends : goal.returns-in-Err-take_words-clause-ends
returns-in-Err-take_words-clause-ends g c = λ s b.
    let version = c.version-version.result in
    let at = c.events.invariant.awaits s b in
    let awaits = awaits_is _ _ _ _ _ _ _ _ _ c.in-Ok.is at.2 in
    let on = goes_on _ _ _ _ _ _ _ c.in-Ok.event awaits (g.K.Sink.held c.take.new.out) c.take.new.buffered
    (c.in-Ok-take.ensures.put s version at.0 at.1) (c.in-Ok-take.ensures.near s version at.0 at.1)
    (c.in-Ok-take.ensures.knows s version at.0 at.1) in
    let stands = c.in-Ok-take.ensures.stands s version at.0 at.1 in
    let some = some_events at.0 c.in-Ok.event in
    let paused = pauses_on _ _ _ _ _ _ c.in-Ok-write_at_pause.offset _ _ (g.K.Sink.held c.write_at_pause.new.out) on
    c.in-Ok-write_at_pause.ensures.ok in
    let read = c.words-read.ensures in
    let few = read.few in
    let lacks = rw c.as_slice.ensures at (c.in-Err-take_words.ensures.lacks s version _ stands some) in (
      version,
      words_lack _ _ _ _ _ c.in-Ok-write_at_pause.offset _ _ _ _ _ paused.on c.words-read.result read.takes read.stop
          read.goes_on.version (omega (arith, few, c.words_at_once-most.ensures.near))
          (rw c.as_slice.ensures at (c.take_words.ensures.knows s version _ stands some))
          (g.K.Sink.held c.take_words.new.out) c.in-Err-take_words.event lacks.0 lacks.1
          (rw c.as_slice.ensures at (c.take_words.ensures.stands s version _ stands some)),
    )

pub returns-in-Err-read-clause-same : goal.returns-in-Err-read-clause-same
returns-in-Err-read-clause-same g c =
    let on = g.met.P.Passage.same_on in
    on _ _ _ (on _ _ _ (on _ _ _ c.events.invariant.same c.in-Ok-take.ensures.same) c.take_words.ensures.same)
    c.end_reading.ensures.same

pub returns-in-Err-write_at_pause-2-clause-same : goal.returns-in-Err-write_at_pause-2-clause-same
returns-in-Err-write_at_pause-2-clause-same g c =
    let on = g.met.P.Passage.same_on in
    on _ _ _ (on _ _ _ c.events.invariant.same c.in-Ok-take.ensures.same) c.take_words.ensures.same

pub events-smaller : goal.events-smaller
events-smaller g c =
    left_less _ _ _ _ c.next_event-next-in-Ok.result c.in-Ok.event c.in-Ok.is c.in_default-read.ensures.goes_on.forward
    c.next_event-next-in-Ok.ensures.gives.forward

pub returns-in-Err-read-clause-ends : goal.returns-in-Err-read-clause-ends
returns-in-Err-read-clause-ends g c = λ s b.
    let version = c.version-version.result in
    let at = c.events.invariant.awaits s b in
    let awaits = awaits_is _ _ _ _ _ _ _ _ _ c.in-Ok.is at.2 in
    let on = goes_on _ _ _ _ _ _ _ c.in-Ok.event awaits (g.K.Sink.held c.take.new.out) c.take.new.buffered
    (c.in-Ok-take.ensures.put s version at.0 at.1) (c.in-Ok-take.ensures.near s version at.0 at.1)
    (c.in-Ok-take.ensures.knows s version at.0 at.1) in
    let stood = c.in-Ok-take.ensures.stands s version at.0 at.1 in
    let some = some_events at.0 c.in-Ok.event in
    let paused = pauses_on _ _ _ _ _ _ c.in-Ok-write_at_pause.offset _ _ (g.K.Sink.held c.write_at_pause.new.out) on
    c.in-Ok-write_at_pause.ensures.ok in
    let read = c.words-read.ensures in
    let few = read.few in
    let stops = c.in-Err-read.ensures.stop in
    let near : c.words-read.new.self.progress.offset < c.in-Ok-write_at_pause.offset + 4096 =
    omega (arith, few, c.words_at_once-most.ensures.near) in
    let went = words_on _ _ _ _ _ _ _ _ _ _ paused.on stops.takes read.goes_on.version near
    (rw c.as_slice.ensures at (c.take_words.ensures.knows s version _ stood some))
    (g.K.Sink.held c.take_words.new.out) c.take_words.new.buffered
    (rw c.as_slice.ensures at (c.in_default.ensures.put s version _ stood some))
    (c.in_default.ensures.near s version _ stood some) in
    let stands = rw c.as_slice.ensures at (c.take_words.ensures.stands s version _ stood some) in (
      version,
      reading_ends _ _ _ _ _ c.in-Ok-write_at_pause.offset c.words-read.new.self.progress _ c.in-Err-read.stop
          (reads _ _ _ _ _ _ c.words-read.new.self.progress _ _ went near (Err c.in-Err-read.stop) tt tt stops.stops)
          _ refl
          (g.K.Sink.held c.end_reading.new.out) c.end_reading.result
          (c.end_reading.ensures.ends s version _ stands),
    )

pub returns-in-Err-write_at_pause-2-clause-ends : goal.returns-in-Err-write_at_pause-2-clause-ends
returns-in-Err-write_at_pause-2-clause-ends g c = λ s b.
    let version = c.version-version.result in
    let at = c.events.invariant.awaits s b in
    let awaits = awaits_is _ _ _ _ _ _ _ _ _ c.in-Ok.is at.2 in
    let on = goes_on _ _ _ _ _ _ _ c.in-Ok.event awaits (g.K.Sink.held c.take.new.out) c.take.new.buffered
    (c.in-Ok-take.ensures.put s version at.0 at.1) (c.in-Ok-take.ensures.near s version at.0 at.1)
    (c.in-Ok-take.ensures.knows s version at.0 at.1) in
    let stood = c.in-Ok-take.ensures.stands s version at.0 at.1 in
    let some = some_events at.0 c.in-Ok.event in
    let paused = pauses_on _ _ _ _ _ _ c.in-Ok-write_at_pause.offset _ _ (g.K.Sink.held c.write_at_pause.new.out) on
    c.in-Ok-write_at_pause.ensures.ok in
    let read = c.words-read.ensures in
    let few = read.few in
    let went = words_on _ _ _ _ _ _ _ _ _ _ paused.on c.in_default-read.ensures.takes read.goes_on.version
    (omega (arith, few, c.words_at_once-most.ensures.near))
    (rw c.as_slice.ensures at (c.take_words.ensures.knows s version _ stood some))
    (g.K.Sink.held c.take_words.new.out) c.take_words.new.buffered
    (rw c.as_slice.ensures at (c.in_default.ensures.put s version _ stood some))
    (c.in_default.ensures.near s version _ stood some) in (
      version,
      pause_ends _ _ _ _ _ _ _ _ went (g.K.Sink.held c.write_at_pause-in-Ok.new.out) c.in-Err-write_at_pause-2.event
          c.in-Err-write_at_pause-2.ensures.failed
          (rw c.as_slice.ensures at (c.take_words.ensures.stands s version _ stood some)),
    )

pub events-preserved : goal.events-preserved
events-preserved g c =
    let running = c.in_default-read.ensures.keeps.runs_on in
    record {
      awaits = λ s b.
          let version = c.version-version.result in
          let at = c.events.invariant.awaits s b in
          let awaits = awaits_is _ _ _ _ _ _ _ _ _ c.in-Ok.is at.2 in
          let on = goes_on _ _ _ _ _ _ _ c.in-Ok.event awaits (g.K.Sink.held c.take.new.out) c.take.new.buffered
          (c.in-Ok-take.ensures.put s version at.0 at.1) (c.in-Ok-take.ensures.near s version at.0 at.1)
          (c.in-Ok-take.ensures.knows s version at.0 at.1) in
          let stood = c.in-Ok-take.ensures.stands s version at.0 at.1 in
          let some = some_events at.0 c.in-Ok.event in
          let paused = pauses_on _ _ _ _ _ _ c.in-Ok-write_at_pause.offset _ _
          (g.K.Sink.held c.write_at_pause.new.out) on c.in-Ok-write_at_pause.ensures.ok in
          let read = c.words-read.ensures in
          let few = read.few in
          let went = words_on _ _ _ _ _ _ _ _ _ _ paused.on c.in_default-read.ensures.takes read.goes_on.version
          (omega (arith, few, c.words_at_once-most.ensures.near))
          (rw c.as_slice.ensures at (c.take_words.ensures.knows s version _ stood some))
          (g.K.Sink.held c.take_words.new.out) c.take_words.new.buffered
          (rw c.as_slice.ensures at (c.in_default.ensures.put s version _ stood some))
          (c.in_default.ensures.near s version _ stood some) in
          let again = pauses_on _ _ _ _ _ _ c.in-Ok-write_at_pause-2.offset _ _
          (g.K.Sink.held c.write_at_pause-in-Ok.new.out) went c.in-Ok-write_at_pause-2.ensures.ok in (
            (at.0 ++ c.in-Ok.event ∷ []) ++ word_events c.words-read.new.block,
            rw c.as_slice.ensures at (c.take_words.ensures.stands s version _ stood some),
            reads _ _ _ _ _ _ _ _ _ again.on again.near c.next_event-next-in-Ok.result
                c.next_event-next-in-Ok.ensures.takes c.next_event-next-in-Ok.ensures.gives.version
                (c.next_event-next-in-Ok.ensures.stop running),
          );
      event = c.next_event-next-in-Ok.ensures.gives.event;
      ready = pauses_wait (g.P.Passage.ready c.take_words.new.self) _ _ c.in-Ok-write_at_pause-2.offset _ _
          c.in-Ok-write_at_pause-2.ensures.ok c.in_default.ensures.ready
          (g.met.P.Passage.ready_after _ _ c.in_default.ensures.ready);
      running = c.next_event-next-in-Ok.ensures.keeps.runs_on;
      read_cause = IfErr-weaker c.next_event-next-in-Ok.result _ _
          (λ stop may fault.
          omega (arith, may fault, c.events.invariant.read_faults, c.words-read.ensures.faults.kept))
          (c.next_event-next-in-Ok.ensures.cause running);
      read_faults = omega (
        arith,
        c.events.invariant.read_faults,
        c.words-read.ensures.faults.kept,
        c.next_event-next-in-Ok.ensures.faults,
      );
      write_faults = omega (
        arith,
        c.events.invariant.write_faults,
        c.in-Ok-take.ensures.causes.kept,
        c.in-Ok-write_at_pause.ensures.causes.kept,
        c.take_words.ensures.causes.kept,
        c.in-Ok-write_at_pause-2.ensures.causes.kept,
      );
      same = let on = g.met.P.Passage.same_on in
          on _ _ _ (on _ _ _ c.events.invariant.same c.in-Ok-take.ensures.same) c.take_words.ensures.same;
    }

pub words_at_once-most-requires-clause-ready : goal.words_at_once-most-requires-clause-ready
words_at_once-most-requires-clause-ready g c = g.met.P.Passage.ready_after _ _ c.in-Ok-take.ensures.ready
