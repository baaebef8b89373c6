use Rattle.std.proofs.Common.{◌∙◌, refl, map, arith}
use Rattle.std.proofs.lemmas.Result.{IfErr-weaker}
use Rattle.event_play.specs.Replay.{from_state}
use Rattle.event_play.specs.Streams.{buffering, outlets}
use Rattle.event_play.proofs.Awaiting.{awaits_is, event_pauses, pauses_on, reads, starts}
use Rattle.event_play.proofs.BoxCosts.{from_small}
use Rattle.event_play.proofs.Reaching.{flush_ends}
use Rattle.event_play.proofs.Stopping.{pause_ends, reading_ends}
use Rattle.event_loop.proofs.Awaiting.{left_less}
use Rattle.event_play.proofs.Together.{read_ends, read_stops, read_went}
use Rattle.event_play.proofs.rig.Rig.play_rest.Goals as goal

pub events-init : goal.events-init
events-init g c = record {
  awaits = λ s e.
      starts _ s c.args.self.now.played _ _ _ _ _ _ _ _ _ _ c.requires.empty c.offset-since.ensures
      (rw c.version.ensures.value at c.raise.ensures (from_state s c.args.self.now.played)
      (record { state = e; played = refl }))
      c.next_event-next.result c.next_event-next.ensures.takes c.next_event-next.ensures.gives.version
      (c.next_event-next.ensures.stop c.requires.stop);
  running = c.next_event-next.ensures.keeps.runs_on;
  known = c.next_event-next.ensures.gives.version;
  read_cause = c.next_event-next.ensures.cause c.requires.stop;
  read_faults = c.next_event-next.ensures.faults;
  write_faults = omega arith;
  reader = refl;
  source = refl;
  same = (refl, refl, refl);
}

pub returns-in-Err-write_before_words-clause-ends : goal.returns-in-Err-write_before_words-clause-ends
returns-in-Err-write_before_words-clause-ends g c = λ s e.
    let awaits = awaits_is _ _ _ _ _ _ _ _ _ _ c.in-Ok.is (c.events.invariant.awaits s e) in
    let mid = buffering c.events.lines.buffered.now (outlets (g.K.Sink.held c.events.lines.out.now)
    (g.K.Sink.faults c.events.lines.out.now) (map g.T.Listener.heard c.events.taps.items) c.events.steps) in
    flush_ends _ _ _ _ mid _ _ _ _ (g.K.Sink.held c.write_before_words.new.lines.out.now)
    c.in-Err-write_before_words.event awaits
    (from_small s c.args.self.now.played c.args.capture.now.reader.now.progress)
    c.in-Err-write_before_words.ensures.failed

pub returns-in-Err-play_read-clause-ends : goal.returns-in-Err-play_read-clause-ends
returns-in-Err-play_read-clause-ends g c = λ s e.
    let mode = c.events.invariant.same.2 ∙ c.in-Ok-write_before_words.ensures.same.2 in
    let awaits = awaits_is _ _ _ _ _ _ _ _ _ _ c.in-Ok.is (c.events.invariant.awaits s e) in
    let started = rw c.in-Ok.is at c.events.invariant.known in
    let paused = event_pauses _ _ _ _ _ _ _ c.in-Ok-write_before_words.offset _ _ _
    (g.K.Sink.held c.write_before_words.new.lines.out.now) awaits started c.in-Ok-write_before_words.ensures.ok in
    let read = c.read-stopped.ensures in
    rw (c.play_ending.ensures, c.next_number.ensures)
    (read_ends _ _ _ _ _ _ _ _ _ _ _ _ c.in-Ok.event paused (rw read.goes_on.version started)
    (λ is. let few = read.few (rw mode at is) in let near = c.in-Ok-write_before_words.ensures.near in
    omega (arith, few, near)) _
    c.read-stopped.new.self c.read-stopped.result c.in-Err-play_read.halt
    (g.K.Sink.held c.end_after-ended.new.out) c.end_after-ended.result (rw (← mode) at read.block)
    (rw (← mode) at c.in-Err-play_read.ensures.plays) read.reads read.stop
    (from_small s c.args.self.now.played c.args.capture.now.reader.now.progress)
    c.end_after-ended.ensures.ends)

pub returns-in-Err-clause-ends : goal.returns-in-Err-clause-ends
returns-in-Err-clause-ends g c = λ s e.
    let awaits = awaits_is _ _ _ _ _ _ _ _ _ _ c.in-Err.is (c.events.invariant.awaits s e) in
    let mid = buffering c.events.lines.buffered.now (outlets (g.K.Sink.held c.events.lines.out.now)
    (g.K.Sink.faults c.events.lines.out.now) (map g.T.Listener.heard c.events.taps.items) c.events.steps) in
    reading_ends _ _ _ _ mid _ _ _ _ c.in-Err.stop awaits
    (from_small s c.args.self.now.played c.args.capture.now.reader.now.progress)
    refl c.end_reading-in-Err.result
    (rw (← c.events.invariant.same.2) at c.end_reading-in-Err.ensures.ends awaits.replay.state.gpu
    awaits.stands.state.gpu)

pub returns-in-Err-stopped-clause-ends : goal.returns-in-Err-stopped-clause-ends
returns-in-Err-stopped-clause-ends g c = λ s e.
    let mode = c.events.invariant.same.2 ∙ c.in-Ok-write_before_words.ensures.same.2 in
    let awaits = awaits_is _ _ _ _ _ _ _ _ _ _ c.in-Ok.is (c.events.invariant.awaits s e) in
    let started = rw c.in-Ok.is at c.events.invariant.known in
    let paused = event_pauses _ _ _ _ _ _ _ c.in-Ok-write_before_words.offset _ _ _
    (g.K.Sink.held c.write_before_words.new.lines.out.now) awaits started c.in-Ok-write_before_words.ensures.ok in
    let read = c.read-stopped.ensures in
    let stopped = read_stops _ _ _ _ _ _ _ _ _ _ _ _ c.in-Ok.event paused (rw read.goes_on.version started)
    (λ is. let few = read.few (rw mode at is) in let near = c.in-Ok-write_before_words.ensures.near in
    omega (arith, few, near))
    c.read-stopped.new.self c.in_default.field-0 c.in-Err-stopped.stop (rw (← mode) at read.block)
    (rw (← mode) at c.in_default.ensures.plays) c.in-Err-stopped.ensures.stop in
    let mid = buffering c.play_read.new.lines.buffered.now (outlets (g.K.Sink.held c.play_read.new.lines.out.now)
    (g.K.Sink.faults c.play_read.new.lines.out.now) (map g.T.Listener.heard c.play_read.new.taps.items)
    c.play_read.new.steps) in
    reading_ends _ _ _ _ mid _ _ _ _ c.in-Err-stopped.stop stopped
    (from_small s c.args.self.now.played c.args.capture.now.reader.now.progress)
    refl c.end_reading.result
    (rw (← (mode ∙ c.play_read.ensures.same.2)) at c.end_reading.ensures.ends stopped.replay.state.gpu
    stopped.stands.state.gpu)

pub returns-in-Err-write_before_event-clause-ends : goal.returns-in-Err-write_before_event-clause-ends
returns-in-Err-write_before_event-clause-ends g c = λ s e.
    let mode = c.events.invariant.same.2 ∙ c.in-Ok-write_before_words.ensures.same.2 in
    let awaits = awaits_is _ _ _ _ _ _ _ _ _ _ c.in-Ok.is (c.events.invariant.awaits s e) in
    let started = rw c.in-Ok.is at c.events.invariant.known in
    let paused = event_pauses _ _ _ _ _ _ _ c.in-Ok-write_before_words.offset _ _ _
    (g.K.Sink.held c.write_before_words.new.lines.out.now) awaits started c.in-Ok-write_before_words.ensures.ok in
    let read = c.read-stopped.ensures in
    pause_ends _ _ _ _ _ _ _ _ (g.K.Sink.held c.write_before_event.new.lines.out.now) c.in-Err-write_before_event.event
    (read_went _ _ _ _ _ _ _ _ _ _ _ _ c.in-Ok.event paused (rw read.goes_on.version started)
    (λ is. let few = read.few (rw mode at is) in let near = c.in-Ok-write_before_words.ensures.near in
    omega (arith, few, near))
    c.read-stopped.new.self c.in_default.field-0 (rw (← mode) at read.block)
    (rw (← mode) at c.in_default.ensures.plays) c.in_default-stopped.ensures.reads)
    (from_small s c.args.self.now.played c.args.capture.now.reader.now.progress)
    c.in-Err-write_before_event.ensures.failed

pub returns-in-Err-stopped-clause-reads : goal.returns-in-Err-stopped-clause-reads
returns-in-Err-stopped-clause-reads g c =
    let was = c.events.invariant.read_faults in
    record {
      kept = omega (arith, was, c.read-stopped.ensures.faults.kept);
      cause = λ may. omega (arith, was, c.in-Err-stopped.ensures.faults.cause (c.end_reading.ensures.stopped may));
    }

pub returns-in-Err-stopped-clause-writes : goal.returns-in-Err-stopped-clause-writes
returns-in-Err-stopped-clause-writes g c =
    let was = c.events.invariant.write_faults in
    let played = c.play_read.ensures.causes.kept in
    let paused = c.in-Ok-write_before_words.ensures.causes.kept in
    record {
      kept = omega (arith, was, played, paused, c.end_reading.ensures.causes.kept);
      cause = λ may. omega (arith, was, played, paused, c.end_reading.ensures.causes.cause may);
    }

pub returns-in-Err-write_before_event-clause-writes : goal.returns-in-Err-write_before_event-clause-writes
returns-in-Err-write_before_event-clause-writes g c =
    let was = c.events.invariant.write_faults in
    let played = c.play_read.ensures.causes.kept in
    let paused = c.in-Ok-write_before_words.ensures.causes.kept in
    record {
      kept = omega (arith, was, played, paused, c.in-Err-write_before_event.ensures.causes.kept);
      cause = λ may. omega (arith, was, played, paused, c.in-Err-write_before_event.ensures.causes.cause may);
    }

pub events-smaller : goal.events-smaller
events-smaller g c =
    left_less _ _ _ _ c.next_event-next-in-Ok.result c.in-Ok.event c.in-Ok.is
    c.in_default-stopped.ensures.goes_on.forward c.next_event-next-in-Ok.ensures.gives.forward

pub events-preserved : goal.events-preserved
events-preserved g c =
    record {
      awaits = λ s e.
          let mode = c.events.invariant.same.2 ∙ c.in-Ok-write_before_words.ensures.same.2 in
          let awaits = awaits_is _ _ _ _ _ _ _ _ _ _ c.in-Ok.is (c.events.invariant.awaits s e) in
          let started = rw c.in-Ok.is at c.events.invariant.known in
          let paused = event_pauses _ _ _ _ _ _ _ c.in-Ok-write_before_words.offset _ _ _
          (g.K.Sink.held c.write_before_words.new.lines.out.now) awaits started c.in-Ok-write_before_words.ensures.ok in
          let read = c.read-stopped.ensures in
          let went = read_went _ _ _ _ _ _ _ _ _ _ _ _ c.in-Ok.event paused (rw read.goes_on.version started)
          (λ is. let few = read.few (rw mode at is) in let near = c.in-Ok-write_before_words.ensures.near in
          omega (arith, few, near))
          c.read-stopped.new.self c.in_default.field-0 (rw (← mode) at read.block)
          (rw (← mode) at c.in_default.ensures.plays) c.in_default-stopped.ensures.reads in
          let again = pauses_on _ _ _ _ _ _ _ c.in-Ok-write_before_event.offset _ _
          (g.K.Sink.held c.write_before_event.new.lines.out.now)
          went (rw read.goes_on.version started) c.in-Ok-write_before_event.ensures.ok in
          reads _ _ _ _ _ _ _ _ _ _ again.reached (rw read.goes_on.version started) again.near
          c.next_event-next-in-Ok.result c.next_event-next-in-Ok.ensures.takes
          (c.next_event-next-in-Ok.ensures.stop c.in_default-stopped.ensures.runs_on);
      running = c.next_event-next-in-Ok.ensures.keeps.runs_on;
      known = c.next_event-next-in-Ok.ensures.gives.version;
      read_cause = IfErr-weaker c.next_event-next-in-Ok.result _ _
          (λ stop may fault.
          omega (arith, may fault, c.events.invariant.read_faults, c.read-stopped.ensures.faults.kept))
          (c.next_event-next-in-Ok.ensures.cause c.in_default-stopped.ensures.runs_on);
      read_faults = omega (
        arith,
        c.events.invariant.read_faults,
        c.read-stopped.ensures.faults.kept,
        c.next_event-next-in-Ok.ensures.faults,
      );
      write_faults = omega (
        arith,
        c.events.invariant.write_faults,
        c.play_read.ensures.causes.kept,
        c.in-Ok-write_before_words.ensures.causes.kept,
        c.in-Ok-write_before_event.ensures.causes.kept,
      );
      reader = c.events.invariant.reader;
      source = c.events.invariant.source;
      same =
          let was = c.events.invariant.same in
          let paused = c.in-Ok-write_before_words.ensures.same in
          let played = c.play_read.ensures.same in
          let again = c.in-Ok-write_before_event.ensures.same in (
            was.0 ∙ paused.0 ∙ played.0 ∙ again.0,
            was.1 ∙ paused.1 ∙ played.1 ∙ again.1,
            was.2 ∙ paused.2 ∙ played.2 ∙ again.2,
          );
    }
