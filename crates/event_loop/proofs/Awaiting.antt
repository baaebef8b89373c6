-- How far a loop over events has come.
use Rattle.std.proofs.Common.{◌≡◌, ◌≤◌, ◌<◌, ◌⊎◌, inl, inr, ℕ, suc, ◌+◌, ◌++◌, List, [], ◌∷◌, Option, Result, Ok, Err}
use Rattle.std.proofs.Common.{OnOk, IfOk, IfErr, refl, ap, sym, subst, ◌∙◌, append_assoc, append-nil, length}
use Rattle.std.proofs.Common.{length-append, arith}
use Rattle.dev_io.specs.Device.{appended, prepended}
use Rattle.dev_io.proofs.Appended.{appended-nil}
use Rattle.dev_io.proofs.Parts.{taken_on}
use Rattle.gathered_out.specs.Pieces.{Piece, bytes_of}
use Rattle.gathered_out.specs.Puts.{Holding, holding}
use Rattle.gathered_out.proofs.Buffers.{Buffers, buffers_more, buffers_none, buffers_written}
use Rattle.gpu_capture.proofs.Taken.{few_between}
use Rattle.gpu_capture.proofs.Versions.{version_from}
use Rattle.gpu_capture.proofs.Needed.{stops_version, takes_version}
use Rattle.gpu_capture.specs.Capture.{then_events}
use Rattle.gpu_capture.specs.Reader.{AreNeeded as ReaderNeeds, Takes, StopsAt, capture_from, reader_input, work_left}
use Rattle.gpu_capture.specs.Reading.{AreNeeded, SaysFirst}
use Rattle.gpu_capture.specs.declared.event.Event.{Event}
use Rattle.gpu_capture.specs.declared.event.Stop.{Stop}
use Rattle.gpu_capture.specs.declared.progress.Progress.{Progress}
use Rattle.event_loop.specs.Due.{pieces}
use Rattle.event_loop.specs.Ending.{Matter, StopsAfter, way_of}
use Rattle.event_loop.specs.Pausing.{Pauses, most_after}
use Rattle.event_loop.specs.Puts.{ArePut}
use Rattle.event_loop.proofs.Due.{bytes_on, buffers_all}
use Rattle.event_loop.proofs.Lacking.{MayLie, MayWait, WasDue, due_here, due_lies, due_more, due_on}
use Rattle.gpu_capture.proofs.Needed.{ReadsOn, needed_end, needed_end_first, needed_first, needed_on, says_on}
use Rattle.gpu_capture.proofs.Needed.{stop_says}
use Rattle.gpu_capture.proofs.Needed.{stop_says_first}

-- the bytes that are left of the source, and those that the sink holds, if they are known
pub record Ports : Type 0 where
  pub left : Option (List ℕ)
  pub held : Option (List ℕ)

abbrev pub ports : (left held : Option (List ℕ)) → Ports
ports left held = record { left = left; held = held }

-- The first bytes of the source were taken, these events were passed, and exactly their output was put. At the last
-- flush, `flushed` was taken; `after` was taken since. `Says` is what the bytes say.
pub record Reaches (m : Matter) (before now : Ports) (buffered : List Piece) (events : List Event)
    (Says : (taken after : List ℕ) → Type 0) : Type 0 where
  pub taken : List ℕ
  pub bytes : before.left ≡ prepended taken now.left
  pub flushed : List ℕ
  pub after : List ℕ
  pub taken_is : taken ≡ flushed ++ after
  pub says : Says taken after
  pub few : length after ≤ most_after
  pub buffers : Buffers (WasDue m MayWait events flushed taken) before.held (bytes_of (pieces m.due events)) now.held
      buffered

-- these bytes were taken since the reader was at offset `since`
pub record LiesAfter (since : ℕ) (p : Progress) (after : List ℕ) : Type 0 where
  pub at : Progress
  pub known : 1 ≤ at.version
  pub offset : at.offset ≡ since
  pub events : List Event
  pub says : (rest : List ℕ) → capture_from at (after ++ rest) ≡ then_events events (capture_from p rest)

-- they say these events, the reader says what follows, and every byte was needed for that
pub record SaysEvents (m : Matter) (since : ℕ) (p : Progress) (events : List Event) (taken after : List ℕ)
    : Type 0 where
  pub says : ReadsOn m.read p taken events
  pub needed : AreNeeded m.read events taken
  pub known : 1 ≤ p.version
  pub same : p.version ≡ m.version
  pub lies : LiesAfter since p after

-- they say these events, and the stop of the reader after them
pub record SaysEnd (m : Matter) (stop : Stop) (left : Option (List ℕ)) (events : List Event) (taken after : List ℕ)
    : Type 0 where
  pub stops : StopsAfter m (way_of taken events) stop left
  pub says : (events ≡ []) ⊎ SaysFirst m.read m.version taken events

-- the reader has returned an event that is not passed yet, or a stop
abbrev pub SaysNext : Matter → (since : ℕ) → Progress → (left : Option (List ℕ)) → Result Event Stop → List Event
    → (taken after : List ℕ) → Type 0
SaysNext m since p left (Ok event) events taken after = SaysEvents m since p (events ++ event ∷ []) taken after
SaysNext m since p left (Err stop) events taken after = SaysEnd m stop left events taken after

abbrev pub Awaits : Matter → (before now : Ports) → (buffered : List Piece) → (since : ℕ) → Progress
    → Result Event Stop → List Event → Type 0
Awaits m before now buffered since p next events =
    Reaches m before now buffered events (SaysNext m since p now.left next events)

-- the loop continues with a new read
abbrev pub GoesOn : Matter → (before now : Ports) → (buffered : List Piece) → (since : ℕ) → Progress → List Event
    → Type 0
GoesOn m before now buffered since p events = Reaches m before now buffered events (SaysEvents m since p events)

-- a bound on the number of events that are still to be passed
abbrev pub events_left : Progress → Result Event Stop → ℕ
events_left p (Ok event) = suc (work_left p)
events_left p (Err stop) = 0

-- the same for an equal result of the reader
pub awaits_is : (m : Matter) (before now : Ports) (buffered : List Piece) (since : ℕ) (p : Progress)
    (events : List Event) (next other : Result Event Stop) → next ≡ other
    → Awaits m before now buffered since p next events → Awaits m before now buffered since p other events
awaits_is m before now buffered since p events next other is awaits =
    let P : Result Event Stop → Type 0 = λ next. Awaits m before now buffered since p next events in
    subst P is awaits

-- ---- the beginning

module _ (m : Matter) (left left_now held : Option (List ℕ)) (start new : Progress) (buffered : List Piece) (since : ℕ)
    (empty : buffered ≡ []) (offset : since ≡ new.offset) (read_is : m.read ≡ capture_from start)
    (version_is : m.version ≡ new.version) where
  reached : (next : Result Event Stop) (taken : List ℕ) → left ≡ prepended taken left_now
      → SaysNext m since new left_now next [] taken []
      → Awaits m (ports left held) (ports left_now held) buffered since new next []
  reached next taken bytes says = record {
    taken = taken;
    bytes = bytes;
    flushed = taken;
    after = [];
    taken_is = sym (append-nil taken);
    says = says;
    few = omega arith;
    buffers = rw empty
        (buffers_none (WasDue m MayWait [] taken taken) held (bytes_of (pieces m.due [])) held
        (sym (appended-nil held)));
  }

  pub starts : (next : Result Event Stop)
      → IfOk next (λ event. Takes (reader_input start left) (reader_input new left_now) (event ∷ []))
      → OnOk next (1 ≤ new.version)
      → IfErr next (λ stop. StopsAt (reader_input start left) (reader_input new left_now) stop)
      → Awaits m (ports left held) (ports left_now held) buffered since new next []
  starts (Ok event) takes known stops =
      reached (Ok event) takes.taken takes.bytes (record {
        says = rw read_is takes.says;
        needed = rw read_is (needed_first start event takes.taken takes.needed);
        known = known;
        same = sym version_is;
        lies = record { at = new; known = known; offset = sym offset; events = []; says = λ rest. refl };
      })
  starts (Err stop) takes known stops =
      reached (Err stop) stops.taken stops.bytes (record {
        stops = record {
          says = rw (read_is, version_is)
              (stop_says_first start new.version stops.taken left_now stop stops.says);
          needed = rw read_is (needed_end_first start stops.taken stops.needed);
        };
        says = inl refl;
      })

-- ---- the next result of the reader

module _ (m : Matter) (before now : Ports) (buffered : List Piece) (since : ℕ) (old new : Progress)
    (events : List Event) (left : Option (List ℕ)) (on : GoesOn m before now buffered since old events)
    (near : old.offset < since + 4096) where
  few_more : (ys : List ℕ) → ReaderNeeds old ys → length (on.after ++ ys) ≤ most_after
  few_more ys needed =
      let lies = on.says.lies in
      let all = length-append on.after ys in
      let offset = lies.offset in
      let few = few_between lies.at old lies.events on.after ys lies.known on.says.known lies.says
      (omega (arith, near, offset)) needed in
      omega (arith, all, few)

  answered : (next : Result Event Stop) (ys : List ℕ) → now.left ≡ prepended ys left → ReaderNeeds old ys
      → SaysNext m since new left next events (on.taken ++ ys) (on.after ++ ys)
      → Awaits m before (ports left now.held) buffered since new next events
  answered next ys bytes needed says = record {
    taken = on.taken ++ ys;
    bytes = taken_on before.left now.left left on.taken ys on.bytes bytes;
    flushed = on.flushed;
    after = on.after ++ ys;
    taken_is = ap (λ bs. bs ++ ys) on.taken_is ∙ append_assoc on.flushed on.after ys;
    says = says;
    few = few_more ys needed;
    buffers = buffers_more (WasDue m MayWait events on.flushed on.taken)
        (WasDue m MayWait events on.flushed (on.taken ++ ys)) before.held (bytes_of (pieces m.due events)) now.held
        buffered (due_more m events [] events on.flushed on.taken ys (sym (append-nil events))) on.buffers;
  }

  lies_on : (event : Event) (ys : List ℕ)
      → ((rest : List ℕ) → capture_from old (ys ++ rest) ≡ then_events (event ∷ []) (capture_from new rest))
      → LiesAfter since new (on.after ++ ys)
  lies_on event ys says =
      let lies = on.says.lies in
      record {
        at = lies.at;
        known = lies.known;
        offset = lies.offset;
        events = lies.events ++ event ∷ [];
        says = says_on (capture_from lies.at) old new lies.events (event ∷ []) on.after ys lies.says says;
      }

  pub reads : (next : Result Event Stop)
      → IfOk next (λ event. Takes (reader_input old now.left) (reader_input new left) (event ∷ []))
      → OnOk next (1 ≤ new.version)
      → IfErr next (λ stop. StopsAt (reader_input old now.left) (reader_input new left) stop)
      → Awaits m before (ports left now.held) buffered since new next events
  reads (Ok event) takes known stops =
      answered (Ok event) takes.taken takes.bytes takes.needed (record {
        says = says_on m.read old new events (event ∷ []) on.taken takes.taken on.says.says takes.says;
        needed = needed_on m.read old events event on.taken takes.taken on.says.says on.says.needed takes.needed;
        known = known;
        same = sym (takes_version old new now.left left (event ∷ []) takes on.says.known known) ∙ on.says.same;
        lies = lies_on event takes.taken takes.says;
      })
  reads (Err stop) takes known stops =
      let version_is = sym on.says.same ∙ stops_version old new.version stop stops.taken left stops.says
      on.says.known in
      answered (Err stop) stops.taken stops.bytes stops.needed (record {
        stops = record {
          says = stop_says m.read old (record { version = m.version; events = events }) on.taken stops.taken left stop
              on.says.says (rw version_is stops.says);
          needed = needed_end m.read old events on.taken stops.taken on.says.says on.says.needed stops.needed;
        };
        says = inr (λ rest. (
          capture_from old (stops.taken ++ rest),
          ap m.read (append_assoc on.taken stops.taken rest) ∙ on.says.says (stops.taken ++ rest),
          version_from old (stops.taken ++ rest) on.says.known ∙ on.says.same,
        ));
      })

-- ---- a pause

-- the loop continues, and fewer than 4,096 bytes were taken since the last flush
pub record Paused (m : Matter) (before now : Ports) (buffered : List Piece) (since : ℕ) (p : Progress)
    (events : List Event) : Type 0 where
  pub on : GoesOn m before now buffered since p events
  pub near : p.offset < since + 4096

pub pauses_on : (m : Matter) (before now : Ports) (buffered new : List Piece) (since at : ℕ) (p : Progress)
    (events : List Event) (held : Option (List ℕ)) → GoesOn m before now buffered since p events
    → Pauses p.offset since (holding now.held buffered) (holding held new) at
    → Paused m before (ports now.left held) new at p events
pauses_on m before now buffered new since at p events held was (inl on) = record {
  on = rw (on.0, on.2, on.3) was;
  near = let e = on.0 in let lt = on.1 in omega (arith, e, lt);
}
pauses_on m before now buffered new since at p events held was (inr written) =
    let all = bytes_of (pieces m.due events) in
    let e = written.0 in
    record {
      on = record {
        taken = was.taken;
        bytes = was.bytes;
        flushed = was.taken;
        after = [];
        taken_is = sym (append-nil was.taken);
        says = record {
          says = was.says.says;
          needed = was.says.needed;
          known = was.says.known;
          same = was.says.same;
          lies = record { at = p; known = was.says.known; offset = sym e; events = []; says = λ rest. refl };
        };
        few = omega arith;
        buffers = rw written.1
            (buffers_none (WasDue m MayWait events was.taken was.taken) before.held all held
            (buffers_written (WasDue m MayWait events was.flushed was.taken) before.held all now.held held buffered
            was.buffers written.2));
      };
      near = omega (arith, e);
    }

-- ---- an event is passed

-- if nothing is buffered, all output is written
pub held_all : (Due : ℕ → List ℕ → List ℕ → Type 0) (base : Option (List ℕ)) (all : List ℕ) (held : Option (List ℕ))
    (buffered : List Piece) → buffered ≡ [] → Buffers Due base all held buffered → held ≡ appended base all
held_all Due base all held buffered none buffers =
    buffers_written Due base all held held buffered buffers (record {
      stands = λ mid pieces out.
          let are : pieces ≡ out.written = out.are ∙ ap (λ (ps : List Piece). out.written ++ ps) none
          ∙ append-nil out.written in
          out.stands ∙ ap (λ ps. appended mid (bytes_of ps)) (sym are);
    })

module _ (m : Matter) (before now : Ports) (buffered : List Piece) (since : ℕ) (p : Progress) (events : List Event)
    (event : Event) (at : Awaits m before now buffered since p (Ok event) events) where
  -- the output so far, by a weaker bound on the bytes after its events
  pub buffers_on_with : (May : ℕ → List ℕ → Type 0)
      → ((number : ℕ) (was due : List ℕ) → WasDue m MayWait (events ++ event ∷ []) at.flushed at.taken number was due
      → WasDue m May (events ++ event ∷ []) at.flushed at.taken number was due)
      → Buffers (WasDue m May (events ++ event ∷ []) at.flushed at.taken) before.held (bytes_of (pieces m.due events))
      now.held buffered
  buffers_on_with May may =
      buffers_more (WasDue m MayWait events at.flushed at.taken)
      (WasDue m May (events ++ event ∷ []) at.flushed at.taken) before.held (bytes_of (pieces m.due events)) now.held
      buffered
      (λ number was due is. may number was due
      (due_on m events (event ∷ []) at.flushed at.taken number was due is)) at.buffers

  pub goes_on : (held : Option (List ℕ)) (new : List Piece)
      → ArePut (m.due events event) (holding now.held buffered) (holding held new)
      → (new ≡ []) ⊎ (most_after ≤ m.most events event) → m.knows events event
      → GoesOn m before (ports now.left held) new since p (events ++ event ∷ [])
  goes_on held new put may known =
      let all = bytes_of (pieces m.due events) in
      let due = WasDue m MayWait (events ++ event ∷ []) at.flushed at.taken in
      let Q : List ℕ → Type 0 = λ bs. Buffers due before.held bs held new in
      record {
        taken = at.taken;
        bytes = at.bytes;
        flushed = at.flushed;
        after = at.after;
        taken_is = at.taken_is;
        says = at.says;
        few = at.few;
        buffers = subst Q (sym (bytes_on m.due events event)) (elim may [
          | inl none ↦
              let lies = WasDue m MayLie (events ++ event ∷ []) at.flushed at.taken in
              let put_all = buffers_all lies before.held (m.due events event) all (holding now.held buffered)
              (holding held new)
              (due_here m MayLie events event at.flushed at.after at.taken at.taken_is at.says.needed (inl refl) known)
              (buffers_on_with MayLie (due_lies m (events ++ event ∷ []) at.flushed at.taken)) put in
              rw none
              (buffers_none due before.held (all ++ bytes_of (m.due events event)) held
              (held_all lies before.held (all ++ bytes_of (m.due events event)) held new none put_all))
          | inr may ↦
              buffers_all due before.held (m.due events event) all (holding now.held buffered) (holding held new)
              (due_here m MayWait events event at.flushed at.after at.taken at.taken_is at.says.needed may known)
              (buffers_on_with MayWait (λ number was due is. is)) put
        ]);
      }

-- a property of the buffered output that also holds of none
pub pauses_wait : (P : List Piece → Type 0) (offset since at : ℕ) (before now : Holding)
    → Pauses offset since before now at → P before.buffered → P [] → P now.buffered
pauses_wait P offset since at before now (inl on) was none = rw on.2 was
pauses_wait P offset since at before now (inr written) was none = rw written.1 none

-- there is at least one event
pub some_events : (events : List Event) (event : Event) → 1 ≤ length (events ++ event ∷ [])
some_events events event = let long = length-append events (event ∷ []) in omega (arith, long)

-- each result of the reader leaves fewer events
pub left_less : (old mid new : Progress) (was next : Result Event Stop) (event : Event) → was ≡ Ok event
    → work_left mid ≤ work_left old → OnOk next (work_left new < work_left mid)
    → events_left new next < events_left old was
left_less old mid new was (Ok e) event is on less =
    let P : Result Event Stop → Type 0 = λ was. events_left new (Ok e) < events_left old was in
    subst P (sym is) (omega (arith, on, less))
left_less old mid new was (Err stop) event is on less =
    let P : Result Event Stop → Type 0 = λ was. events_left new (Err stop) < events_left old was in
    subst P (sym is) (omega arith)
