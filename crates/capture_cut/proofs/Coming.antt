-- Events that are not played, whose records were put, one after another.
use Rattle.std.proofs.Common.{◌≡◌, ◌≤◌, ◌+◌, ◌++◌, ℕ, List, [], ◌∷◌, Option, min, length, refl, ap, sym, ◌∙◌}
use Rattle.std.proofs.Common.{append_assoc, ◌<◌, append-nil, arith, inl, inr, subst}
use Rattle.gathered_out.specs.Pieces.{Piece}
use Rattle.gathered_out.proofs.Buffers.{Buffers, buffers_none, buffers_written}
use Rattle.gathered_out.specs.Puts.{IsWritten, holding}
use Rattle.gpu_capture.specs.Capture.{capture, limit}
use Rattle.gpu_capture.specs.Written.{spelled}
use Rattle.gpu_capture.specs.declared.event.Event.{Event}
use Rattle.gpu_capture.specs.declared.progress.Progress.{Progress}
use Rattle.gpu_capture.proofs.Taken.{taken_count}
use Rattle.event_play.specs.Replay.{Replay}
use Rattle.event_play.specs.RigState.{RigState}
use Rattle.event_play.specs.Streams.{Streams, streams}
use Rattle.gpu_capture.specs.Reading.{AreNeeded}
use Rattle.event_loop.specs.Pausing.{Pauses, most_after}
use Rattle.capture_cut.specs.Came.{Came, GoesOn, Reached, unheld}
use Rattle.capture_cut.specs.Cut.{CutAt, events_of}
use Rattle.capture_cut.specs.File.{begun, cut_file}
use Rattle.gpu_capture.specs.declared.draft.Draft.{Draft}

-- `due` is the record of event `number`, one of the later events, and follows the output `was`. `flushed`: the bytes
-- read at the last flush. The bytes that this event needs start with them.
pub record WasDue (t : Replay) (played events : List Event) (flushed taken : List ℕ) (number : ℕ)
    (was due : List ℕ) : Type 0 where
  pub earlier : List Event
  pub event : Event
  pub later : List Event
  pub are : events ≡ earlier ++ event ∷ later
  pub number_is : number ≡ length (played ++ earlier) + 1
  pub was_is : was ≡ begun t earlier
  pub due_is : due ≡ spelled event
  pub fits : length (cut_file t (earlier ++ event ∷ [])) ≤ limit
  pub between : List ℕ
  pub rest : List ℕ
  pub taken_is : taken ≡ (flushed ++ between) ++ rest
  pub needed : AreNeeded capture (played ++ (earlier ++ event ∷ [])) (flushed ++ between)

-- the same after further events and bytes are read
pub due_more : (t : Replay) (played events more all : List Event) (flushed taken further : List ℕ)
    → all ≡ events ++ more → (number : ℕ) (was due : List ℕ) → WasDue t played events flushed taken number was due
    → WasDue t played all flushed (taken ++ further) number was due
due_more t played events more all flushed taken further all_are number was due is = record {
  earlier = is.earlier;
  event = is.event;
  later = is.later ++ more;
  are = all_are ∙ ap (λ (es : List Event). es ++ more) is.are
      ∙ append_assoc is.earlier (is.event ∷ is.later) more;
  number_is = is.number_is;
  was_is = is.was_is;
  due_is = is.due_is;
  fits = is.fits;
  between = is.between;
  rest = is.rest ++ further;
  taken_is = ap (λ bs. bs ++ further) is.taken_is ∙ append_assoc (flushed ++ is.between) is.rest further;
  needed = is.needed;
}

-- the record of the last event read
pub due_here : (t : Replay) (played events : List Event) (given : Event) (flushed after taken further : List ℕ)
    (number : ℕ)
    → number ≡ length (played ++ events) + 1 → length (cut_file t (events ++ given ∷ [])) ≤ limit
    → taken ≡ flushed ++ after → AreNeeded capture (played ++ (events ++ given ∷ [])) (taken ++ further)
    → WasDue t played (events ++ given ∷ []) flushed (taken ++ further) number (begun t events) (spelled given)
due_here t played events given flushed after taken further number number_is fits taken_is needed =
    let all : taken ++ further ≡ flushed ++ (after ++ further) = ap (λ bs. bs ++ further) taken_is
    ∙ append_assoc flushed after further in
    record {
      earlier = events;
      event = given;
      later = [];
      are = refl;
      number_is = number_is;
      was_is = refl;
      due_is = refl;
      fits = fits;
      between = after ++ further;
      rest = [];
      taken_is = all ∙ sym (append-nil (flushed ++ (after ++ further)));
      needed = rw all at needed;
    }

-- The first n events were played, and the records of the later ones written or buffered. `since`: offset of the reader
-- at the last flush. At most 4,112 bytes were read after it.
pub record Comes (at : CutAt) (before now : Streams) (rig : RigState) (p : Progress) (draft : Draft)
    (since count : ℕ) : Type 0 where
  pub on : GoesOn at before (unheld now) rig p
  pub count_is : count ≡ length (events_of on.way)
  pub size_is : draft.file.size ≡ length (begun on.way.replay on.way.later)
  pub fits : draft.file.size + 4 ≤ limit
  pub flushed : List ℕ
  pub after : List ℕ
  pub taken_is : on.way.taken ≡ flushed ++ after
  pub since_is : length flushed ≡ min since limit
  pub close : length on.way.taken ≤ length flushed + most_after
  pub buffers : Buffers (WasDue on.way.replay on.way.played on.way.later flushed on.way.taken) before.held
      (begun on.way.replay on.way.later) now.held draft.buffered

-- at the start: nothing is buffered, and all output was written
pub comes_first : (at : CutAt) (before now : Streams) (rig : RigState) (r : Reached) (draft : Draft)
    (since number : ℕ) → draft.file.size ≡ r.size → draft.buffered ≡ [] → since ≡ r.progress.offset → number ≡ r.count
    → Came at before now rig r → Comes at before now rig r.progress draft since number
comes_first at before now rig r draft since number size_same none offset counted came =
    let way = came.on.way in
    let due = WasDue way.replay way.played way.later way.taken way.taken in
    let Q : List Piece → Type 0 = λ ps. Buffers due before.held (begun way.replay way.later) now.held ps in
    let taken = taken_count r.progress (events_of way) way.taken came.on.known came.on.reads.says in
    let fits = came.fits in
    record {
      on = came.on;
      count_is = counted ∙ came.count_is;
      size_is = size_same ∙ came.size_is;
      fits = omega (arith, fits, size_same);
      flushed = way.taken;
      after = [];
      taken_is = sym (append-nil way.taken);
      since_is = omega (arith, taken, offset);
      close = omega arith;
      buffers = subst Q (sym none) (buffers_none due before.held (begun way.replay way.later) now.held came.held);
    }

-- the draft with these pieces as its buffer
abbrev with_pieces : Draft → List Piece → Draft
with_pieces draft pieces = record { file = draft.file; buffered = pieces }

-- the buffer is flushed
comes_written : (cut : CutAt) (before now : Streams) (rig : RigState) (p : Progress) (draft : Draft)
    (pieces : List Piece) (since at count : ℕ) (held : Option (List ℕ)) → pieces ≡ [] → at ≡ p.offset
    → IsWritten now.held held draft.buffered
    → Comes cut before now rig p draft since count
    → Comes cut before (streams now.left held now.heard now.steps) rig p (with_pieces draft pieces) at count
comes_written cut before now rig p draft pieces since at count held none offset written came =
    let way = came.on.way in
    let all = begun way.replay way.later in
    let due = WasDue way.replay way.played way.later way.taken way.taken in
    let Q : List Piece → Type 0 = λ ps. Buffers due before.held all held ps in
    let taken = taken_count p (events_of way) way.taken came.on.known came.on.reads.says in
    record {
      on = came.on;
      count_is = came.count_is;
      size_is = came.size_is;
      fits = came.fits;
      flushed = way.taken;
      after = [];
      taken_is = sym (append-nil way.taken);
      since_is = omega (arith, taken, offset);
      close = omega arith;
      buffers = subst Q (sym none) (buffers_none due before.held all held
          (buffers_written (WasDue way.replay way.played way.later came.flushed way.taken) before.held all now.held held
          draft.buffered came.buffers written));
    }

-- before the next read: the reader is less than 4,096 bytes after the last flush
pub record Paused (cut : CutAt) (before now : Streams) (rig : RigState) (p : Progress) (draft : Draft)
    (since count : ℕ) : Type 0 where
  pub comes : Comes cut before now rig p draft since count
  pub near : p.offset < since + 4096

pub pauses_on : (cut : CutAt) (before now : Streams) (rig : RigState) (p : Progress) (draft : Draft)
    (pieces : List Piece) (since at count : ℕ) (held : Option (List ℕ))
    → Comes cut before now rig p draft since count
    → Pauses p.offset since (holding now.held draft.buffered) (holding held pieces) at
    → Paused cut before (streams now.left held now.heard now.steps) rig p (with_pieces draft pieces) at count
pauses_on cut before now rig p draft pieces since at count held came (inl on) =
    let e = on.0 in
    let lt = on.1 in
    record {
      comes = record {
        on = came.on;
        count_is = came.count_is;
        size_is = came.size_is;
        fits = came.fits;
        flushed = came.flushed;
        after = came.after;
        taken_is = came.taken_is;
        close = came.close;
        since_is = came.since_is ∙ ap (λ (s : ℕ). min s limit) (sym e);
        buffers = rw (on.2, on.3) came.buffers;
      };
      near = omega (arith, e, lt);
    }
pauses_on cut before now rig p draft pieces since at count held came (inr written) =
    let e = written.0 in
    record {
      comes = comes_written cut before now rig p draft pieces since at count held written.1 written.0 written.2 came;
      near = omega (arith, e);
    }
