-- The records of the events that are not played, one after another.
use Rattle.std.proofs.Common.{◌≡◌, ◌≤◌, ◌<◌, inl, inr, ◌+◌, ◌++◌, ◌==◌, true, ℕ, List, [], ◌∷◌, Option, Ok, Err}
use Rattle.std.proofs.Common.{length, length-append, refl, ap, sym, subst, ◌∙◌, append_assoc, append-nil, arith}
use Rattle.dev_io.specs.Device.{appended, prepended, AppendsPart}
use Rattle.gathered_out.specs.Puts.{BreaksWriting}
use Rattle.gathered_out.proofs.Buffers.{BreaksDue, Buffers, breaks_put, buffers_more, buffers_off, buffers_on}
use Rattle.gathered_out.proofs.Buffers.{buffers_written}
use Rattle.gpu_capture.specs.Capture.{capture, limit}
use Rattle.gpu_capture.specs.Reader.{AreNeeded as ReaderNeeds, Takes, StopsAt, capture_from, reader_input}
use Rattle.gpu_capture.proofs.Versions.{version_from}
use Rattle.gpu_capture.specs.Written.{spelled, spelled_end, tag_of, Allows}
use Rattle.gpu_capture.specs.declared.event.Event.{Event}
use Rattle.gpu_capture.specs.declared.event.Stop.{Stop}
use Rattle.gpu_capture.specs.declared.progress.Progress.{Progress}
use Rattle.gpu_capture.proofs.Written.{word_length}
use Rattle.event_play.specs.Replay.{Replay}
use Rattle.event_play.specs.RigState.{RigState}
use Rattle.event_play.specs.Streams.{Streams, streams}
use Rattle.gpu_capture.specs.Written.{spell}
use Rattle.gpu_capture.specs.Reading.{SaysFirst}
use Rattle.event_loop.specs.Pausing.{most_after}
use Rattle.gpu_capture.proofs.Spelled.{allows_append}
use Rattle.event_play.proofs.After.{few_after}
use Rattle.gpu_capture.proofs.Spelled.{spell-append, wrote_on}
use Rattle.capture_cut.specs.Came.{EndsAt, EndsReading, EndsRecord, EndsTooLong, HasRead, PutsRecord, writing}
use Rattle.capture_cut.specs.Cut.{CutAt, Way, EndsCut, IsLast, ReadsTo, SaysEnding, StopsAfter, events_of}
use Rattle.capture_cut.specs.File.{snapshot, begun, cut_file}
use Rattle.capture_cut.specs.declared.ending.CutEnding.{CutEnding}
use Rattle.capture_cut.specs.declared.ending.CutEnding.TheVariants.{Done, PastEnd, Stopped, Faulted, TooLong}
use Rattle.capture_cut.specs.declared.ending.CutEnding.TheVariants.{WriteFailed}
use Rattle.gpu_capture.specs.declared.draft.Draft.{Draft}
use Rattle.capture_cut.proofs.Coming.{Comes, WasDue, due_here, due_more}
use Rattle.capture_cut.proofs.Cutting.{spent_within}
use Rattle.capture_cut.proofs.Reading.{read_on, reads_to, stops_after, stops_bytes, version_on}

-- ---- bytes

-- one more record
begun_on : (t : Replay) (later : List Event) (event : Event)
    → begun t (later ++ event ∷ []) ≡ begun t later ++ spelled event
begun_on t later event =
    ap (λ bytes. snapshot t ++ bytes) (spell-append later (event ∷ [])
    ∙ ap (λ bytes. spell later ++ bytes) (append-nil (spelled event)))
    ∙ sym (append_assoc (snapshot t) (spell later) (spelled event))

file_length : (t : Replay) (later : List Event) → length (cut_file t later) ≡ length (begun t later) + 4
file_length t later =
    let a = length-append (begun t later) spelled_end in
    let b = word_length (tag_of 0 0) in
    omega (arith, a, b)

longer : (t : Replay) (later : List Event) (event : Event) (size : ℕ) → size ≡ length (begun t later)
    → length (cut_file t (later ++ event ∷ [])) ≡ size + length (spelled event) + 4
longer t later event size is =
    let a = file_length t (later ++ event ∷ []) in
    let b = ap length (begun_on t later event) in
    let d = length-append (begun t later) (spelled event) in
    omega (arith, a, b, d, is)

more_events : (played later : List Event) (event : Event)
    → played ++ (later ++ event ∷ []) ≡ (played ++ later) ++ event ∷ []
more_events played later event = sym (append_assoc played later (event ∷ []))

is_whole : (n : ℕ) → (n == n) ≡ true
is_whole n = grind arith

-- ---- one more event

module _ (cut : CutAt) (before now : Streams) (rig : RigState) (old : Progress) (draft : Draft)
    (since count : ℕ) (at : Comes cut before now rig old draft since count) (left held : Option (List ℕ)) where
  abbrev far : Way
  far = at.on.way

  abbrev after : Streams
  after = streams left held now.heard now.steps

  -- the `Way` with these bytes read and these later events
  abbrev way : List ℕ → List Event → Way
  way taken later = record {
    version = far.version;
    taken = taken;
    played = far.played;
    replay = far.replay;
    later = later;
  }

  abbrev all : List ℕ
  all = begun far.replay far.later

  -- what is known of a buffered record, with these bytes read and these later events
  abbrev due : List ℕ → List Event → (number : ℕ) → (was is : List ℕ) → Type 0
  due taken later = WasDue far.replay far.played later at.flushed taken

  ends : (taken : List ℕ) (later : List Event) (ending : CutEnding) → before.left ≡ prepended taken left
      → SaysEnding cut.n (way taken later) before after ending → EndsCut cut before after rig ending
  ends taken later ending bytes says = record {
    way = way taken later;
    bytes = bytes;
    order = record { most = omega (arith, at.on.all); first = λ some. absurd (omega (arith, at.on.all, some)) };
    plays = at.on.plays;
    stands = at.on.stands;
    says = says;
    cost = at.on.cost;
    box_cost = spent_within before.steps now.steps far.replay.cost far.replay.box_cost _ at.on.cost at.on.small;
  }

  -- a flush that failed
  lacks : (taken : List ℕ) (later : List Event) (number : ℕ) → before.left ≡ prepended taken left
      → SaysFirst capture (way taken later).version taken (events_of (way taken later))
      → length taken ≤ length at.flushed + most_after
      → BreaksDue (due taken later) before.held held number
      → EndsCut cut before after rig (WriteFailed number)
  lacks taken later number bytes says few breaks =
      let is = breaks.is in
      ends taken later (WriteFailed number) bytes (inr (inl (record {
        all = at.on.all;
        earlier = is.earlier;
        event = is.event;
        rest = is.later;
        are = is.are;
        number_is = is.number_is;
        says = says;
        few = record {
          needed = at.flushed ++ is.between;
          later = is.rest;
          are = is.taken_is;
          are_needed = is.needed;
          few = let a = ap length is.taken_is in
              let b = length-append (at.flushed ++ is.between) is.rest in
              let d = length-append at.flushed is.between in
              omega (arith, a, b, d, few);
        };
        held = rw (is.was_is, is.due_is) at breaks.held;
        fits = is.fits;
      })))

  -- at a pause: no further byte was read
  pub pause_lacks : (lacking : ℕ) → before.left ≡ prepended far.taken left
      → BreaksWriting now.held held draft.buffered lacking → EndsCut cut before after rig (WriteFailed lacking)
  pause_lacks lacking bytes breaks =
      let here = way far.taken far.later in
      lacks far.taken far.later lacking bytes
      (reads_to before.left now.left old (events_of far) here at.on.reads at.on.known at.on.same).says
      at.close
      (buffers_off (due far.taken far.later) before.held all now.held held
      draft.buffered lacking at.buffers breaks)

  -- ---- what the reader returns next

  module _ (new : Progress) (near : old.offset < since + 4096) where
    -- With these bytes, at most 4,112 were read after the last flush.
    few : (further : List ℕ) → ReaderNeeds old further
        → length (far.taken ++ further) ≤ length at.flushed + most_after
    few further needed =
        few_after old (events_of far) far.taken further at.flushed since (inr at.on.known) at.on.reads.says at.since_is
        near needed

    module _ (event : Event) (takes : Takes (reader_input old now.left) (reader_input new left) (event ∷ []))
        (known : 1 ≤ new.version) where
      abbrev taken : List ℕ
      taken = far.taken ++ takes.taken

      abbrev later : List Event
      later = far.later ++ event ∷ []

      same : far.version ≡ new.version
      same = at.on.same ∙ version_on old new now.left left (Ok event) (takes, known) at.on.known

      has_read : HasRead before.left left new taken (far.played ++ later)
      has_read =
          let P : List Event → Type 0 = λ events. HasRead before.left left new taken events in
          subst P (sym (more_events far.played far.later event))
          (read_on before.left now.left left old new far.taken (events_of far) event at.on.reads takes)

      reads : ReadsTo (way taken later) (far.played ++ later)
      reads = reads_to before.left left new (far.played ++ later) (way taken later) has_read known same

      count_on : count + 1 ≡ length (far.played ++ later)
      count_on =
          let a = length-append (events_of far) (event ∷ []) in
          let b = ap length (more_events far.played far.later event) in
          omega (arith, a, b, at.count_is)

      more_due : (number : ℕ) (was is : List ℕ) → due far.taken far.later number was is
          → due taken later number was is
      more_due =
          due_more far.replay far.played far.later (event ∷ []) later at.flushed far.taken takes.taken refl

      here : (number : ℕ) → number ≡ count + 1 → length (cut_file far.replay later) ≤ limit
          → due taken later number all (spelled event)
      here number is fits =
          let count_is = at.count_is in
          due_here far.replay far.played far.later event at.flushed at.after far.taken takes.taken number
          (is ∙ ap (λ k. k + 1) count_is) fits at.taken_is has_read.needed

      pub came_on : (number : ℕ) (is : Draft) → number ≡ count + 1
          → PutsRecord number event (writing draft now.held) (writing is held) → Allows 2 event
          → Comes cut before after rig new is since number
      came_on number is number_is puts allows =
          let size = longer far.replay far.later event draft.file.size at.size_is in
          let adds = puts.size_is in
          let room = puts.fits in
          let fits : length (cut_file far.replay later) ≤ limit = omega (arith, size, adds, room) in
          let Q : List ℕ → Type 0 = λ bs. Buffers (due taken later) before.held bs held is.buffered in
          record {
            on = record {
              way = way taken later;
              all = at.on.all;
              same = same;
              known = known;
              reads = has_read;
              plays = at.on.plays;
              stands = at.on.stands;
              cost = at.on.cost;
              small = at.on.small;
              writable = at.on.writable;
              allowed = allows_append 2 far.later (event ∷ []) at.on.allowed (allows, tt);
            };
            count_is = number_is ∙ count_on;
            size_is = let a = ap length (begun_on far.replay far.later event) in
                let b = length-append (begun far.replay far.later) (spelled event) in
                omega (arith, a, b, at.size_is, adds);
            fits = room;
            flushed = at.flushed;
            close = few takes.taken takes.needed;
            after = at.after ++ takes.taken;
            taken_is = ap (λ bs. bs ++ takes.taken) at.taken_is ∙ append_assoc at.flushed at.after takes.taken;
            since_is = at.since_is;
            buffers = subst Q (sym (begun_on far.replay far.later event))
                (buffers_on (due far.taken far.later) (due taken later) before.held all now.held draft.buffered
                at.buffers more_due number (spelled event) (here number number_is fits) held is.buffered puts.put);
          }

      last : (number : ℕ) → number ≡ count + 1 → IsLast cut.n (way taken later) number far.later event
      last number is = record { all = at.on.all; number_is = is ∙ count_on; are = refl; reads = reads }

      long_ends : (number : ℕ) (ending : CutEnding) → number ≡ count + 1
          → limit < draft.file.size + length (spelled event) + 4
          → EndsTooLong number draft.buffered now.held held ending → EndsCut cut before after rig ending
      long_ends number (TooLong told) is long end =
          ends taken later (TooLong told) has_read.bytes (record {
            earlier = far.later;
            event = event;
            last = last told (end.0 ∙ is);
            held = buffers_written (due far.taken far.later) before.held all now.held held draft.buffered
                at.buffers end.1;
            fits = let a = file_length far.replay far.later in omega (arith, a, at.size_is, at.fits);
            long = rw (longer far.replay far.later event draft.file.size at.size_is) long;
          })
      long_ends number (WriteFailed told) is long end =
          lacks taken later told has_read.bytes reads.says (few takes.taken takes.needed)
          (buffers_off (due taken later) before.held all now.held held draft.buffered told
          (buffers_more (due far.taken far.later) (due taken later) before.held all now.held draft.buffered
          more_due at.buffers) end)
      long_ends number Done is long end = absurd end
      long_ends number (PastEnd told) is long end = absurd end
      long_ends number (Stopped told stop) is long end = absurd end
      long_ends number (Faulted told fault) is long end = absurd end

      pub record_ends : (number : ℕ) (ending : CutEnding) → number ≡ count + 1
          → EndsRecord number event (writing draft now.held) held ending → EndsCut cut before after rig ending
      record_ends number ending is (inl long) = long_ends number ending is long.0 long.1
      record_ends number ending is (inr breaks) =
          let size = longer far.replay far.later event draft.file.size at.size_is in
          let room = breaks.0 in
          let fits : length (cut_file far.replay later) ≤ limit = omega (arith, size, room) in
          rw breaks.2 (lacks taken later breaks.1 has_read.bytes reads.says (few takes.taken takes.needed)
          (breaks_put (due far.taken far.later) (due taken later) before.held all now.held draft.buffered
          at.buffers more_due number (spelled event) (here number is fits) held breaks.1 breaks.3))

    -- ---- the reader stops

    module _ (stop : Stop) (stops : StopsAt (reader_input old now.left) (reader_input new left) stop) where
      abbrev bytes_taken : List ℕ
      bytes_taken = far.taken ++ stops.taken

      bytes : before.left ≡ prepended bytes_taken left
      bytes = stops_bytes before.left now.left left old new far.taken (events_of far) stop at.on.reads stops

      version_is : far.version ≡ new.version
      version_is = at.on.same ∙ version_on old new now.left left (Err stop) stops at.on.known

      stopping : StopsAfter (way bytes_taken far.later) stop left
      stopping = stops_after before.left now.left left old new far.taken stop (way bytes_taken far.later) at.on.reads
          stops version_is refl

      says_events : SaysFirst capture (way bytes_taken far.later).version bytes_taken (events_of far)
      says_events = λ rest. (
        capture_from old (stops.taken ++ rest),
        ap capture (append_assoc far.taken stops.taken rest) ∙ at.on.reads.says (stops.taken ++ rest),
        version_from old (stops.taken ++ rest) at.on.known ∙ sym at.on.same,
      )

      stopped_number : (number told : ℕ) → told ≡ number → number ≡ count + 1 → told ≡ length (events_of far) + 1
      stopped_number number told same is = omega (arith, same, is, at.count_is)

      stop_ends : (number : ℕ) (ending : CutEnding) (mid : Option (List ℕ)) → number ≡ count + 1
          → mid ≡ appended before.held all
          → EndsAt number stop mid held ending → EndsCut cut before after rig ending
      stop_ends number Done mid is stood end =
          let P : Stop → Type 0 = λ s. StopsAfter (way bytes_taken far.later) s left in
          ends bytes_taken far.later Done bytes (record {
            all = at.on.all;
            stops = subst P end.0 stopping;
            held = wrote_on before.held mid held all spelled_end stood end.1;
            writable = at.on.writable;
            allowed = at.on.allowed;
            fits = let a = file_length far.replay far.later in omega (arith, a, at.size_is, at.fits);
          })
      stop_ends number (WriteFailed told) mid is stood end =
          let P : Stop → Type 0 = λ s. StopsAfter (way bytes_taken far.later) s left in
          let Q : Option (List ℕ) → Type 0 = λ base. AppendsPart base held spelled_end in
          ends bytes_taken far.later (WriteFailed told) bytes (inr (inr (record {
            all = at.on.all;
            number_is = stopped_number number told end.1 is;
            stops = subst P end.0 stopping;
            held = subst Q stood end.2;
          })))
      stop_ends number (Stopped told given) mid is stood end =
          let P : Stop → Type 0 = λ s. EndsCut cut before after rig (Stopped told s) in
          let whole : (length far.played == cut.n) ≡ true = rw at.on.all (is_whole cut.n) in
          subst P (sym end.1)
          (ends bytes_taken far.later (Stopped told stop) bytes (
            record { number_is = stopped_number number told end.0 is; held = rw whole (end.3 ∙ stood) },
            stopping,
            end.2,
          ))
      stop_ends number (PastEnd told) mid is stood end = absurd end
      stop_ends number (Faulted told fault) mid is stood end = absurd end
      stop_ends number (TooLong told) mid is stood end = absurd end

      pub reading_ends : (number : ℕ) (ending : CutEnding) → number ≡ count + 1
          → EndsReading number stop (writing draft now.held) held ending → EndsCut cut before after rig ending
      reading_ends number ending is (inl end) =
          stop_ends number ending end.0 is
          (buffers_written (due far.taken far.later) before.held all now.held
          end.0 draft.buffered at.buffers end.1) end.2
      reading_ends number ending is (inr breaks) =
          let was = due far.taken far.later in
          let more = due bytes_taken far.later in
          rw breaks.1 (lacks bytes_taken far.later breaks.0 bytes says_events (few stops.taken stops.needed)
          (buffers_off more before.held all now.held held draft.buffered breaks.0
          (buffers_more was more before.held all now.held draft.buffered
          (due_more far.replay far.played far.later [] far.later at.flushed far.taken stops.taken
          (sym (append-nil far.later))) at.buffers) breaks.2))
