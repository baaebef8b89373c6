-- The bytes read when the reader has returned an event that is not processed yet, or a stop.
use Rattle.std.proofs.Common.{◌≡◌, ◌≤◌, ◌<◌, ◌⊎◌, inl, inr, ◌+◌, ◌^◌, ◌++◌, max, ℕ, List, [], ◌∷◌, Option, Result, Ok}
use Rattle.std.proofs.Common.{Err, OnOk, IfOk, IfErr, length, refl, ap, sym, ◌∙◌, subst, arith, nat_lt, true, take}
use Rattle.std.proofs.Common.{drop, min, length-append, ◌-◌}
use Rattle.std.proofs.lemmas.Bool.{cases_Bool, cases_lt}
use Rattle.std.proofs.lemmas.List.{take-append-le}
use Rattle.dev_io.specs.Device.{prepended}
use Rattle.dev_io.proofs.Parts.{prepended-nil, taken_on}
use Rattle.gpu_capture.specs.Capture.{Captured, capture, limit, then_events, opened, numbered_version, heads}
use Rattle.gpu_capture.specs.Head.{head_among}
use Rattle.gpu_capture.specs.Reader.{Takes, StopsAt, IsStart, capture_from}
use Rattle.gpu_capture.specs.Reader.{reader_input, work_left, tag_expected}
use Rattle.gpu_capture.specs.declared.event.Event.{Event}
use Rattle.gpu_capture.specs.declared.event.Stop.{Stop}
use Rattle.gpu_capture.specs.declared.event.Stop.TheVariants.{End}
use Rattle.gpu_capture.specs.declared.progress.Progress.{Progress}
use Rattle.gpu_capture.proofs.Taken.{taken_count}
use Rattle.gpu_capture.proofs.Versions.{version_from}
use Rattle.event_loop.specs.Pausing.{Pauses, most_after}
use Rattle.event_play.specs.Ports.{IsAtPorts}
use Rattle.dead_drawing.specs.Laws.{height_for}
use Rattle.dead_drawing.proofs.PacketLaw.{ports_append}
use Rattle.gpu_capture.specs.Reading.{AreFewAfter, AreNeeded, SaysFirst}
use Rattle.gpu_capture.proofs.Needed.{Answers, answers}
use Rattle.gpu_capture.proofs.Needed.{none_needed, needed_on, says_on}
use Rattle.gpu_capture.proofs.Needed.{takes_version, stops_version}
use Rattle.capture_slim.specs.Came.{Came, EndsEvent, EndsRefused, EndsPushed, HasCount}
use Rattle.capture_slim.specs.Came.{FailsAfter, BuffersFrom, and_event, window_for}
use Rattle.capture_slim.specs.File.{AreFrom, IsDraft, LacksFrom, output_of}
use Rattle.capture_slim.specs.Stream.{leaving, outs, window_after}
use Rattle.gathered_out.specs.Pieces.{Piece}
use Rattle.gathered_out.specs.Puts.{BreaksWriting, holding}
use Rattle.gathered_out.proofs.Pieces.{none_buffered, only_buffered}
use Rattle.capture_slim.specs.Passing.{Streams, streams, Way, RefusesNext, SaysEnding}
use Rattle.capture_slim.specs.Passing.{EndsSlim, Passed}
use Rattle.capture_slim.specs.Window.{Window, first_window, pushed, waiting}
use Rattle.capture_slim.specs.declared.ending.SlimEnding.{SlimEnding}
use Rattle.capture_slim.specs.declared.ending.SlimEnding.TheVariants.{Done, Stopped, NotFlat, TooLong, WriteFailed}
use Rattle.gpu_capture.specs.declared.draft.Draft.{Draft}
use Rattle.gpu_capture.specs.declared.draft.CaptureFile.{CaptureFile}
use Rattle.event_loop.proofs.Awaiting.{events_left}
use Rattle.event_play.proofs.After.{IsReading}
use Rattle.capture_slim.proofs.Firsts.{counted, fails_among, gone, outs_more, rest, rest_refused, size, waiting_size}
use Rattle.capture_slim.proofs.Files.{first_draft, out_draft}
use Rattle.capture_slim.proofs.Late.{Since, few_last, few_later, few_wait, from_off, none_or_full, since_first}
use Rattle.capture_slim.proofs.Late.{since_here, since_more}
use Rattle.capture_slim.proofs.Rests.{fails_wider}
use Rattle.capture_slim.proofs.TooMuch.{is_too_long}

-- the version of the file is that of the capture, or 1 if no header was read
pub record Awaits (version : ℕ) (before now : Streams) (window : Window) (draft : Draft) (count since : ℕ)
    (new : Progress) (next : Result Event Stop) : Type 0 where
  pub left : Option (List ℕ)
  pub old : Progress
  pub taken : List ℕ
  pub bytes : before.left ≡ prepended taken left
  pub events : List Event
  pub says : (rest : List ℕ) → capture (taken ++ rest) ≡ then_events events (capture_from old rest)
  pub needed : AreNeeded capture events taken
  pub reading : IsReading old taken events
  pub near : old.offset < since + 4096
  pub least : ℕ
  pub from : BuffersFrom least window draft count
  pub last : Since events taken least since
  pub came : Came (record { version = version; events = events; base = before.held }) window draft count now.held
  pub named : (events ≡ []) ⊎ (1 ≤ new.version)
  pub same : version ≡ max new.version 1
  pub answer : Answers old new left now.left next

-- a result that the reader can return
pub awaits_is : (version : ℕ) (before now : Streams) (window : Window) (draft : Draft) (count since : ℕ)
    (new : Progress) (next given : Result Event Stop)
    → next ≡ given → Awaits version before now window draft count since new next
    → Awaits version before now window draft count since new given
awaits_is version before now window draft count since new next given is at =
    let P : Result Event Stop → Type 0 = λ n. Awaits version before now window draft count since new n in subst P is at

pub count_is : (version : ℕ) (before now : Streams) (window : Window) (draft : Draft) (count since : ℕ) (new : Progress)
    (next : Result Event Stop)
    → Awaits version before now window draft count since new next → count < 2 ^ 60 → HasCount window count
count_is version before now window draft count since new next at few =
    record { most = omega (arith, counted _ window draft count now.held at.came); few = few }

-- ---- how many events can be read

pub left_falls : (p new : Progress) (next : Result Event Stop) → OnOk next (work_left new < work_left p)
    → events_left new next ≤ work_left p
left_falls p new (Ok e) falls = omega (arith, falls)
left_falls p new (Err stop) falls = omega arith

pub falls_on : (p new : Progress) (next now : Result Event Stop) (e : Event) → next ≡ Ok e
    → OnOk now (work_left new < work_left p)
    → events_left new now < events_left p next
falls_on p new next now e is falls = rw is (omega (arith, left_falls p new now falls))

-- ---- a capture that has an End has a version

named_by : (r : Result ℕ ℕ) (bytes : List ℕ) (version : ℕ) (events : List Event) (rest : List ℕ)
    → opened (numbered_version r) bytes ≡ record { version = version; events = events; ending = End; rest = rest }
    → 1 ≤ version
named_by (Ok n) bytes version events rest is =
    let start : nat_lt 0 (n + 1) ≡ true = grind arith in
    let from = rw start at (version_from (tag_expected (n + 1) 8) bytes (omega arith)) in
    let same = ap (λ (c : Captured). c.version) is in
    omega (arith, from, same)
named_by (Err offset) bytes version events rest is = let e = ap (λ (c : Captured). c.ending) is in absurd cc

pub named_by_end : (bytes : List ℕ) (version : ℕ) (events : List Event) (rest : List ℕ)
    → capture bytes ≡ record { version = version; events = events; ending = End; rest = rest } → 1 ≤ version
named_by_end bytes version events rest is =
    elim (cases_Bool (nat_lt (length bytes) 8)) [
      | inl short ↦ let e = ap (λ (c : Captured). c.ending) (rw short at is) in absurd cc
      | inr long ↦ named_by (head_among heads (take 8 bytes)) (drop 8 bytes) version events rest (rw long at is)
    ]

pub starts : (before : Streams) (left : Option (List ℕ)) (faults : ℕ) (window : Window) (first new : Progress)
    (version : ℕ) (draft : Draft) (next : Result Event Stop)
    → draft.file ≡ record { version = version; size = 0 } → draft.buffered ≡ []
    → IsStart first → window ≡ first_window (height_for version) → version ≡ max new.version 1
    → IfOk next (λ event. Takes (reader_input first before.left) (reader_input new left) (event ∷ []))
    → OnOk next (1 ≤ new.version)
    → IfErr next (λ stop. StopsAt (reader_input first before.left) (reader_input new left) stop)
    → Awaits version before (streams left faults before.held) window draft 0 0 new next
starts before left faults window first new version draft next file_is none is window_is same takes answered stops =
    record {
      left = before.left;
      old = first;
      taken = [];
      bytes = prepended-nil before.left;
      events = [];
      says = λ rest. rw is.version refl;
      needed = none_needed capture;
      reading = inl (is, refl, refl);
      near = let offset = is.offset in omega (arith, offset);
      least = 0;
      from = record {
        buffered = let P : List Piece → Type 0 = λ ps. AreFrom 0 ps in subst P (sym none) tt;
        later = omega (arith, ap (λ (w : Window). length (waiting w)) window_is);
      };
      last = since_first 0;
      came = record {
        ports = tt;
        words = tt;
        version_is = ap (λ (f : CaptureFile). f.version) file_is;
        window_is = window_is;
        count_is = refl;
        draft_is =
            let P : CaptureFile → Type 0 = λ f. IsDraft (record { file = f; buffered = [] }) before.held before.held []
            in
            let Q : List Piece → Type 0 = λ ps. IsDraft (record { file = draft.file; buffered = ps }) before.held
            before.held [] in
            subst Q (sym none) (subst P (sym file_is) (first_draft version before.held));
      };
      named = inl refl;
      same = same;
      answer = answers first new before.left left next takes answered stops;
    }

-- ---- a pause

abbrev with_pieces : Draft → List Piece → Draft
with_pieces draft pieces = record { file = draft.file; buffered = pieces }

-- few bytes were read since the last flush, or the buffer is flushed here
pub record Paused (passed : Passed) (taken : List ℕ) (window : Window) (draft : Draft) (count since : ℕ) (p : Progress)
    (held : Option (List ℕ)) : Type 0 where
  pub came : Came passed window draft count held
  pub least : ℕ
  pub from : BuffersFrom least window draft count
  pub last : Since passed.events taken least since
  pub near : p.offset < since + 4096

module _ (passed : Passed) (taken : List ℕ) (window : Window) (draft : Draft) (count : ℕ) (held : Option (List ℕ))
    (came : Came passed window draft count held) where
  wait_few : length (waiting window) ≤ 4096
  wait_few =
      let same = ap (λ (w : Window). length (waiting w)) came.window_is in
      omega (arith, same, few_wait (height_for passed.version) passed.events came.ports)

  pauses_on : (pieces : List Piece) (least since at : ℕ) (p : Progress) (now : Option (List ℕ))
      → BuffersFrom least window draft count → Since passed.events taken least since
      → length taken ≡ min p.offset limit → Pauses p.offset since (holding held draft.buffered) (holding now pieces) at
      → Paused passed taken window (with_pieces draft pieces) count at p now
  pauses_on pieces least since at p now from last offset_is (inl on) = record {
    came = rw (on.2, on.3) came;
    least = least;
    from = rw on.2 from;
    last = rw on.0 last;
    near = let same = on.0 in let near = on.1 in omega (arith, same, near);
  }
  pauses_on pieces least since at p now from last offset_is (inr written) =
      let all = outs passed.events (window_for passed) in
      let P : List Piece → Type 0 = λ ps. IsDraft (with_pieces draft ps) passed.base now all in
      let Q : List Piece → Type 0 = λ ps. AreFrom (count + 1 - length (waiting window)) ps in
      let same = written.0 in
      let counts = counted passed window draft count held came in
      record {
        came = record {
          ports = came.ports;
          words = came.words;
          version_is = came.version_is;
          window_is = came.window_is;
          count_is = came.count_is;
          draft_is = subst P (sym written.1)
              (out_draft draft.file draft.buffered [] passed.base held now all came.draft_is
              (none_buffered held now draft.buffered
              (written.2.stands held draft.buffered (only_buffered held draft.buffered))));
        };
        least = count + 1 - length (waiting window);
        from = record { buffered = subst Q (sym written.1) tt; later = omega (arith, counts) };
        last = rw same (since_here passed.events taken (count + 1 - length (waiting window)) p.offset offset_is
            (omega (arith, wait_few, counts, came.count_is)));
        near = omega (arith, same);
      }

  -- the flush failed at a record that had to be written at the last event or before
  breaks_any : (now : Option (List ℕ)) (lacking : ℕ) → BreaksWriting held now draft.buffered lacking
      → FailsAfter passed now lacking (WriteFailed lacking)
  breaks_any now lacking breaks =
      let off = breaks.off held draft.buffered (only_buffered held draft.buffered) in
      let known = came.draft_is.lacks now lacking off in
      let output = output_of draft passed.base now in
      let first = gone passed window draft count held came in
      let last = rest passed window draft count held came in
      let any = rest_refused passed window draft count held came now (WriteFailed lacking) wait_few
      (fails_wider output first last lacking (WriteFailed lacking) known) in
      let among = fails_among output first lacking (WriteFailed lacking) known in
      let some = known.number_is in
      record {
        due = elim (none_or_full passed.events (window_for passed)) [
          | inl none ↦ absurd (omega (arith, among, some, ap length none))
          | inr full ↦ omega (
            arith,
            among,
            full,
            waiting_size window,
            counted passed window draft count held came,
            ap size came.window_is,
            came.count_is,
          )
        ];
        fails = any.fails;
      }

-- one more event was processed, and the reader has returned again
module _ (version : ℕ) (before now : Streams) (window : Window) (draft : Draft) (count since : ℕ) (new : Progress)
    (e : Event) (at : Awaits version before now window draft count since new (Ok e)) where
  abbrev passed : Passed
  passed = record { version = version; events = at.events; base = before.held }

  pub takes : Takes (reader_input at.old at.left) (reader_input new now.left) (e ∷ [])
  takes = at.answer.0

  version_is : new.version ≡ version
  version_is = omega (arith, at.answer.1, at.same)

  all_taken : before.left ≡ prepended (at.taken ++ takes.taken) now.left
  all_taken = taken_on before.left at.left now.left at.taken takes.taken at.bytes takes.bytes

  all_says : (rest : List ℕ) → capture ((at.taken ++ takes.taken) ++ rest) ≡ then_events (at.events ++ e ∷ [])
      (capture_from new rest)
  all_says rest = says_on capture at.old new at.events (e ∷ []) at.taken takes.taken at.says takes.says rest

  all_needed : AreNeeded capture (at.events ++ e ∷ []) (at.taken ++ takes.taken)
  all_needed = needed_on capture at.old at.events e at.taken takes.taken at.says at.needed takes.needed

  -- the bytes read, with these events of them
  abbrev way_of : List Event → Way
  way_of events = record { version = version; taken = at.taken ++ takes.taken; events = events }

  says_first : (events : List Event) → SaysFirst capture version (at.taken ++ takes.taken) (at.events ++ e ∷ [])
  says_first events rest = (capture_from new rest, all_says rest, version_from new rest at.answer.1 ∙ version_is)

  next_version : (newer : Progress) (left : Option (List ℕ)) (next : Result Event Stop)
      → Answers new newer now.left left next → new.version ≡ newer.version
  next_version newer left (Ok x) answer =
      takes_version new newer now.left left (x ∷ []) answer.0 at.answer.1 answer.1
  next_version newer left (Err stop) answer =
      stops_version new newer.version stop answer.taken left answer.says at.answer.1

  all_offset : length (at.taken ++ takes.taken) ≡ min new.offset limit
  all_offset = taken_count new (at.events ++ e ∷ []) (at.taken ++ takes.taken) at.answer.1 all_says

  last_on : Since (at.events ++ e ∷ []) (at.taken ++ takes.taken) at.least since
  last_on = since_more at.events e at.taken takes.taken at.least since at.last all_needed

  -- after the event, what is buffered is as late as before it
  from_on : (next_window : Window) (next_draft : Draft) (held : Option (List ℕ))
      → Came (and_event passed e) next_window next_draft (count + 1) held → AreFrom at.least next_draft.buffered
      → BuffersFrom at.least next_window next_draft (count + 1)
  from_on next_window next_draft held came from =
      let w = window_for passed in
      let more = ap length (outs_more at.events e w) in
      let long = length-append (outs at.events w) (leaving (pushed (window_after at.events w) e)) in
      let counts = counted passed window draft count now.held at.came in
      let counts_now = counted (and_event passed e) next_window next_draft (count + 1) held came in
      record { buffered = from; later = omega (arith, at.from.later, more, long, counts, counts_now) }

  pub paused_on : (next_window : Window) (next_draft : Draft) (pieces : List Piece) (offset : ℕ)
      (held held_now : Option (List ℕ)) → Came (and_event passed e) next_window next_draft (count + 1) held
      → AreFrom at.least next_draft.buffered
      → Pauses new.offset since (holding held next_draft.buffered) (holding held_now pieces) offset
      → Paused (and_event passed e) (at.taken ++ takes.taken) next_window (with_pieces next_draft pieces) (count + 1)
      offset new held_now
  paused_on next_window next_draft pieces offset held held_now came from pauses =
      pauses_on (and_event passed e) (at.taken ++ takes.taken) next_window next_draft (count + 1) held came pieces
      at.least since offset new held_now (from_on next_window next_draft held came from) last_on all_offset pauses

  pub goes_on : (newer : Progress) (left held : Option (List ℕ)) (faults : ℕ) (next_window : Window)
      (next_draft : Draft) (offset : ℕ) (next : Result Event Stop)
      → Paused (and_event passed e) (at.taken ++ takes.taken) next_window next_draft (count + 1) offset new held
      → IfOk next (λ event. Takes (reader_input new now.left) (reader_input newer left) (event ∷ []))
      → OnOk next (1 ≤ newer.version)
      → IfErr next (λ stop. StopsAt (reader_input new now.left) (reader_input newer left) stop)
      → Awaits version before (streams left faults held) next_window next_draft (count + 1) offset newer next
  goes_on newer left held faults next_window next_draft offset next paused took answered stops =
      let answer = answers new newer now.left left next took answered stops in
      let known = next_version newer left next answer in
      record {
        left = now.left;
        old = new;
        taken = at.taken ++ takes.taken;
        bytes = all_taken;
        events = at.events ++ e ∷ [];
        says = all_says;
        needed = all_needed;
        reading = inr at.answer.1;
        near = paused.near;
        least = paused.least;
        from = paused.from;
        last = paused.last;
        came = paused.came;
        named = inr (omega (arith, at.answer.1, known));
        same = omega (arith, at.same, known);
        answer = answer;
      }

  -- few bytes are read after the event at which a record had to be written
  few_before : (number : ℕ) → at.least ≤ number → number + 4096 ≤ length at.events
      → AreFewAfter capture (take (number + 4096) at.events) (at.taken ++ takes.taken) most_after
  few_before number from most = few_later at.old at.events at.taken takes.taken at.least since (number + 4096) at.last
      at.reading at.says at.near takes.needed (omega (arith, from)) most

  few_now : (number : ℕ) → at.least ≤ number → number + 4096 ≤ length (at.events ++ e ∷ [])
      → AreFewAfter capture (take (number + 4096) (at.events ++ e ∷ [])) (at.taken ++ takes.taken) most_after
  few_now number from most =
      let P : List Event → Type 0 = λ es. AreFewAfter capture es (at.taken ++ takes.taken) most_after in
      elim (cases_lt (length at.events) (number + 4096)) [
        | inl last ↦ few_last (at.events ++ e ∷ []) (at.taken ++ takes.taken) (number + 4096) all_needed
            (omega (arith, last, most, length-append at.events (e ∷ [])))
        | inr before ↦ subst P (sym (take-append-le (number + 4096) at.events (e ∷ []) before))
            (few_before number from before)
      ]

  refuses : (IsAtPorts e → ⊥) → RefusesNext (way_of at.events)
  refuses refused = record { event = e; refused = refused; says = says_first at.events; needed = all_needed }

  refused_says : (held : Option (List ℕ)) (ending : SlimEnding) → (IsAtPorts e → ⊥) → EndsRefused passed held ending
      → LacksFrom at.least ending
      → SaysEnding (way_of at.events) before (streams now.left now.faults held) ending
  refused_says held (NotFlat number) refused all from = (all, refuses refused)
  refused_says held (TooLong number) refused fails from = (
    record { due = inr (fails.last, inr (refuses refused)); fails = fails.fails },
    is_too_long (way_of at.events) before held number number fails.fails,
  )
  refused_says held (WriteFailed number) refused fails from =
      inl (record {
        due = inr (fails.some, inr (refuses refused));
        few = few_before number from;
        fails = fails.fails;
      })
  refused_says held Done refused ends from = absurd ends
  refused_says held (Stopped number stop) refused ends from = absurd ends

  pushed_says : (held : Option (List ℕ)) (ending : SlimEnding) → EndsPushed (and_event passed e) held ending
      → LacksFrom at.least ending
      → SaysEnding (way_of (at.events ++ e ∷ [])) before (streams now.left now.faults held) ending
  pushed_says held (TooLong number) fails from =
      let says = says_first (at.events ++ e ∷ []) in (
        record {
          due = inl (record { number_is = fails.due; says = says; needed = all_needed });
          fails = fails.fails;
        },
        is_too_long (way_of (at.events ++ e ∷ [])) before held number number fails.fails,
      )
  pushed_says held (WriteFailed number) fails from =
      let says = says_first (at.events ++ e ∷ []) in
      inl (record {
        due = inl (record { number_is = fails.due; says = says; needed = all_needed });
        few = few_now number from;
        fails = fails.fails;
      })
  pushed_says held Done ends from = absurd ends
  pushed_says held (Stopped number stop) ends from = absurd ends
  pushed_says held (NotFlat number) ends from = absurd ends

  -- the flush failed at a pause
  pub pause_end : (next_window : Window) (next_draft : Draft) (held held_now : Option (List ℕ)) (lacking : ℕ)
      → Came (and_event passed e) next_window next_draft (count + 1) held → AreFrom at.least next_draft.buffered
      → BreaksWriting held held_now next_draft.buffered lacking
      → EndsSlim before (streams now.left now.faults held_now) (WriteFailed lacking)
  pause_end next_window next_draft held held_now lacking came from breaks =
      let off = breaks.off held next_draft.buffered (only_buffered held next_draft.buffered) in
      record {
        way = way_of (at.events ++ e ∷ []);
        bytes = all_taken;
        ports = came.ports;
        says = pushed_says held_now (WriteFailed lacking)
            (breaks_any (and_event passed e) (at.taken ++ takes.taken) next_window next_draft (count + 1) held came
            held_now lacking breaks)
            (from_off at.least next_draft.buffered held held_now lacking from off);
      }

  pub event_end : (held : Option (List ℕ)) (ending : SlimEnding) → EndsEvent passed e held ending
      → LacksFrom at.least ending → EndsSlim before (streams now.left now.faults held) ending
  event_end held ending ends from =
      elim ends [
        | inl u ↦ record {
          way = way_of (at.events ++ e ∷ []);
          bytes = all_taken;
          ports = ports_append at.events (e ∷ []) at.came.ports (u.0, tt);
          says = pushed_says held ending u.1 from;
        }
        | inr u ↦ record {
          way = way_of at.events;
          bytes = all_taken;
          ports = at.came.ports;
          says = refused_says held ending u.0 u.1 from;
        }
      ]
