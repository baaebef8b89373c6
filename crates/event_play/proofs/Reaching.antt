-- Playing a capture, event by event.
use Rattle.std.proofs.Common.{◌≡◌, ◌≤◌, inl, inr, ℕ, ◌+◌, ◌++◌, List, [], ◌∷◌, Option, None, Some, Ok}
use Rattle.std.proofs.Common.{option_to_list, refl, ap, sym, subst, ◌∙◌, append_assoc, arith}
use Rattle.std.proofs.Common.{length, length-append}
use Rattle.dev_io.specs.Device.{AppendsPart}
use Rattle.dev_io.proofs.Appended.{appended-nil}
use Rattle.gathered_out.specs.Pieces.{AreOut, Piece, piece}
use Rattle.gathered_out.specs.Puts.{BreaksWriting, IsPut, holding}
use Rattle.gathered_out.proofs.Buffers.{BreaksDue, Buffers, breaks_put, buffers_more, buffers_off}
use Rattle.gathered_out.proofs.Buffers.{buffers_on, buffers_written}
use Rattle.gp0_packets.specs.declared.note.Note.{Note}
use Rattle.gpu_capture.specs.Capture.{Captured, then_events}
use Rattle.gpu_capture.specs.Reader.{capture_from}
use Rattle.gpu_capture.specs.declared.event.Event.{Event}
use Rattle.gpu_capture.specs.declared.progress.Progress.{Progress}
use Rattle.gpu_taps.specs.Tally.{Reading}
use Rattle.event_play.specs.Ends.{PlaysEvent, ShowsPart, FeedsPart, FaultsEvent, EndsEvent}
use Rattle.event_play.specs.Ends.{next_event, event_lines, event_lines_cost, play_ending}
use Rattle.event_play.specs.Frames.{frames_after}
use Rattle.event_play.specs.Fed.{fed_notes}
use Rattle.event_play.specs.Feeding.{fed_lines}
use Rattle.event_play.specs.Lines.{IsBuffered, MayBuffer, WritesAfter, lines_for}
use Rattle.event_play.specs.Out.{lines_of, replay_cost, out_bytes}
use Rattle.event_play.specs.Out.{out_cost}
use Rattle.event_loop.proofs.Awaiting.{held_all}
use Rattle.event_loop.specs.Closing.{EndsAfter, WritesBefore}
use Rattle.event_loop.specs.declared.ended.Ended.{Ended}
use Rattle.event_loop.specs.declared.ended.Ended.TheVariants.{Refused}
use Rattle.event_loop.specs.declared.ended.Halt.{Halt}
use Rattle.event_loop.specs.declared.ended.Halt.TheVariants.{Lacks, Refuses}
use Rattle.event_play.specs.Playing.{SaysEnding, EndsPlay, IsLast, DueIn, LeadsTo, plays, whole}
use Rattle.event_play.specs.Replay.{Replay, Script, part_fed, after_event, go_on, played_events, replayed, next_number}
use Rattle.event_play.specs.RigState.{RigState, StandsFor}
use Rattle.event_play.specs.Step.{Machine, event_cost, event_words}
use Rattle.event_play.specs.Streams.{Outlets, Streams, streams}
use Rattle.event_play.specs.Changes.{event_changes}
use Rattle.event_play.specs.Told.{told_notes}
use Rattle.event_play.specs.declared.ending.Ending.{Ending}
use Rattle.event_play.specs.declared.ending.Ending.TheVariants.{Faulted, WriteFailed}
use Rattle.event_play.specs.declared.ending.Mode.{Mode}
use Rattle.event_play.specs.declared.ending.Mode.TheVariants.{Vram, Shot, Report, Frames, Sums, Pixel}
use Rattle.event_play.specs.declared.ending.Mode.TheVariants.{List as Listing, Play as Words}
use Rattle.event_play.specs.declared.fault.EventFault.{EventFault}
use Rattle.event_play.proofs.Awaiting.{Reaches, GoesOn, Awaits}
use Rattle.event_play.proofs.BoxCosts.{AreSmall, within_boxes}
use Rattle.event_play.proofs.Feeds.{told-append}
use Rattle.event_play.proofs.Following.{leads_before, leads_part, read_to, read_played}
use Rattle.event_play.proofs.Grows.{lines-append, lines_cost-append, replay_on, after-event, out_grows, cost_within}
use Rattle.event_play.proofs.Lacking.{WasDue, due_here, due_on, lacks_lines}
use Rattle.event_play.proofs.Parts.{event_feeds, no_frames, part_cost}
use Rattle.event_play.proofs.Putting.{never_both}
use Rattle.event_play.specs.PlayState.{play_state}
use Rattle.event_play.specs.Step.{showing}
use Rattle.event_play.specs.PlayInput.{at_end, play_input, replay_pair}

-- ---- one more event

-- the replay continues from that with the event
pub goes_on : (t next : Replay) (event : Event) (c : Captured) → after_event t event ≡ Ok next
    → replayed t (then_events (event ∷ []) c) ≡ replayed next c
goes_on t next event c is =
    ap (λ r. go_on r (λ next. played_events next c.events c.ending c.rest)
    (λ fault. record { replay = t; ending = Faulted (next_number t.played) fault; rest = c.rest })) is

-- the output so far, and that of an event
lines_more : (mode : Mode) (t : Replay) (event : Event) (machine : Machine) (shown : Option ℕ) (notes : List Note)
    → lines_of mode (replay_on t event machine shown notes)
    ≡ lines_of mode t ++ event_lines mode (next_event t event) (showing machine shown notes)
lines_more mode t event machine shown notes = lines-append mode t.shown (option_to_list shown)
    t.frames (frames_after event (next_number t.played) machine.gpu.parts) t.notes notes t.changes
    (event_changes t.state (next_number t.played) event)

pub heard_on : (before mid now : List Reading) (told notes : List Note) → mid ≡ told_notes told before
    → now ≡ told_notes notes mid → now ≡ told_notes (told ++ notes) before
heard_on before mid now told notes was took = took ∙ ap (told_notes notes) was ∙ sym (told-append told notes before)

pub spent_on : (before mid now a b : ℕ) → mid ≤ before + a → now ≤ mid + b → now ≤ before + (a + b)
spent_on before mid now a b was took = omega arith

-- The sum of smaller parts is smaller.
pub both_small : (a b c d : ℕ) → a ≤ c → b ≤ d → a + b ≤ c + d
both_small a b c d first next = omega arith

-- the store steps so far, and those of an event and its output
cost_on : (mode : Mode) (before mid at now : ℕ) (t : Replay) (event : Event) (machine : Machine) (shown : Option ℕ)
    (notes : List Note)
    → mid ≤ before + replay_cost mode t → at ≤ mid + event_cost t.state event
    → now ≤ at + event_lines_cost mode (next_event t event) machine
    → now ≤ before + replay_cost mode (replay_on t event machine shown notes)
cost_on mode before mid at now t event machine shown notes was took spent =
    let e = lines_cost-append mode t.frames (frames_after event (next_number t.played) machine.gpu.parts) t.changes
    (event_changes t.state (next_number t.played) event) in
    omega (arith, e, was, took, spent)

-- In a mode with output after an event, that output belongs to the event.
due_after : (mode : Mode) (t last : Replay) (event : Event) → WritesAfter mode → after_event t event ≡ Ok last
    → DueIn mode t t last event
due_after Words t last event after is = (refl, is)
due_after (Frames at) t last event after is = (refl, is)
due_after (Sums at) t last event after is = (refl, is)
due_after Listing t last event after is = absurd after
due_after (Pixel cell) t last event after is = absurd after
due_after Vram t last event after is = absurd after
due_after Shot t last event after is = absurd after
due_after Report t last event after is = absurd after

-- the sink, the taps and the store steps, with the bytes left of the source
abbrev pub beside : Option (List ℕ) → Outlets → Streams
beside left at = streams left at.held at.heard at.steps

-- In a mode with output after an event, the buffer is empty.
none_buffered_for : (mode : Mode) (buffered : List Piece) → WritesAfter mode → MayBuffer mode buffered → buffered ≡ []
none_buffered_for mode buffered after (inl is) = absurd (never_both mode after is)
none_buffered_for mode buffered after (inr none) = none

-- A flush can fail only in a mode that buffers lines.
pub buffers_of : (mode : Mode) (before now : Option (List ℕ)) (buffered : List Piece) (lacking : ℕ)
    → MayBuffer mode buffered → BreaksWriting before now buffered lacking → IsBuffered mode
buffers_of mode before now buffered lacking (inl is) breaks = is
buffers_of mode before now buffered lacking (inr none) breaks =
    let out : AreOut before [] before buffered = rw none (record {
      written = [];
      are = refl;
      stands = sym (appended-nil before);
    }) in
    let off = breaks.off before [] out in
    absurd (no_pieces off.whole off.broken off.later off.are)
  where
    no_pieces : (whole : List Piece) (broken : Piece) (later : List Piece) → [] ≡ whole ++ broken ∷ later → ⊥
    no_pieces [] broken later is = cc
    no_pieces (p ∷ whole) broken later is = cc

module _ (mode : Mode) (script : List ℕ → Script) (before : Streams) (left : Option (List ℕ)) (mid now : Outlets)
    (since : ℕ) (was rig : RigState) (p : Progress) (event : Event)
    (reached : Awaits mode script before (beside left mid) mid.buffered since was p (Ok event)) where
  -- the output so far, and that of the event
  put_on : (next : Replay) (due : List ℕ) → after_event reached.replay event ≡ Ok next
      → lines_of mode next ≡ lines_of mode reached.replay ++ due
      → IsPut (piece (next_number reached.replay.played) due) (holding mid.held mid.buffered)
      (holding now.held now.buffered)
      → Buffers (WasDue mode script (reached.events ++ event ∷ []) reached.flushed reached.taken) before.held
      (lines_of mode next) now.held now.buffered
  put_on next due is lines put =
      let t = reached.replay in
      let read = reached.says.read in
      rw lines
      (buffers_on (WasDue mode script reached.events reached.flushed reached.taken)
      (WasDue mode script (reached.events ++ event ∷ []) reached.flushed reached.taken) before.held (lines_of mode t)
      mid.held mid.buffered reached.buffers
      (due_on mode script reached.events (event ∷ []) reached.flushed reached.taken)
      (next_number t.played) due
      (due_here mode script read.first t next reached.events event reached.flushed reached.after reached.taken due
      read.begins read.follows reached.taken_is read.needed is lines)
      now.held now.buffered put)

  pub plays_on : PlaysEvent mode (next_event reached.replay event) mid (play_state now rig)
      → Reaches mode script before (beside left now) now.buffered rig (GoesOn mode script since p)
  plays_on plays =
      let t = reached.replay in
      let next = replay_on t event plays.step.machine plays.shown plays.step.notes in
      let is = after-event t event plays.step.machine plays.shown plays.step.notes plays.step.is in
      record {
        taken = reached.taken;
        bytes = reached.bytes;
        needed = reached.needed;
        events = reached.events ++ event ∷ [];
        replay = next;
        flushed = reached.flushed;
        after = reached.after;
        taken_is = reached.taken_is;
        says = record {
          plays_on = λ rest. reached.says.says rest ∙ goes_on t next event (capture_from p rest) is;
          read = read_played script p t next reached.taken reached.events event reached.says.read is;
          lies = reached.says.lies;
          few = reached.says.few;
        };
        stands = record { state = plays.step.stands; played = sym plays.played };
        buffers = put_on next
            (event_lines mode (next_event t event) (showing plays.step.machine plays.shown plays.step.notes)) is
            (lines_more mode t event plays.step.machine plays.shown plays.step.notes) plays.put;
        free = plays.free;
        heard = heard_on before.heard mid.heard now.heard t.notes plays.step.notes reached.heard plays.step.heard;
        cost = cost_on mode before.steps mid.steps plays.at now.steps t event plays.step.machine plays.shown
            plays.step.notes reached.cost plays.step.cost plays.spent;
      }

  -- ---- an event that ends playing

  module _ (is_small : AreSmall (plays script)) where
    -- an ending, from what it says; the store steps are those of a replay that continues, and the buffer may have been
    -- flushed since
    ends_at : (t last : Replay) (ending : Ending) (held : Option (List ℕ))
        → SaysEnding (play_input mode script reached.taken) (replay_pair t last)
        before (streams left held now.heard now.steps) ending → IsLast t last ending
        → StandsFor rig last → now.heard ≡ told_notes last.notes before.heard
        → ((rest : List ℕ) → now.steps ≤ before.steps + out_cost mode (plays script (reached.taken ++ rest)))
        → EndsPlay mode script before (at_end (streams left held now.heard now.steps) rig) ending
    ends_at t last ending held says is_last stands heard cost = record {
      taken = reached.taken;
      bytes = reached.bytes;
      needed = reached.needed;
      replay = t;
      last = last;
      says = says;
      is_last = is_last;
      stands = stands;
      heard = heard;
      cost = cost;
      box_cost = λ rest.
          within_boxes mode (plays script) (reached.taken ++ rest) before.steps now.steps is_small (cost rest);
    }

    -- Of the lines so far and those of the event, a byte was not written.
    lines_lack : (number : ℕ) (last : Replay) (held : Option (List ℕ)) → IsBuffered mode
        → BreaksDue (WasDue mode script (reached.events ++ event ∷ []) reached.flushed reached.taken) before.held held
        number
        → LeadsTo reached.says.read.first (reached.events ++ event ∷ []) last
        → StandsFor rig last → now.heard ≡ told_notes last.notes before.heard
        → ((rest : List ℕ) → now.steps ≤ before.steps + out_cost mode (plays script (reached.taken ++ rest)))
        → EndsPlay mode script before (at_end (streams left held now.heard now.steps) rig) (WriteFailed number)
    lines_lack number last held buffers breaks leads stands heard cost =
        let read = reached.says.read in
        let few = reached.says.few buffers in
        let long = ap length reached.taken_is in
        let both = length-append reached.flushed reached.after in
        ends_at breaks.is.replay last (WriteFailed number) held
        (lacks_lines mode script before (streams left held now.heard now.steps) read.first last read.version
        (reached.events ++ event ∷ []) reached.flushed reached.taken number breaks buffers read.begins
        (λ rest. (capture_from p rest, read.says rest, read.version_is rest)) leads (omega (arith, few, long, both)))
        tt stands heard cost

    -- the event has a fault, and the buffer is flushed or the flush failed
    fault_ends : (fault : EventFault) (held : Option (List ℕ)) (result : Ended EventFault)
        → FaultsEvent (next_event reached.replay event) fault (play_state mid was) (play_state now rig)
        → WritesBefore (Refused fault) now.buffered now.held held result
        → EndsPlay mode script before (at_end (streams left held now.heard now.steps) rig)
        (play_ending result (next_number rig.played))
    fault_ends fault held result faults writes =
        let t = reached.replay in
        let says = reached.says.says in
        let due = WasDue mode script reached.events reached.flushed reached.taken in
        let Q : Outlets → Type 0 = λ (o : Outlets). Buffers due before.held (lines_of mode t) o.held o.buffered in
        let F : Outlets → Type 0 = λ (o : Outlets). MayBuffer mode o.buffered in
        let buffers = subst Q (sym faults.unchanged) reached.buffers in
        let free = subst F (sym faults.unchanged) reached.free in
        let heard : now.heard ≡ mid.heard = ap (λ (at : Outlets). at.heard) faults.unchanged in
        let steps : now.steps ≡ mid.steps = ap (λ (at : Outlets). at.steps) faults.unchanged in
        let stands : StandsFor rig t = rw faults.stands reached.stands in
        let number = next_number rig.played in
        let at = ap next_number (sym stands.played) in
        let cost = λ (rest : List ℕ).
        cost_within mode t (plays script (reached.taken ++ rest)) (then_events (event ∷ []) (capture_from p rest))
        before.steps now.steps (says rest) (omega (arith, reached.cost, steps)) in
        elim writes [
          | inl wrote ↦
              rw wrote.0
              (ends_at t t (Faulted number fault) held (
                λ rest. let e = says rest in (rw (e, faults.is) refl, rw (e, faults.is, at) refl),
                buffers_written due before.held (lines_of mode t) now.held held now.buffered buffers wrote.1,
              )
              refl stands (heard ∙ reached.heard) cost)
          | inr broke ↦
              rw broke.1
              (lines_lack broke.0 t held (buffers_of mode now.held held now.buffered broke.0 free broke.2)
              (buffers_off (WasDue mode script (reached.events ++ event ∷ []) reached.flushed reached.taken) before.held
              (lines_of mode t) now.held held now.buffered broke.0
              (buffers_more due (WasDue mode script (reached.events ++ event ∷ []) reached.flushed reached.taken)
              before.held (lines_of mode t) now.held now.buffered
              (due_on mode script reached.events (event ∷ []) reached.flushed reached.taken) buffers) broke.2)
              (leads_before reached.says.read.first t reached.events event reached.says.read.follows)
              stands (heard ∙ reached.heard) cost)
        ]

    shows_ends : (number : ℕ) → number ≡ next_number reached.replay.played
        → ShowsPart mode (next_event reached.replay event) mid (play_state now rig)
        → EndsPlay mode script before (at_end (beside left now) rig) (WriteFailed number)
    shows_ends number at parts =
        let t = reached.replay in
        let stood = held_all (WasDue mode script reached.events reached.flushed reached.taken) before.held
        (lines_of mode t) mid.held mid.buffered (none_buffered_for mode mid.buffered parts.mode_is reached.free)
        reached.buffers in
        let next = replay_on t event parts.step.machine parts.shown parts.step.notes in
        let due = event_lines mode (next_event t event) (showing parts.step.machine parts.shown parts.step.notes) in
        let is = after-event t event parts.step.machine parts.shown parts.step.notes parts.step.is in
        let says = λ (rest : List ℕ). reached.says.says rest ∙ goes_on t next event (capture_from p rest) is in
        ends_at t next (WriteFailed number) now.held
        (record {
          number_is = at;
          start = t;
          origin = inl (record {
            before = reached.events;
            event = event;
            is_read = read_to script p t reached.taken reached.events event reached.says.read;
            inside = due_after mode t next event parts.mode_is is;
            lines = lines_more mode t event parts.step.machine parts.shown parts.step.notes;
          });
          due = due;
          held = let P : Option (List ℕ) → Type 0 = λ held. AppendsPart held now.held due in subst P stood parts.held;
          prefix = λ rest.
              let c = capture_from p rest in
              let more = out_grows mode before.heard next c.events c.ending c.rest in (
                more.0,
                ap (out_bytes mode before.heard) (says rest) ∙ more.1
                    ∙ ap (λ xs. xs ++ more.0)
                    (lines_more mode t event parts.step.machine parts.shown parts.step.notes)
                    ∙ append_assoc (lines_of mode t) due more.0,
              );
        })
        tt (record { state = parts.step.stands; played = sym parts.played })
        (heard_on before.heard mid.heard now.heard t.notes parts.step.notes reached.heard parts.step.heard)
        (λ rest. cost_within mode next _ (capture_from p rest) before.steps now.steps (says rest)
        (cost_on mode before.steps mid.steps parts.at now.steps t event parts.step.machine parts.shown parts.step.notes
        reached.cost parts.step.cost parts.spent))

    feeds_ends : (number : ℕ) → FeedsPart mode (next_event reached.replay event) mid (play_state now rig) number
        → EndsPlay mode script before (at_end (beside left now) rig) (WriteFailed number)
    feeds_ends number parts =
        let t = reached.replay in
        let stop = parts.feeding in
        let n = next_number t.played in
        let words = stop.before ++ stop.word ∷ stop.after in
        let feeds = event_feeds t.state n event stop.before stop.word stop.after stop.is in
        let next = replay_on t event feeds.machine None (fed_notes t.state.gpu n words) in
        let is = after-event t event feeds.machine None (fed_notes t.state.gpu n words) feeds.is in
        let says = λ (rest : List ℕ). reached.says.says rest ∙ goes_on t next event (capture_from p rest) is in
        let due = fed_lines (Some mode) t.state.gpu n (event_words t.state event) in
        let quiet = no_frames t.state event n feeds.machine.gpu.parts stop.before stop.word stop.after stop.is in
        let lines : lines_of mode next ≡ lines_of mode t ++ due =
        lines_more mode t event feeds.machine None (fed_notes t.state.gpu n words)
        ∙ ap (λ frames. lines_of mode t ++ lines_for mode [] frames (fed_notes t.state.gpu n words)
        (event_changes t.state n event)) quiet
        ∙ ap (λ (all : List ℕ). lines_of mode t ++ lines_for mode [] [] (fed_notes t.state.gpu n all)
        (event_changes t.state n event)) (sym stop.is) in
        let read = reached.says.read in
        let done = stop.before ++ stop.word ∷ [] in
        lines_lack number (part_fed t done) now.held parts.buffers
        (breaks_put (WasDue mode script reached.events reached.flushed reached.taken)
        (WasDue mode script (reached.events ++ event ∷ []) reached.flushed reached.taken) before.held (lines_of mode t)
        mid.held mid.buffered reached.buffers
        (due_on mode script reached.events (event ∷ []) reached.flushed reached.taken) n due
        (due_here mode script read.first t next reached.events event reached.flushed reached.after reached.taken due
        read.begins read.follows reached.taken_is read.needed is lines)
        now.held number parts.breaks)
        (leads_part read.first t reached.events event done stop.after read.follows
        (stop.is ∙ sym (append_assoc stop.before (stop.word ∷ []) stop.after)))
        (record {
          state = record { gpu = stop.stands; ram = parts.ram; running = parts.running };
          played = parts.played;
        })
        (heard_on before.heard mid.heard now.heard t.notes (fed_notes t.state.gpu n done) reached.heard stop.heard)
        (λ rest. cost_within mode next (plays script (reached.taken ++ rest)) (capture_from p rest) before.steps
        now.steps (says rest)
        (cost_on mode before.steps mid.steps (mid.steps + event_cost t.state event) now.steps t event feeds.machine None
        (fed_notes t.state.gpu n words) reached.cost (omega arith)
        (rw (quiet, stop.is)
        (part_cost mode t.state.gpu n stop.before stop.word stop.after
        (event_cost t.state event) mid.steps now.steps feeds.cost stop.cost))))

    pub event_ends : (halt : Halt EventFault) (held : Option (List ℕ)) (result : Ended EventFault)
        → EndsEvent mode (next_event reached.replay event) (play_state mid was) (play_state now rig) halt
        → EndsAfter halt now.buffered now.held held result
        → EndsPlay mode script before (at_end (streams left held now.heard now.steps) rig)
        (play_ending result (next_number rig.played))
    event_ends (Refuses fault) held result ends after = fault_ends fault held result ends after
    event_ends (Lacks number) held result (inl parts) after = rw (after.0, after.1) (feeds_ends number parts)
    event_ends (Lacks number) held result (inr (at, parts)) after = rw (after.0, after.1) (shows_ends number at parts)

-- ---- a pause before the event is played

-- the flush failed
pub flush_ends : (mode : Mode) (script : List ℕ → Script) (before : Streams) (left : Option (List ℕ)) (mid : Outlets)
    (since : ℕ) (was : RigState) (p : Progress) (event : Event) (held : Option (List ℕ)) (number : ℕ)
    → Awaits mode script before (beside left mid) mid.buffered since was p (Ok event) → AreSmall (plays script)
    → BreaksWriting mid.held held mid.buffered number
    → EndsPlay mode script before (at_end (streams left held mid.heard mid.steps) was) (WriteFailed number)
flush_ends mode script before left mid since was p event held number reached is_small breaks =
    let t = reached.replay in
    let read = reached.says.read in
    let due = WasDue mode script reached.events reached.flushed reached.taken in
    let all = WasDue mode script (reached.events ++ event ∷ []) reached.flushed reached.taken in
    lines_lack mode script before left mid mid since was was p event reached is_small number t held
    (buffers_of mode mid.held held mid.buffered number reached.free breaks)
    (buffers_off all before.held (lines_of mode t) mid.held held mid.buffered number
    (buffers_more due all before.held (lines_of mode t) mid.held mid.buffered
    (due_on mode script reached.events (event ∷ []) reached.flushed reached.taken) reached.buffers) breaks)
    (leads_before read.first t reached.events event read.follows) reached.stands reached.heard
    (λ rest. cost_within mode t (plays script (reached.taken ++ rest))
    (then_events (event ∷ []) (capture_from p rest)) before.steps mid.steps (reached.says.says rest) reached.cost)
