-- Events that are played while their output is written.
use Rattle.std.proofs.Common.{◌≡◌, ◌≤◌, ◌⊎◌, inl, inr, ◌+◌, ℕ, List, [], ◌∷◌, ◌++◌, Option, None, Some, Ok}
use Rattle.std.proofs.Common.{option_to_list, refl, ap, subst, ◌∙◌, append-nil, sym, arith}
use Rattle.dev_io.specs.Device.{appended, AppendsPart}
use Rattle.gathered_out.specs.Pieces.{Piece, piece}
use Rattle.dev_io.proofs.Appended.{appended-nil}
use Rattle.gathered_out.specs.Puts.{BreaksPut, IsPut, holding}
use Rattle.gp0_packets.specs.declared.note.Note.{Note}
use Rattle.gpu_capture.specs.declared.event.Event.{Event}
use Rattle.gpu_core.specs.Kept.{Kept, kept_of}
use Rattle.gpu_core.specs.Machine.{State}
use Rattle.event_play.specs.Does.{Does, Stops, operation_lines}
use Rattle.event_play.specs.Ends.{FeedsPart, PlaysEvent, ShowsPart, next_event, event_lines, event_lines_cost}
use Rattle.event_play.specs.Feeding.{Feeds, StopsFeeding, drawing, fed_lines, in_event}
use Rattle.event_play.specs.Frames.{Frame, frames_after}
use Rattle.event_play.specs.Lines.{IsBuffered, MayBuffer, WritesAfter, lines_for, lines_while, lines_after}
use Rattle.event_play.specs.Lines.{lines_cost}
use Rattle.event_play.specs.Replay.{Replay, next_number}
use Rattle.event_play.specs.RigState.{RigState, StandsFor, machine_of}
use Rattle.event_play.specs.Step.{asked_words, done, event_words}
use Rattle.event_play.specs.Stepping.{HasStepped, numbered}
use Rattle.event_play.specs.Streams.{Outlets}
use Rattle.event_play.specs.Changes.{Change, event_changes}
use Rattle.event_play.specs.Operation.{operation_of}
use Rattle.event_play.specs.declared.ending.Mode.{Mode}
use Rattle.event_play.specs.declared.ending.Mode.TheVariants.{Vram, Shot, Report, Frames, Sums, Pixel}
use Rattle.event_play.specs.declared.ending.Mode.TheVariants.{List as Listing, Play as Words}
use Rattle.event_play.specs.declared.operation.Operation.{Operation}
use Rattle.event_play.specs.declared.operation.Operation.TheVariants as operation
use Rattle.event_play.specs.declared.operation.Words.TheVariants.{One}
use Rattle.event_play.proofs.Events.{HasDone, has_done}
use Rattle.event_play.proofs.Grows.{lines-none}
use Rattle.event_play.proofs.Putting.{breaks_at, held_same, never_both, put_at, put_after, put_both}
use Rattle.event_play.specs.PlayState.{PlayState, play_state}
use Rattle.event_play.specs.Step.{showing}

-- the lines of words, and then the output after the event
pub lines_both : (mode : Mode) (shown : List ℕ) (frames : List Frame) (notes : List Note) (changes : List Change)
    → lines_while mode notes changes ++ lines_after mode shown frames ≡ lines_for mode shown frames notes changes
lines_both Words shown frames notes changes = refl
lines_both Listing shown frames notes changes = append-nil _
lines_both (Frames at) shown frames notes changes = refl
lines_both (Sums at) shown frames notes changes = refl
lines_both (Pixel cell) shown frames notes changes = append-nil _
lines_both Vram shown frames notes changes = refl
lines_both Shot shown frames notes changes = refl
lines_both Report shown frames notes changes = refl

costs_both : (mode : Mode) (frames : List Frame) (changes : List Change)
    → lines_cost mode [] changes + lines_cost mode frames [] ≡ lines_cost mode frames changes
costs_both Words frames changes = refl
costs_both Listing frames changes = refl
costs_both (Frames at) frames changes = omega arith
costs_both (Sums at) frames changes = omega arith
costs_both (Pixel cell) frames changes = omega arith
costs_both Vram frames changes = refl
costs_both Shot frames changes = refl
costs_both Report frames changes = refl

-- A mode with output after an event has no lines of words.
while_none : (mode : Mode) (notes : List Note) (changes : List Change) → WritesAfter mode
    → lines_while mode notes changes ≡ []
while_none Words notes changes after = refl
while_none (Frames at) notes changes after = refl
while_none (Sums at) notes changes after = refl
while_none Listing notes changes after = absurd after
while_none (Pixel cell) notes changes after = absurd after
while_none Vram notes changes after = absurd after
while_none Shot notes changes after = absurd after
while_none Report notes changes after = absurd after

still_free : (mode : Mode) (old new : List Piece) → IsBuffered mode ⊎ (new ≡ old) → MayBuffer mode old
    → MayBuffer mode new
still_free mode old new (inl is) free = inl is
still_free mode old new (inr same) (inl is) = inl is
still_free mode old new (inr same) (inr none) = inr (same ∙ none)

-- If the buffer is empty and no line of a word is added, the sink is unchanged.
unwritten : (mode : Mode) (number : ℕ) (bytes : List ℕ) (before now : Option (List ℕ)) (old new : List Piece)
    → WritesAfter mode → IsBuffered mode ⊎ (new ≡ old) → MayBuffer mode old → bytes ≡ []
    → IsPut (piece number bytes) (holding before old) (holding now new) → now ≡ before
unwritten mode number bytes before now old new after (inl is) free none put = absurd (never_both mode after is)
unwritten mode number bytes before now old new after (inr same) (inl is) none put =
    absurd (never_both mode after is)
unwritten mode number bytes before now old new after (inr same) (inr empty) none put =
    held_same number before now (rw (none, same, empty) at put)

module _ (mode : Mode) (was mid rig : RigState) (t : Replay) (counted : ℕ) (event : Event) (asked : Operation)
    (shown : Option ℕ)
    (before now : Outlets) (held : Option (List ℕ)) (faults steps : ℕ)
    (is : Ok asked ≡ operation_of was.ram was.running event) (same : mid ≡ rig) (stands : StandsFor was t)
    (number : counted ≡ next_number t.played)
    (does : (s : State) → kept_of s ≡ was.gpu → (shown ≡ (done (machine_of was s) counted asked).shown)
    × Does (in_event counted (Some mode)) (machine_of was s) asked before (play_state now rig))
    (put : (s : State) → kept_of s ≡ was.gpu
    → IsPut (operation_lines (in_event counted (Some mode)) (machine_of was s) asked)
    (holding before.held before.buffered) (holding now.held now.buffered))
    (kept : IsBuffered mode ⊎ (now.buffered ≡ before.buffered)) (free : MayBuffer mode before.buffered) where
  -- after the output of the event was written
  abbrev written : Outlets
  written = record now { held = held; faults = faults; steps = steps }

  abbrev counts : RigState
  counts = record mid { played = counted }

  -- the step, with the replay's number for the event
  abbrev by_replay : (at : ℕ)
      → HasStepped t.state (numbered counted event) shown before (play_state (record now { steps = at }) counts)
      → HasStepped t.state (numbered (next_number t.played) event) shown before
      (play_state (record written { steps = at }) counts)
  by_replay at step = record {
    machine = step.machine;
    notes = step.notes;
    is = rw (← number) step.is;
    stands = step.stands;
    heard = step.heard;
    cost = step.cost;
  }

  did : HasDone (Some mode) t.state counted event shown before now counts
  did = has_done (Some mode) was mid rig counted counted event asked shown before now is same does t.state stands.state

  -- the frames after the event, by the rig and by the machine after it
  abbrev frames : List Frame
  frames = frames_after event counted mid.gpu.parts

  abbrev changes : List Change
  changes = event_changes t.state counted event

  abbrev words : List ℕ
  words = option_to_list shown

  frames_are : frames ≡ frames_after event (next_number t.played) did.step.machine.gpu.parts
  frames_are = ap (λ (kept : Kept). frames_after event counted kept.parts) (sym did.step.stands.gpu)
      ∙ ap (λ n. frames_after event n did.step.machine.gpu.parts) number

  changes_are : changes ≡ event_changes t.state (next_number t.played) event
  changes_are = ap (λ n. event_changes t.state n event) number

  -- all output of the event
  lines_are : lines_while mode did.step.notes changes ++ lines_after mode words frames
      ≡ event_lines mode (next_event t event) (showing did.step.machine shown did.step.notes)
  lines_are = lines_both mode words frames did.step.notes changes
      ∙ ap (λ frames. lines_for mode words frames did.step.notes changes) frames_are
      ∙ ap (lines_for mode words (frames_after event (next_number t.played) did.step.machine.gpu.parts)
      did.step.notes) changes_are

  asked_are : asked_words was.ram (Ok asked) ≡ event_words t.state event
  asked_are = rw (stands.state.ram, stands.state.running, ← is) refl

  -- the lines of its words were added
  words_put : IsPut (piece counted (lines_while mode did.step.notes changes)) (holding before.held before.buffered)
      (holding now.held now.buffered)
  words_put =
      put_at counted counted _ _ (holding before.held before.buffered) (holding now.held now.buffered) refl
      (ap (fed_lines (Some mode) t.state.gpu counted) asked_are
      ∙ ap (λ notes. lines_while mode notes changes) (sym did.asked_notes))
      (put t.state.gpu stands.state.gpu)

  free_after : MayBuffer mode now.buffered
  free_after = still_free mode before.buffered now.buffered kept free

  all_spent : steps ≤ now.steps + lines_cost mode frames []
      → steps ≤ did.at + event_lines_cost mode (next_event t event) did.step.machine
  all_spent after =
      let spent = did.spent in
      let both = costs_both mode frames changes in
      let e : lines_cost mode frames changes ≡ event_lines_cost mode (next_event t event) did.step.machine =
      ap (λ frames. lines_cost mode frames changes) frames_are
      ∙ ap (lines_cost mode (frames_after event (next_number t.played) did.step.machine.gpu.parts)) changes_are in
      omega (arith, after, spent, both, e)

  pub plays : held ≡ appended now.held (lines_after mode words frames) → steps ≤ now.steps + lines_cost mode frames []
      → PlaysEvent mode (next_event t event) before (play_state written counts)
  plays wrote spent = record {
    shown = shown;
    at = did.at;
    step = by_replay did.at did.step;
    played = number;
    put = put_at counted (next_number t.played) _ _ (holding before.held before.buffered) (holding held now.buffered)
        number lines_are
        (put_both counted (lines_while mode did.step.notes changes) (lines_after mode words frames) before.held
        now.held held before.buffered now.buffered now.buffered words_put
        (put_after mode counted words frames now.held held now.buffered free_after wrote));
    free = free_after;
    spent = all_spent spent;
  }

  pub shows_part : WritesAfter mode → AppendsPart now.held held (lines_after mode words frames)
      → steps ≤ now.steps + lines_cost mode frames []
      → ShowsPart mode (next_event t event) before (play_state written counts)
  shows_part after part spent =
      let due = lines_after mode words frames in
      let none : lines_while mode did.step.notes changes ≡ [] = while_none mode did.step.notes changes after in
      let all : due ≡ event_lines mode (next_event t event) (showing did.step.machine shown did.step.notes) =
      ap (λ xs. xs ++ due) (sym none) ∙ lines_are in
      let same : now.held ≡ before.held = unwritten mode counted (lines_while mode did.step.notes changes) before.held
      now.held before.buffered now.buffered after kept free none words_put in
      record {
        mode_is = after;
        shown = shown;
        at = did.at;
        step = by_replay did.at did.step;
        played = number;
        held = let P : List ℕ → Type 0 = λ xs. AppendsPart before.held held xs in
            let Q : Option (List ℕ) → Type 0 = λ h. AppendsPart h held due in
            subst P all (subst Q same part);
        spent = all_spent spent;
      }

-- its words were fed up to one whose line could not be written
pub feeds_part : (mode : Mode) (was rig : RigState) (t : Replay) (counted : ℕ) (event : Event) (asked : Operation)
    (before now : Outlets) (lacking : ℕ) → Ok asked ≡ operation_of was.ram was.running event → StandsFor was t
    → counted ≡ next_number t.played → IsBuffered mode
    → BreaksPut (operation_lines (in_event counted (Some mode)) (machine_of was t.state.gpu) asked)
    (holding before.held before.buffered) now.held lacking
    → Stops (in_event counted (Some mode)) (machine_of was t.state.gpu) asked before (play_state now rig)
    → rig.played ≡ was.played
    → FeedsPart mode (next_event t event) before (play_state now rig) lacking
feeds_part mode was rig t counted event asked before now lacking is stands number buffers breaks stops played =
    let asked_are : asked_words was.ram (Ok asked) ≡ event_words t.state event =
    rw (stands.state.ram, stands.state.running, ← is) refl in
    let now_at = drawing now rig.gpu in
    let P : ℕ → Type 0 = λ n. StopsFeeding (in_event n (Some mode)) t.state.gpu (asked_words was.ram (Ok asked)) before
    now_at in
    let Q : List ℕ → Type 0 = λ words. StopsFeeding (in_event (next_number t.played) (Some mode)) t.state.gpu words
    before now_at in
    record {
      buffers = buffers;
      breaks = breaks_at counted (next_number t.played) _ _ (holding before.held before.buffered) now.held lacking
          number
          (ap (λ n. fed_lines (Some mode) t.state.gpu n (asked_words was.ram (Ok asked))) number
          ∙ ap (fed_lines (Some mode) t.state.gpu (next_number t.played)) asked_are)
          breaks;
      feeding = subst Q asked_are (subst P number stops.feeding);
      ram = stands.state.ram ∙ stops.ram;
      running = stands.state.running ∙ stops.running;
      played = stands.played ∙ sym played;
    }

-- Nothing is written after an event that neither shows a word nor has a frame.
pub nothing_after : (mode : Mode) (held : Option (List ℕ)) → held ≡ appended held (lines_after mode [] [])
nothing_after mode held = sym (ap (appended held) (lines-none mode) ∙ appended-nil held)

-- ---- a word written to GP0

module _ (mode : Mode) (was : RigState) (counted word : ℕ) (before now : Outlets) (gpu : Kept) (s : State) where
  abbrev pub fed_now : PlayState
  fed_now = play_state now (record was { gpu = gpu })

  pub word_done : Feeds (in_event counted (Some mode)) s (word ∷ []) before (drawing now gpu)
      → (None ≡ (done (machine_of was s) counted (operation.Feed (One word) was.running)).shown)
      × Does (in_event counted (Some mode)) (machine_of was s) (operation.Feed (One word) was.running) before fed_now
  word_done feeds = (
    refl,
    record {
      stands = record { gpu = feeds.stands; ram = refl; running = refl };
      heard = feeds.heard;
      cost = feeds.cost;
    },
  )
