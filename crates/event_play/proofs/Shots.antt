-- Each picture of a film is what `shot` writes for the events up to that picture.
use Rattle.std.proofs.Common.{◌≡◌, ℕ, List, [], ◌∷◌, ◌++◌, Option, None, Some, Result, Ok, Err, if◌then◌else◌}
use Rattle.std.proofs.Common.{refl, ap, sym, subst, ◌∙◌, append_assoc, append-nil, flat_map}
use Rattle.std.proofs.lemmas.Grind.{flat_map-append}
use Rattle.gp1_status.specs.Shape.{shape_of}
use Rattle.gpu_capture.specs.declared.event.Event.{Event}
use Rattle.gpu_capture.specs.declared.event.Event.TheVariants as event
use Rattle.gpu_capture.specs.declared.event.Stop.TheVariants.{End}
use Rattle.gpu_core.specs.Machine.{Parts}
use Rattle.gpu_taps.specs.Tally.{Reading}
use Rattle.event_play.specs.Shots.{is_due, shot_of, film, FramesAreShots}
use Rattle.event_play.specs.Frames.{frames_after, frame_bytes, picture_at}
use Rattle.event_play.specs.Out.{lines_of, final_bytes, finals_at, ending_under, out_bytes}
use Rattle.event_play.specs.Replay.{Replay, Played, told_on, go_on, played_events, from_state, next_number}
use Rattle.event_play.specs.Splits.{alone, AreFaultless}
use Rattle.event_play.specs.Step.{Machine, Stepped, event_step, event_cost, event_box_cost}
use Rattle.event_play.specs.Told.{told_notes}
use Rattle.event_play.specs.declared.ending.Ending.TheVariants.{Done, Faulted}
use Rattle.event_play.specs.declared.ending.Mode.TheVariants.{Shot, Frames}
use Rattle.event_play.specs.declared.ending.FrameTrigger.{FrameTrigger}
use Rattle.event_play.specs.declared.ending.FrameTrigger.TheVariants.{Flip, Mark}
use Rattle.event_play.specs.declared.fault.EventFault.{EventFault}
use Rattle.event_play.proofs.Splits.{split_at, first_faultless}

-- For a whole replay, `shot` writes the picture that is then shown, or nothing.
shot_bytes : (heard : List Reading) (r : Played) → r.ending ≡ Done
    → out_bytes Shot heard r ≡ frame_bytes r.replay.state.gpu.parts
unfolding frame_bytes final_bytes
shot_bytes heard r done = by_shape (shape_of r.replay.state.gpu.parts.regs) refl
  where
    by_shape : (shape : Option (ℕ × ℕ)) → shape_of r.replay.state.gpu.parts.regs ≡ shape
        → out_bytes Shot heard r ≡ frame_bytes r.replay.state.gpu.parts
    by_shape None is = rw (is, done) refl
    by_shape (Some shown) is =
        let under : ending_under Shot r ≡ Done = rw (is, done) refl in
        ap (λ ending. finals_at ending Shot (told_notes r.replay.notes heard) (next_number r.replay.played)
        r.replay.state.gpu) under

-- ---- one more event

due_lines : (at : FrameTrigger) (event : Event) (number : ℕ) (parts : Parts)
    → flat_map (picture_at at) (frames_after event number parts)
    ≡ (if is_due at event then frame_bytes parts else [])
due_lines at (event.Gp1 word) number parts = append-nil _
due_lines at other number parts = refl

abbrev after : Replay → Event → Result Stepped EventFault → Played
after t event step =
    go_on (told_on t event (event_cost t.state event) (event_box_cost t.state event) step)
    (λ next. played_events next [] End [])
    (λ fault. record { replay = t; ending = Faulted (next_number t.played) fault; rest = [] })

lines_after : (at : FrameTrigger) (t : Replay) (event : Event) (step : Result Stepped EventFault)
    → (after t event step).ending ≡ Done
    → lines_of (Frames at) (after t event step).replay ≡ lines_of (Frames at) t
    ++ (if is_due at event then frame_bytes (after t event step).replay.state.gpu.parts else [])
lines_after at t event (Ok stepped) done =
    flat_map-append (picture_at at) t.frames (frames_after event (next_number t.played) stepped.machine.gpu.parts)
    ∙ ap (λ xs. lines_of (Frames at) t ++ xs)
    (due_lines at event (next_number t.played) stepped.machine.gpu.parts)
lines_after at t event (Err fault) done = absurd cc

module _ (at : FrameTrigger) (s : Machine) (played : ℕ) where
  abbrev first : Replay
  first = from_state s played

  lines_on : (before : List Event) (event : Event) → AreFaultless first (before ++ event ∷ [])
      → lines_of (Frames at) (alone first (before ++ event ∷ [])).replay
      ≡ lines_of (Frames at) (alone first before).replay
      ++ (if is_due at event then shot_of s played (before ++ event ∷ []) else [])
  lines_on before event none =
      let u = (alone first before).replay in
      let fewer = first_faultless before (event ∷ []) first End [] none in
      let e : alone first (before ++ event ∷ []) ≡ after u event (event_step u.state (next_number u.played) event) =
      split_at before (event ∷ []) first End [] fewer in
      rw (shot_bytes [] (alone first (before ++ event ∷ [])) none, e)
      (lines_after at u event _ (rw e at none))

  -- all pictures after those of the first events
  lines_film : (events before : List Event) → AreFaultless first (before ++ events)
      → lines_of (Frames at) (alone first (before ++ events)).replay
      ≡ lines_of (Frames at) (alone first before).replay ++ film at s played before events
  lines_film [] before none = rw (append-nil before, append-nil (lines_of (Frames at) (alone first before).replay)) refl
  lines_film (event ∷ events) before none =
      let apart : (before ++ event ∷ []) ++ events ≡ before ++ event ∷ events =
      append_assoc before (event ∷ []) events in
      let P : List Event → Type 0 = λ all. AreFaultless first all in
      let again = subst P (sym apart) none in
      let one = lines_on before event (first_faultless (before ++ event ∷ []) events first End [] again) in
      ap (λ all. lines_of (Frames at) (alone first all).replay) (sym apart)
      ∙ lines_film events (before ++ event ∷ []) again
      ∙ ap (λ xs. xs ++ film at s played (before ++ event ∷ []) events) one
      ∙ append_assoc (lines_of (Frames at) (alone first before).replay) _ _

-- ---- whole films

flips_are : (s : Machine) (played : ℕ) (events : List Event) (heard : List Reading)
    → AreFaultless (from_state s played) events
    → out_bytes (Frames Flip) heard (alone (from_state s played) events)
    ≡ film Flip s played [] events ++ shot_of s played events
unfolding final_bytes
flips_are s played events heard none =
    rw (shot_bytes [] (alone (from_state s played) events) none, none)
    (ap (λ xs. xs ++ frame_bytes (alone (from_state s played) events).replay.state.gpu.parts)
    (lines_film Flip s played events [] none))

marks_are : (s : Machine) (played : ℕ) (events : List Event) (heard : List Reading)
    → AreFaultless (from_state s played) events
    → out_bytes (Frames Mark) heard (alone (from_state s played) events) ≡ film Mark s played [] events
unfolding final_bytes
marks_are s played events heard none = rw none (append-nil _ ∙ lines_film Mark s played events [] none)

pub frames_shots : FramesAreShots
frames_shots = record { flips = flips_are; marks = marks_are }
