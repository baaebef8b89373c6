-- What was written, noted and spent only grows.
use Rattle.std.proofs.Common.{◌≡◌, ◌≤◌, ℕ, ◌+◌, ◌++◌, List, [], ◌∷◌, Option, None, Some, Result, Ok, Err}
use Rattle.std.proofs.Common.{option_to_list, refl, ap, ◌∙◌, append_assoc, arith}
use Rattle.std.proofs.lemmas.Grind.{flat_map-append}
use Rattle.gp0_packets.specs.declared.note.Note.{Note}
use Rattle.gpu_capture.specs.Capture.{Captured}
use Rattle.gpu_capture.specs.declared.event.Event.{Event}
use Rattle.gpu_capture.specs.declared.event.Stop.{Stop}
use Rattle.packet_text.specs.Line.{word_line, listed}
use Rattle.gpu_taps.specs.Tally.{Reading}
use Rattle.event_play.specs.Feeding.{lines_in, looks_in}
use Rattle.event_play.specs.Frames.{Frame, frames_after, picture_at, sum_at, cost_at, frames_cost}
use Rattle.event_play.specs.Lines.{lines_for, lines_cost}
use Rattle.event_play.specs.Out.{lines_of, replay_cost, finals, finals_cost, out_bytes, out_cost}
use Rattle.event_play.specs.Replay.{Replay, Played, told_on, after_event, go_on, played_events, replayed, next_number}
use Rattle.event_play.specs.Step.{Machine, Stepped, event_step, event_cost, event_box_cost}
use Rattle.event_play.specs.Changes.{Change, change_lines, looks_cost, event_changes}
use Rattle.event_play.specs.declared.ending.Ending.TheVariants.{Faulted}
use Rattle.event_play.specs.declared.ending.Mode.{Mode}
use Rattle.event_play.specs.declared.ending.FrameTrigger.{FrameTrigger}
use Rattle.event_play.specs.declared.ending.Mode.TheVariants.{Vram, Shot, Report, Frames, Sums, Pixel}
use Rattle.event_play.specs.declared.ending.Mode.TheVariants.{List as Listing, Play as Words}
use Rattle.event_play.specs.declared.fault.EventFault.{EventFault}

-- ---- lines

pub lines-none : (mode : Mode) → lines_for mode [] [] [] [] ≡ []
lines-none Words = refl
lines-none Listing = refl
lines-none (Frames at) = refl
lines-none (Sums at) = refl
lines-none (Pixel cell) = refl
lines-none Vram = refl
lines-none Shot = refl
lines-none Report = refl

pub lines-append : (mode : Mode) (shown more : List ℕ) (frames after : List Frame) (notes others : List Note)
    (changes later : List Change)
    → lines_for mode (shown ++ more) (frames ++ after) (notes ++ others) (changes ++ later)
    ≡ lines_for mode shown frames notes changes ++ lines_for mode more after others later
lines-append Words shown more frames after notes others changes later = flat_map-append word_line shown more
lines-append Listing shown more frames after notes others changes later = flat_map-append listed notes others
lines-append (Frames at) shown more frames after notes others changes later =
    flat_map-append (picture_at at) frames after
lines-append (Sums at) shown more frames after notes others changes later =
    flat_map-append (sum_at at) frames after
lines-append (Pixel cell) shown more frames after notes others changes later =
    flat_map-append (change_lines cell) changes later
lines-append Vram shown more frames after notes others changes later = refl
lines-append Shot shown more frames after notes others changes later = refl
lines-append Report shown more frames after notes others changes later = refl

-- the same for lines of words
pub lines_in-none : (mode : Option Mode) → lines_in mode [] [] ≡ []
lines_in-none None = refl
lines_in-none (Some mode) = lines-none mode

pub lines_in-append : (mode : Option Mode) (notes others : List Note) (changes later : List Change)
    → lines_in mode (notes ++ others) (changes ++ later) ≡ lines_in mode notes changes ++ lines_in mode others later
lines_in-append None notes others changes later = refl
lines_in-append (Some mode) notes others changes later =
    lines-append mode [] [] [] [] notes others changes later

frames_cost-append : (at : FrameTrigger) (frames after : List Frame)
    → frames_cost at (frames ++ after) ≡ frames_cost at frames + frames_cost at after
frames_cost-append at [] after = omega arith
frames_cost-append at (frame ∷ frames) after = one_more (cost_at at frame) (frames_cost-append at frames after)
  where
    one_more : (cost : ℕ) → frames_cost at (frames ++ after) ≡ frames_cost at frames + frames_cost at after
        → cost + frames_cost at (frames ++ after) ≡ cost + frames_cost at frames + frames_cost at after
    one_more cost e = omega (arith, e)

looks_cost-append : (changes later : List Change)
    → looks_cost (changes ++ later) ≡ looks_cost changes + looks_cost later
looks_cost-append [] later = omega arith
looks_cost-append (change ∷ changes) later = let e = looks_cost-append changes later in omega (arith, e)

pub lines_cost-none : (mode : Mode) → lines_cost mode [] [] ≡ 0
lines_cost-none Words = refl
lines_cost-none Listing = refl
lines_cost-none (Frames at) = refl
lines_cost-none (Sums at) = refl
lines_cost-none (Pixel cell) = refl
lines_cost-none Vram = refl
lines_cost-none Shot = refl
lines_cost-none Report = refl

pub lines_cost-append : (mode : Mode) (frames after : List Frame) (changes later : List Change)
    → lines_cost mode (frames ++ after) (changes ++ later)
    ≡ lines_cost mode frames changes + lines_cost mode after later
lines_cost-append Words frames after changes later = refl
lines_cost-append Listing frames after changes later = refl
lines_cost-append (Frames at) frames after changes later = frames_cost-append at frames after
lines_cost-append (Sums at) frames after changes later = frames_cost-append at frames after
lines_cost-append (Pixel cell) frames after changes later = looks_cost-append changes later
lines_cost-append Vram frames after changes later = refl
lines_cost-append Shot frames after changes later = refl
lines_cost-append Report frames after changes later = refl

pub looks_in-append : (mode : Option Mode) (changes later : List Change)
    → looks_in mode (changes ++ later) ≡ looks_in mode changes + looks_in mode later
looks_in-append None changes later = refl
looks_in-append (Some mode) changes later = lines_cost-append mode [] [] changes later

-- ---- the replay with one more event

abbrev pub replay_on : Replay → Event → Machine → Option ℕ → List Note → Replay
replay_on t event machine shown notes = record {
  state = machine;
  played = next_number t.played;
  shown = t.shown ++ option_to_list shown;
  frames = t.frames ++ frames_after event (next_number t.played) machine.gpu.parts;
  notes = t.notes ++ notes;
  changes = t.changes ++ event_changes t.state (next_number t.played) event;
  cost = t.cost + event_cost t.state event;
  box_cost = t.box_cost + event_box_cost t.state event;
}

pub after-event : (t : Replay) (event : Event) (machine : Machine) (shown : Option ℕ) (notes : List Note)
    → event_step t.state (next_number t.played) event ≡ Ok (record { machine = machine; shown = shown; notes = notes })
    → after_event t event ≡ Ok (replay_on t event machine shown notes)
after-event t event machine shown notes is = rw is refl

-- ---- along a replay

-- If P holds at a fault, and holds for a replay whenever it holds for the next one, it holds for the whole replay.
pub along : (P : Replay → Played → Type 0) (t : Replay) (event : Event) (step : Result Stepped EventFault)
    (on : Replay → Played) (faulted : EventFault → Played)
    → ((stepped : Stepped) → P (replay_on t event stepped.machine stepped.shown stepped.notes)
    (on (replay_on t event stepped.machine stepped.shown stepped.notes))
    → P t (on (replay_on t event stepped.machine stepped.shown stepped.notes)))
    → ((next : Replay) → P next (on next)) → ((fault : EventFault) → P t (faulted fault))
    → P t (go_on (told_on t event (event_cost t.state event) (event_box_cost t.state event) step) on faulted)
along P t event (Ok stepped) on faulted back at_next at_fault =
    back stepped (at_next (replay_on t event stepped.machine stepped.shown stepped.notes))
along P t event (Err fault) on faulted back at_next at_fault = at_fault fault

-- what later events add to the output
abbrev Adds : Mode → List Reading → Replay → Played → Type 0
Adds mode heard t r = (more : List ℕ) × (out_bytes mode heard r ≡ lines_of mode t ++ more)

-- The output so far is a prefix of the whole output.
pub out_grows : (mode : Mode) (heard : List Reading) (t : Replay) (events : List Event) (stop : Stop) (rest : List ℕ)
    → Adds mode heard t (played_events t events stop rest)
out_grows mode heard t [] stop rest = (finals mode heard (played_events t [] stop rest), refl)
out_grows mode heard t (event ∷ events) stop rest =
    along (Adds mode heard) t event (event_step t.state (next_number t.played) event)
    (λ next. played_events next events stop rest)
    (λ fault. record { replay = t; ending = Faulted (next_number t.played) fault; rest = rest })
    (λ stepped more.
    let frames = frames_after event (next_number t.played) stepped.machine.gpu.parts in
    let changes = event_changes t.state (next_number t.played) event in
    let due = lines_for mode (option_to_list stepped.shown) frames stepped.notes changes in (
      due ++ more.0,
      more.1 ∙ ap (λ xs. xs ++ more.0)
          (lines-append mode t.shown (option_to_list stepped.shown) t.frames frames t.notes stepped.notes
          t.changes changes)
          ∙ append_assoc (lines_of mode t) due more.0,
    ))
    (λ next. out_grows mode heard next events stop rest)
    (λ fault. (
      finals mode heard (record { replay = t; ending = Faulted (next_number t.played) fault; rest = rest }),
      refl,
    ))

-- Store steps never decrease.
pub cost_grows : (mode : Mode) (t : Replay) (events : List Event) (stop : Stop) (rest : List ℕ)
    → replay_cost mode t ≤ replay_cost mode (played_events t events stop rest).replay
cost_grows mode t [] stop rest = omega arith
cost_grows mode t (event ∷ events) stop rest =
    along (λ t r. replay_cost mode t ≤ replay_cost mode r.replay) t event
    (event_step t.state (next_number t.played) event)
    (λ next. played_events next events stop rest)
    (λ fault. record { replay = t; ending = Faulted (next_number t.played) fault; rest = rest })
    (λ stepped grows.
    let e = lines_cost-append mode t.frames
    (frames_after event (next_number t.played) stepped.machine.gpu.parts) t.changes
    (event_changes t.state (next_number t.played) event) in
    omega (arith, e, grows))
    (λ next. cost_grows mode next events stop rest)
    (λ fault. omega arith)

pub cost_within : (mode : Mode) (t : Replay) (r : Played) (c : Captured) (before now : ℕ) → r ≡ replayed t c
    → now ≤ before + replay_cost mode t → now ≤ before + out_cost mode r
cost_within mode t r c before now is within =
    let grows = cost_grows mode t c.events c.ending c.rest in
    rw is (added (finals_cost mode (replayed t c)) grows)
  where
    added : (more : ℕ) → replay_cost mode t ≤ replay_cost mode (replayed t c).replay
        → now ≤ before + (replay_cost mode (replayed t c).replay + more)
    added more grows = omega (arith, within, grows)
