-- Machines that are alike replay alike.
use Rattle.std.proofs.Common.{◌≡◌, ℕ, zero, suc, ◌+◌, ◌++◌, ◌==◌, List, [], ◌∷◌, Option, Some}
use Rattle.std.proofs.Common.{Result, Ok, Err, inl, inr, refl, ap, subst, ◌∙◌}
use Rattle.std.proofs.lemmas.Bool.{cases_Bool}
use Rattle.gpu_capture.specs.Capture.{Captured}
use Rattle.gpu_capture.specs.declared.event.Event.{Event}
use Rattle.gpu_capture.specs.declared.event.Stop.{Stop}
use Rattle.gpu_core.specs.Kept.{Kept, kept_of}
use Rattle.gp0_packets.specs.declared.note.Note.{Note}
use Rattle.gpu_core.specs.Machine.{State, after_gp0, gp0_note, tall_parts, tall_state}
use Rattle.gpu_core.proofs.Alike.{feed-alike, note-alike, feed_cost-alike, feed_box_cost-alike, gp1-alike}
use Rattle.gpu_core.proofs.Alike.{take-alike, taken-alike, take_cost-alike, take_box_cost-alike, status-alike}
use Rattle.gpu_taps.specs.Tally.{Reading}
use Rattle.list_dma.specs.declared.run.Run.{Run}
use Rattle.packet_text.specs.Line.{status_line}
use Rattle.picture_out.specs.Dump.{dump, dump_cost}
use Rattle.picture_out.specs.Picture.{picture, picture_cost}
use Rattle.event_play.specs.AlikeStates.{StandAlike, TellAlike, PlayAlike, AlikeReplayAlike}
use Rattle.event_play.specs.Fed.{fed, fed_notes, fed_cost, fed_box_cost}
use Rattle.event_play.specs.Frames.{frames_after, frame_bytes, frame_sum, frame_cost, vram_sum, bytes_at_end}
use Rattle.event_play.specs.Frames.{cost_at_end}
use Rattle.event_play.specs.Lines.{lines_for}
use Rattle.event_play.specs.Out.{final_bytes, final_cost, finals_at, finals_cost_at, ending_under, replay_cost}
use Rattle.event_play.specs.Out.{replay_box_cost}
use Rattle.event_play.specs.Replay.{Replay, Played, played_events, go_on, told_on, after_event, next_number, ending_of}
use Rattle.event_play.specs.Replay.{from_state}
use Rattle.event_play.specs.Replay.{raised, tall_version, played_from}
use Rattle.event_play.specs.Step.{Machine, Stepped, event_step, event_cost, event_box_cost, done, stepped, step_cost}
use Rattle.event_play.specs.Step.{step_box_cost}
use Rattle.event_play.specs.Step.{operation_cost, operation_box_cost, words_of}
use Rattle.event_play.specs.Changes.{Change, word_change, fed_changes, event_changes}
use Rattle.event_play.specs.Taken.{Taken, take_one, first_taken}
use Rattle.event_play.specs.Told.{told_notes}
use Rattle.event_play.specs.Operation.{operation_of}
use Rattle.event_play.specs.declared.block.Block.{Block}
use Rattle.event_play.specs.declared.ending.Ending.{Ending}
use Rattle.event_play.specs.declared.ending.Ending.TheVariants.{Done, Stopped, Faulted, NoPicture, WriteFailed}
use Rattle.event_play.specs.declared.ending.Mode.{Mode}
use Rattle.event_play.specs.declared.ending.Mode.TheVariants.{Vram, Shot, Report, Frames, Sums, Pixel}
use Rattle.event_play.specs.declared.ending.Mode.TheVariants.{List as Listing, Play as Words}
use Rattle.event_play.specs.declared.fault.EventFault.{EventFault}
use Rattle.event_play.specs.declared.operation.Operation.{Operation}
use Rattle.event_play.specs.declared.operation.Operation.TheVariants as operation

-- ---- words and reads

fed-alike : (a b : State) (words : List ℕ) → kept_of a ≡ kept_of b → kept_of (fed a words) ≡ kept_of (fed b words)
fed-alike a b [] same = same
fed-alike a b (word ∷ words) same = fed-alike (after_gp0 a word) (after_gp0 b word) words (feed-alike a b same word)

notes-alike : (a b : State) (number : ℕ) (words : List ℕ) → kept_of a ≡ kept_of b
    → fed_notes a number words ≡ fed_notes b number words
notes-alike a b number [] same = refl
notes-alike a b number (word ∷ words) same =
    rw (
      note-alike a b same number word,
      notes-alike (after_gp0 a word) (after_gp0 b word) number words (feed-alike a b same word),
    ) refl

changes-alike : (a b : State) (number : ℕ) (words : List ℕ) → kept_of a ≡ kept_of b
    → fed_changes a number words ≡ fed_changes b number words
changes-alike a b number [] same = refl
changes-alike a b number (word ∷ words) same =
    let fed = feed-alike a b same word in
    let change : Option Note → (before after : List ℕ) → Change = λ note before after.
    record { note = note; before = before; after = after } in
    let more = fed_changes (after_gp0 a word) number words in
    ap (λ note. change note a.parts.m (after_gp0 a word).parts.m ∷ more) (note-alike a b same number word)
    ∙ ap (λ (k : Kept). change (gp0_note b number word) k.parts.m (after_gp0 a word).parts.m ∷ more) same
    ∙ ap (λ (k : Kept). change (gp0_note b number word) b.parts.m k.parts.m ∷ more) fed
    ∙ ap (λ changes. word_change b number word ∷ changes)
    (changes-alike (after_gp0 a word) (after_gp0 b word) number words fed)

fed_cost-alike : (a b : State) (words : List ℕ) → kept_of a ≡ kept_of b → fed_cost a words ≡ fed_cost b words
fed_cost-alike a b [] same = refl
fed_cost-alike a b (word ∷ words) same =
    rw (
      feed_cost-alike a b same word,
      fed_cost-alike (after_gp0 a word) (after_gp0 b word) words (feed-alike a b same word),
    ) refl

fed_box_cost-alike : (a b : State) (words : List ℕ) → kept_of a ≡ kept_of b
    → fed_box_cost a words ≡ fed_box_cost b words
fed_box_cost-alike a b [] same = refl
fed_box_cost-alike a b (word ∷ words) same =
    rw (
      feed_box_cost-alike a b same word,
      fed_box_cost-alike (after_gp0 a word) (after_gp0 b word) words (feed-alike a b same word),
    ) refl

record AreTakenAlike (t u : Taken) : Type 0 where
  gpu : kept_of t.gpu ≡ kept_of u.gpu
  ram : t.ram ≡ u.ram
  cost : t.cost ≡ u.cost
  box_cost : t.box_cost ≡ u.box_cost

one-alike : (block : Block) (i : ℕ) (t u : Taken) → AreTakenAlike t u
    → AreTakenAlike (take_one block i t) (take_one block i u)
one-alike block i t u same = record {
  gpu = take-alike t.gpu u.gpu same.gpu;
  ram = rw (same.ram, taken-alike t.gpu u.gpu same.gpu) refl;
  cost = rw (same.cost, take_cost-alike t.gpu u.gpu same.gpu) refl;
  box_cost = rw (same.box_cost, take_box_cost-alike t.gpu u.gpu same.gpu) refl;
}

reads-alike : (block : Block) (n : ℕ) (a b : State) (ram : List ℕ) → kept_of a ≡ kept_of b
    → AreTakenAlike (first_taken block n a ram) (first_taken block n b ram)
reads-alike block zero a b ram same = record { gpu = same; ram = refl; cost = refl; box_cost = refl }
reads-alike block (suc n) a b ram same =
    one-alike block n (first_taken block n a ram) (first_taken block n b ram) (reads-alike block n a b ram same)

-- ---- one event

record StepAlike (s z : Stepped) : Type 0 where
  machine : StandAlike s.machine z.machine
  shown : s.shown ≡ z.shown
  notes : s.notes ≡ z.notes

abbrev machine_with : State → List ℕ → Run → Machine
machine_with gpu ram running = record { gpu = gpu; ram = ram; running = running }

module _ (a b : State) (same : kept_of a ≡ kept_of b) (ram : List ℕ) (running : Run) where
  -- The two machines differ at most in the words that their GPUs were fed.
  abbrev left : Machine
  left = machine_with a ram running

  abbrev right : Machine
  right = machine_with b ram running

  done-alike : (number : ℕ) (asked : Operation) → StepAlike (done left number asked) (done right number asked)
  done-alike number operation.Nothing =
      record { machine = record { gpu = same; ram = refl; running = refl }; shown = refl; notes = refl }
  done-alike number (operation.Put address word) =
      record { machine = record { gpu = same; ram = refl; running = refl }; shown = refl; notes = refl }
  done-alike number (operation.Feed asked next) = record {
    machine = record { gpu = fed-alike a b (words_of ram asked) same; ram = refl; running = refl };
    shown = refl;
    notes = notes-alike a b number (words_of ram asked) same;
  }
  done-alike number (operation.Take block next) =
      let reads = reads-alike block block.n a b ram same in record {
        machine = record { gpu = reads.gpu; ram = reads.ram; running = refl };
        shown = refl;
        notes = refl;
      }
  done-alike number (operation.Control word) = record {
    machine = record { gpu = gp1-alike a b same word; ram = refl; running = refl };
    shown = refl;
    notes = refl;
  }
  done-alike number operation.Read = record {
    machine = record { gpu = take-alike a b same; ram = refl; running = refl };
    shown = ap Some (taken-alike a b same);
    notes = refl;
  }
  done-alike number operation.Skip =
      record { machine = record { gpu = take-alike a b same; ram = refl; running = refl }; shown = refl; notes = refl }
  done-alike number operation.Stat = record {
    machine = record { gpu = same; ram = refl; running = refl };
    shown = ap Some (status-alike a b same);
    notes = refl;
  }
  done-alike number (operation.Clear madr n) =
      record { machine = record { gpu = same; ram = refl; running = refl }; shown = refl; notes = refl }
  done-alike number (operation.Begin next) =
      record { machine = record { gpu = same; ram = refl; running = refl }; shown = refl; notes = refl }

  operation_cost-alike : (asked : Operation) → operation_cost left asked ≡ operation_cost right asked
  operation_cost-alike (operation.Feed asked next) = fed_cost-alike a b (words_of ram asked) same
  operation_cost-alike (operation.Take block next) = (reads-alike block block.n a b ram same).cost
  operation_cost-alike operation.Read = take_cost-alike a b same
  operation_cost-alike operation.Skip = take_cost-alike a b same
  operation_cost-alike other = refl

  operation_box_cost-alike : (asked : Operation) → operation_box_cost left asked ≡ operation_box_cost right asked
  operation_box_cost-alike (operation.Feed asked next) = fed_box_cost-alike a b (words_of ram asked) same
  operation_box_cost-alike (operation.Take block next) = (reads-alike block block.n a b ram same).box_cost
  operation_box_cost-alike operation.Read = take_box_cost-alike a b same
  operation_box_cost-alike operation.Skip = take_box_cost-alike a b same
  operation_box_cost-alike other = refl

-- what two steps return: alike machines, or the same fault
abbrev AnswerAlike : Result Stepped EventFault → Result Stepped EventFault → Type 0
AnswerAlike (Ok s) (Ok z) = StepAlike s z
AnswerAlike (Err f) (Err g) = f ≡ g
AnswerAlike r q = ⊥

record OperationAlike (a b : Machine) (number : ℕ) (asked : Result Operation EventFault) : Type 0 where
  answer : AnswerAlike (stepped a number asked) (stepped b number asked)
  cost : step_cost a asked ≡ step_cost b asked
  box_cost : step_box_cost a asked ≡ step_box_cost b asked

asked-alike : (a b : State) (ram : List ℕ) (running : Run) (number : ℕ) (asked : Result Operation EventFault)
    → kept_of a ≡ kept_of b → OperationAlike (machine_with a ram running) (machine_with b ram running) number asked
asked-alike a b ram running number (Ok asked) same = record {
  answer = done-alike a b same ram running number asked;
  cost = operation_cost-alike a b same ram running asked;
  box_cost = operation_box_cost-alike a b same ram running asked;
}
asked-alike a b ram running number (Err fault) same = record { answer = refl; cost = refl; box_cost = refl }

record EventAlike (a b : Machine) (number : ℕ) (event : Event) : Type 0 where
  answer : AnswerAlike (event_step a number event) (event_step b number event)
  cost : event_cost a event ≡ event_cost b event
  box_cost : event_box_cost a event ≡ event_box_cost b event

event-alike : (a b : Machine) (number : ℕ) (event : Event) → StandAlike a b → EventAlike a b number event
unfolding event_step event_cost event_box_cost
event-alike a b number event same =
    let other : machine_with b.gpu a.ram a.running ≡ b = rw (same.ram, same.running) refl in
    let asked = operation_of a.ram a.running event in
    let alike = asked-alike a.gpu b.gpu a.ram a.running number asked same.gpu in
    subst (λ z. EventAlike a z number event) other
    (record { answer = alike.answer; cost = alike.cost; box_cost = alike.box_cost })

event_changes-alike : (a b : Machine) (number : ℕ) (event : Event) → StandAlike a b
    → event_changes a number event ≡ event_changes b number event
event_changes-alike a b number event same =
    rw (same.ram, same.running) (changes-alike a.gpu b.gpu number _ same.gpu)

-- ---- events

abbrev GoAlike : Result Replay EventFault → Result Replay EventFault → Type 0
GoAlike (Ok t) (Ok u) = TellAlike t u
GoAlike (Err f) (Err g) = f ≡ g
GoAlike r q = ⊥

told-alike : (t u : Replay) (event : Event) (cost other box_cost other_box : ℕ) (r q : Result Stepped EventFault)
    → TellAlike t u
    → cost ≡ other → box_cost ≡ other_box → AnswerAlike r q
    → GoAlike (told_on t event cost box_cost r) (told_on u event other other_box q)
told-alike t u event cost other box_cost other_box (Ok s) (Ok z) same costs boxes step = record {
  state = step.machine;
  played = ap next_number same.played;
  shown = rw (same.shown, step.shown) refl;
  frames = rw (
    same.frames,
    same.played,
    ap (λ (k : Kept). frames_after event (next_number u.played) k.parts) step.machine.gpu,
  ) refl;
  notes = rw (same.notes, step.notes) refl;
  changes = ap (λ changes. t.changes ++ changes) (event_changes-alike t.state u.state (next_number t.played) event
      same.state)
      ∙ ap (λ n. t.changes ++ event_changes u.state n event) (ap next_number same.played)
      ∙ ap (λ changes. changes ++ event_changes u.state (next_number u.played) event) same.changes;
  cost = rw (same.cost, costs) refl;
  box_cost = rw (same.box_cost, boxes) refl;
}
told-alike t u event cost other box_cost other_box (Err f) (Err g) same costs boxes step = step
told-alike t u event cost other box_cost other_box (Ok s) (Err g) same costs boxes step = absurd step
told-alike t u event cost other box_cost other_box (Err f) (Ok z) same costs boxes step = absurd step

goes-alike : (t u : Replay) (event : Event) → TellAlike t u → GoAlike (after_event t event) (after_event u event)
goes-alike t u event same =
    let n = next_number t.played in
    let alike = event-alike t.state u.state n event same.state in
    let answer : AnswerAlike (event_step t.state n event) (event_step u.state (next_number u.played) event) =
    rw (← same.played) alike.answer in
    told-alike t u event (event_cost t.state event) (event_cost u.state event) (event_box_cost t.state event)
    (event_box_cost u.state event) (event_step t.state n event) (event_step u.state (next_number u.played) event)
    same alike.cost
    alike.box_cost answer

-- ---- output

final-alike : (mode : Mode) (heard : List Reading) (number : ℕ) (a b : State) → kept_of a ≡ kept_of b
    → final_bytes mode heard number a ≡ final_bytes mode heard number b
unfolding final_bytes
final-alike Words heard number a b same = ap status_line (status-alike a b same)
final-alike Listing heard number a b same = refl
final-alike (Pixel cell) heard number a b same = refl
final-alike Vram heard number a b same = ap (λ (k : Kept). dump k.parts.m) same
final-alike Shot heard number a b same = ap (λ (k : Kept). picture k.parts.m k.parts.regs) same
final-alike (Frames at) heard number a b same = ap (λ (k : Kept). bytes_at_end at (frame_bytes k.parts)) same
final-alike (Sums at) heard number a b same =
    ap (λ (k : Kept). bytes_at_end at (frame_sum number k.parts) ++ vram_sum k.parts.m) same
final-alike Report heard number a b same = refl

final_cost-alike : (mode : Mode) (a b : State) → kept_of a ≡ kept_of b → final_cost mode a ≡ final_cost mode b
unfolding final_cost
final_cost-alike Words a b same = refl
final_cost-alike Listing a b same = refl
final_cost-alike (Pixel cell) a b same = refl
final_cost-alike Vram a b same = ap (λ (k : Kept). dump_cost k.parts.m) same
final_cost-alike Shot a b same = ap (λ (k : Kept). picture_cost k.parts.regs) same
final_cost-alike (Frames at) a b same = ap (λ (k : Kept). cost_at_end at (frame_cost k.parts)) same
final_cost-alike (Sums at) a b same =
    ap (λ (k : Kept). cost_at_end at (frame_cost k.parts) + dump_cost k.parts.m) same
final_cost-alike Report a b same = refl

finals-alike : (ending : Ending) (mode : Mode) (heard : List Reading) (next : ℕ) (a b : State)
    → kept_of a ≡ kept_of b
    → finals_at ending mode heard next a ≡ finals_at ending mode heard next b
finals-alike Done mode heard next a b same = final-alike mode heard next a b same
finals-alike (Stopped number stop) mode heard next a b same = refl
finals-alike (Faulted number fault) mode heard next a b same = refl
finals-alike (NoPicture number) mode heard next a b same = refl
finals-alike (WriteFailed number) mode heard next a b same = refl

finals_cost-alike : (ending : Ending) (mode : Mode) (a b : State) → kept_of a ≡ kept_of b
    → finals_cost_at ending mode a ≡ finals_cost_at ending mode b
finals_cost-alike Done mode a b same = final_cost-alike mode a b same
finals_cost-alike (Stopped number stop) mode a b same = refl
finals_cost-alike (Faulted number fault) mode a b same = refl
finals_cost-alike (NoPicture number) mode a b same = refl
finals_cost-alike (WriteFailed number) mode a b same = refl

ended-alike : (t u : Replay) (ending other : Ending) (rest : List ℕ) → TellAlike t u → ending ≡ other
    → PlayAlike (record { replay = t; ending = ending; rest = rest })
    (record { replay = u; ending = other; rest = rest })
ended-alike t u ending other rest same e =
    let regs = ap (λ (k : Kept). k.parts.regs) same.state.gpu in
    let r : Played = record { replay = t; ending = ending; rest = rest } in
    let q : Played = record { replay = u; ending = other; rest = rest } in
    let under : (mode : Mode) → ending_under mode r ≡ ending_under mode q = λ mode. rw (regs, same.played, e) refl in
    let cost = λ (mode : Mode). ap (λ at. finals_cost_at at mode t.state.gpu) (under mode)
    ∙ finals_cost-alike (ending_under mode q) mode t.state.gpu u.state.gpu same.state.gpu in
    record {
      replay = same;
      ending = e;
      rest = refl;
      out = λ mode heard.
          rw (same.shown, same.frames, same.notes, same.changes, under mode, same.played)
          (ap (λ finals. lines_for mode u.shown u.frames u.notes u.changes ++ finals)
          (finals-alike (ending_under mode q) mode (told_notes u.notes heard) (next_number u.played) t.state.gpu
          u.state.gpu same.state.gpu));
      cost = λ mode.
          let told : replay_cost mode t ≡ replay_cost mode u = rw (same.cost, same.frames, same.changes) refl in
          ap (λ more. replay_cost mode t + more) (cost mode)
          ∙ ap (λ n. n + finals_cost_at (ending_under mode q) mode u.state.gpu) told;
      box_cost = λ mode.
          let told : replay_box_cost mode t ≡ replay_box_cost mode u =
          rw (same.box_cost, same.frames, same.changes) refl in
          ap (λ more. replay_box_cost mode t + more) (cost mode)
          ∙ ap (λ n. n + finals_cost_at (ending_under mode q) mode u.state.gpu) told;
    }

-- ---- replays

go-alike : (r q : Result Replay EventFault) (on other : Replay → Played) (faulted failed : EventFault → Played)
    → GoAlike r q → ((t u : Replay) → TellAlike t u → PlayAlike (on t) (other u))
    → ((f : EventFault) → PlayAlike (faulted f) (failed f)) → PlayAlike (go_on r on faulted) (go_on q other failed)
go-alike (Ok t) (Ok u) on other faulted failed same ok err = ok t u same
go-alike (Err f) (Err g) on other faulted failed same ok err =
    subst (λ g. PlayAlike (faulted f) (failed g)) same (err f)
go-alike (Ok t) (Err g) on other faulted failed same ok err = absurd same
go-alike (Err f) (Ok u) on other faulted failed same ok err = absurd same

pub replay-alike : (events : List Event) (t u : Replay) (stop : Stop) (rest : List ℕ) → TellAlike t u
    → PlayAlike (played_events t events stop rest) (played_events u events stop rest)
replay-alike [] t u stop rest same =
    ended-alike t u _ _ rest same (ap (λ n. ending_of (next_number n) stop) same.played)
replay-alike (event ∷ events) t u stop rest same =
    go-alike (after_event t event) (after_event u event) _ _ _ _ (goes-alike t u event same)
    (λ v w on. replay-alike events v w stop rest on)
    (λ f. ended-alike t u (Faulted (next_number t.played) f) (Faulted (next_number u.played) f) rest same
    (ap (λ n. Faulted (next_number n) f) same.played))

tall-alike : (a b : State) → kept_of a ≡ kept_of b → kept_of (tall_state a) ≡ kept_of (tall_state b)
unfolding tall_state
tall-alike a b same =
    let f : Kept → Kept = λ k. record { parts = tall_parts k.parts; pending = k.pending } in ap f same

raised-alike : (t u : Replay) (version : ℕ) → TellAlike t u → TellAlike (raised t version) (raised u version)
raised-alike t u version same = elim (cases_Bool (version == tall_version)) [
  | inl is ↦ rw is (record {
    state = record {
      gpu = tall-alike t.state.gpu u.state.gpu same.state.gpu;
      ram = same.state.ram;
      running = same.state.running;
    };
    played = same.played;
    shown = same.shown;
    frames = same.frames;
    notes = same.notes;
    changes = same.changes;
    cost = same.cost;
    box_cost = same.box_cost;
  })
  | inr is ↦ rw is same
]

-- alike replays, also with earlier events
pub played-alike : (t u : Replay) (c : Captured) → TellAlike t u → PlayAlike (played_from t c) (played_from u c)
played-alike t u c same =
    replay-alike c.events (raised t c.version) (raised u c.version) c.ending c.rest (raised-alike t u c.version same)

pub states-alike : AlikeReplayAlike
states-alike a b played c same =
    played-alike (from_state a played) (from_state b played) c
    (record {
      state = same;
      played = refl;
      shown = refl;
      frames = refl;
      notes = refl;
      changes = refl;
      cost = refl;
      box_cost = refl;
    })
