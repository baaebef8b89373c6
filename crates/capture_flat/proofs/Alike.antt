-- Flat events have the same effect at the ports as the events that they were made from.
use Rattle.std.proofs.Common.{◌≡◌, ◌++◌, ℕ, zero, suc, List, [], ◌∷◌, map, flat_map, replicate, Option, None, Some}
use Rattle.std.proofs.Common.{Result, Ok, Err, option_to_list, if◌then◌else◌}
use Rattle.std.proofs.Common.{refl, ap, sym, subst, ◌∙◌, append_assoc, append-nil}
use Rattle.std.proofs.lemmas.List.{map-append}
use Rattle.px_num.specs.Fold.{each_below}
use Rattle.gp0_packets.specs.declared.note.Note.{Note}
use Rattle.gpu_capture.specs.declared.event.Event.{Event}
use Rattle.gpu_capture.specs.declared.event.Event.TheVariants as event
use Rattle.gpu_capture.specs.declared.event.Stop.TheVariants.{End}
use Rattle.gpu_core.specs.Machine.{State, Parts, new_item, noted, after_gp0, gp0_note, after_gp1, after_read, read_word}
use Rattle.gpu_core.specs.Machine.{status_word}
use Rattle.gpu_taps.specs.Tally.{Reading}
use Rattle.event_play.specs.Alike.{AreAlike}
use Rattle.event_play.specs.Fed.{fed}
use Rattle.event_play.specs.Frames.{Frame, frames_after, is_frame_trigger, frame_bytes, picture_at, bytes_at_end}
use Rattle.event_play.specs.Out.{out_bytes, final_bytes}
use Rattle.event_play.specs.Replay.{Replay, Played, played_events, after_event, go_on, next_number}
use Rattle.event_play.specs.Step.{Machine, event_step, stepped, done, words_of, asked_words, event_words}
use Rattle.event_play.specs.Changes.{Change, word_change, fed_changes, event_changes}
use Rattle.event_play.specs.Taken.{first_taken}
use Rattle.event_play.specs.Operation.{operation_of}
use Rattle.event_play.specs.declared.block.Block.{Block}
use Rattle.event_play.specs.declared.ending.Ending.TheVariants.{Done, Faulted}
use Rattle.event_play.specs.declared.ending.Mode.TheVariants.{Frames}
use Rattle.event_play.specs.declared.ending.FrameTrigger.{FrameTrigger}
use Rattle.event_play.specs.declared.fault.EventFault.{EventFault}
use Rattle.event_play.specs.declared.operation.Operation.{Operation}
use Rattle.event_play.specs.declared.operation.Operation.TheVariants as operation
use Rattle.event_play.specs.declared.operation.Words.TheVariants.{One}
use Rattle.event_play.proofs.Grows.{replay_on, after-event}
use Rattle.capture_flat.specs.Film.{bare_frame, unnumbered, bare_change, ShowAlike}
use Rattle.capture_flat.specs.Flat.{flat_events, flat_replay, flat_operation, flat_asked, then_flat}
use Rattle.capture_flat.proofs.Controls.{frames_of, frames_are}

-- the replay of a list of events that ends with End
abbrev whole : Replay → List Event → Played
whole t events = played_events t events End []

-- ---- the visible results of a replay

-- the shown words, and the frames and changes without the numbers of their events
record Seen : Type 0 where
  shown : List ℕ
  frames : List (ℕ × Parts)
  changes : List Change

abbrev seen_of : Replay → Seen
seen_of t = record {
  shown = t.shown;
  frames = map bare_frame t.frames;
  changes = map bare_change t.changes;
}

abbrev seen_more : Seen → (shown : List ℕ) → (frames : List (ℕ × Parts)) → (changes : List Change) → Seen
seen_more seen shown frames changes = record {
  shown = seen.shown ++ shown;
  frames = seen.frames ++ frames;
  changes = seen.changes ++ changes;
}

more_none : (seen : Seen) → seen_more seen [] [] [] ≡ seen
more_none seen = rw (append-nil seen.shown, append-nil seen.frames, append-nil seen.changes) refl

-- some changes added, then others
more_changes : (seen : Seen) (xs ys : List Change)
    → seen_more (seen_more seen [] [] xs) [] [] ys ≡ seen_more seen [] [] (xs ++ ys)
more_changes seen xs ys = rw (
  append-nil seen.shown,
  append-nil seen.shown,
  append-nil seen.frames,
  append-nil seen.frames,
  append_assoc seen.changes xs ys,
) refl

-- the changes of these words, without event numbers
abbrev changes_of : State → List ℕ → List Change
changes_of s words = map bare_change (fed_changes s 0 words)

-- Without its event number, a note or a change does not depend on that number.
note_bare : (s : State) (n : ℕ) (item : _)
    → unnumbered (noted s.parts.regs n item) ≡ unnumbered (noted s.parts.regs 0 item)
note_bare s n None = refl
note_bare s n (Some item) = refl

change_bare : (s : State) (n word : ℕ) → bare_change (word_change s n word) ≡ bare_change (word_change s 0 word)
unfolding gp0_note
change_bare s n word =
    ap (λ note. record { note = note; before = s.parts.m; after = (after_gp0 s word).parts.m })
    (note_bare s n (new_item s.words word))

changes_bare : (s : State) (n : ℕ) (words : List ℕ) → map bare_change (fed_changes s n words) ≡ changes_of s words
changes_bare s n [] = refl
changes_bare s n (word ∷ words) =
    ap (λ change. change ∷ map bare_change (fed_changes (after_gp0 s word) n words)) (change_bare s n word)
    ∙ ap (λ changes. bare_change (word_change s 0 word) ∷ changes) (changes_bare (after_gp0 s word) n words)

-- ---- events that lead to a state

-- These events have no fault. They lead to the GPU state `gpu` and the visible results `seen`, whatever events follow.
record Leads (t : Replay) (events : List Event) (gpu : State) (seen : Seen) : Type 0 where
  replay : Replay
  says : (more : List Event) → whole t (events ++ more) ≡ whole replay more
  gpu_is : replay.state.gpu ≡ gpu
  seen_is : seen_of replay ≡ seen

leads_none : (t : Replay) → Leads t [] t.state.gpu (seen_of t)
leads_none t = record { replay = t; says = λ more. refl; gpu_is = refl; seen_is = refl }

-- the visible results with one more event
seen_on : (t : Replay) (given : Event) (machine : Machine) (shown : Option ℕ) (notes : List Note)
    → seen_of (replay_on t given machine shown notes) ≡ seen_more (seen_of t) (option_to_list shown)
    (map bare_frame (frames_after given (next_number t.played) machine.gpu.parts))
    (map bare_change (event_changes t.state (next_number t.played) given))
seen_on t given machine shown notes = rw (
  map-append bare_frame t.frames (frames_after given (next_number t.played) machine.gpu.parts),
  map-append bare_change t.changes (event_changes t.state (next_number t.played) given),
) refl

-- the replay continues after an event without a fault
goes_on : (t next : Replay) (given : Event) (events : List Event) → after_event t given ≡ Ok next
    → whole t (given ∷ events) ≡ whole next events
goes_on t next given events is =
    ap (λ r. go_on r (λ next. whole next events)
    (λ fault. record { replay = t; ending = Faulted (next_number t.played) fault; rest = [] })) is

-- one event, by its operation
leads_one : (t : Replay) (given : Event) (asked : Operation) → operation_of t.state.ram t.state.running given ≡ Ok asked
    → let did = done t.state (next_number t.played) asked in Leads t (given ∷ []) did.machine.gpu
    (seen_more (seen_of t) (option_to_list did.shown)
    (map bare_frame (frames_after given (next_number t.played) did.machine.gpu.parts))
    (map bare_change (event_changes t.state (next_number t.played) given)))
unfolding event_step
leads_one t given asked is =
    let did = done t.state (next_number t.played) asked in
    let steps : event_step t.state (next_number t.played) given ≡ Ok did =
    ap (stepped t.state (next_number t.played)) is in
    record {
      replay = replay_on t given did.machine did.shown did.notes;
      says = λ more. goes_on t (replay_on t given did.machine did.shown did.notes) given more
          (after-event t given did.machine did.shown did.notes steps);
      gpu_is = refl;
      seen_is = seen_on t given did.machine did.shown did.notes;
    }

-- the same for equal values
leads_as : (t : Replay) (events : List Event) (gpu other : State) (seen others : Seen) → Leads t events gpu seen
    → gpu ≡ other → seen ≡ others
    → Leads t events other others
leads_as t events gpu other seen others leads same alike =
    record { replay = leads.replay; says = leads.says; gpu_is = leads.gpu_is ∙ same; seen_is = leads.seen_is ∙ alike }

-- two lists of events, one after the other
leads_on : (t : Replay) (xs ys : List Event) (gpu other : State) (seen others : Seen)
    → (first : Leads t xs gpu seen) → Leads first.replay ys other others
    → Leads t (xs ++ ys) other others
leads_on t xs ys gpu other seen others first next = record {
  replay = next.replay;
  says = λ more. rw (append_assoc xs ys more) (first.says (ys ++ more) ∙ next.says more);
  gpu_is = next.gpu_is;
  seen_is = next.seen_is;
}

-- words that are written to GP0
leads_words : (t : Replay) (words : List ℕ)
    → Leads t (map event.Gp0 words) (fed t.state.gpu words) (seen_more (seen_of t) [] [] (changes_of t.state.gpu words))
leads_words t [] = leads_as t [] _ _ _ _ (leads_none t) refl (sym (more_none (seen_of t)))
leads_words t (word ∷ words) =
    let one = leads_one t (event.Gp0 word) (operation.Feed (One word) t.state.running) refl in
    let rest = leads_words one.replay words in
    let first = changes_of t.state.gpu (word ∷ []) in
    let after = after_gp0 t.state.gpu word in
    leads_as t (map event.Gp0 (word ∷ words)) (fed one.replay.state.gpu words) (fed t.state.gpu (word ∷ words))
    (seen_more (seen_of one.replay) [] [] (changes_of one.replay.state.gpu words))
    (seen_more (seen_of t) [] [] (changes_of t.state.gpu (word ∷ words)))
    (leads_on t (event.Gp0 word ∷ []) (map event.Gp0 words) _ (fed one.replay.state.gpu words) _
    (seen_more (seen_of one.replay) [] [] (changes_of one.replay.state.gpu words)) one rest)
    (ap (λ s. fed s words) one.gpu_is)
    (ap (λ s. seen_more (seen_of one.replay) [] [] (changes_of s words)) one.gpu_is
    ∙ ap (λ seen. seen_more seen [] [] (changes_of after words))
    (one.seen_is ∙ ap (seen_more (seen_of t) [] []) (changes_bare t.state.gpu (next_number t.played) (word ∷ [])))
    ∙ more_changes (seen_of t) first (changes_of after words))

-- n reads
abbrev reads : ℕ → State → State
reads n s = each_below (λ i s. after_read s) n s

reads_first : (n : ℕ) (s : State) → reads n (after_read s) ≡ after_read (reads n s)
reads_first zero s = refl
reads_first (suc n) s = ap after_read (reads_first n s)

-- reads that are not shown
leads_skips : (t : Replay) (n : ℕ) → Leads t (replicate n event.Skip) (reads n t.state.gpu) (seen_of t)
leads_skips t zero = leads_none t
leads_skips t (suc n) =
    let one = leads_one t event.Skip operation.Skip refl in
    let rest = leads_skips one.replay n in
    leads_as t (replicate (suc n) event.Skip) (reads n one.replay.state.gpu) (reads (suc n) t.state.gpu)
    (seen_of one.replay) (seen_of t)
    (leads_on t (event.Skip ∷ []) (replicate n event.Skip) _ (reads n one.replay.state.gpu) _
    (seen_of one.replay) one rest)
    (ap (reads n) one.gpu_is ∙ reads_first n t.state.gpu) (one.seen_is ∙ more_none (seen_of t))

-- the GPU after reads whose words go to main memory
reads_taken : (block : Block) (n : ℕ) (s : State) (ram : List ℕ) → (first_taken block n s ram).gpu ≡ reads n s
reads_taken block zero s ram = refl
reads_taken block (suc n) s ram = ap after_read (reads_taken block n s ram)

-- ---- one event

-- the visible results with one more operation
abbrev operation_seen : Seen → Machine → (number : ℕ) → Operation → Seen
operation_seen seen s number asked =
    let did = done s number asked in
    seen_more seen (option_to_list did.shown) (frames_of asked did.machine.gpu.parts)
    (changes_of s.gpu (asked_words s.ram (Ok asked)))

-- The flat events of an operation have its effect at the ports, from every replay with the same GPU state.
leads_operation : (u : Replay) (s : Machine) (number : ℕ) (asked : Operation) → u.state.gpu ≡ s.gpu
    → Leads u (flat_operation s.ram asked) (done s number asked).machine.gpu (operation_seen (seen_of u) s number asked)
leads_operation u s number operation.Nothing same =
    leads_as u [] _ _ _ _ (leads_none u) same (sym (more_none (seen_of u)))
leads_operation u s number (operation.Put address word) same = leads_as u [] _ _ _ _ (leads_none u) same
    (sym (more_none (seen_of u)))
leads_operation u s number (operation.Feed asked next) same =
    leads_as u _ _ _ _ _ (leads_words u (words_of s.ram asked)) (ap (λ g. fed g (words_of s.ram asked)) same)
    (ap (λ g. seen_more (seen_of u) [] [] (changes_of g (words_of s.ram asked))) same)
leads_operation u s number (operation.Take block next) same =
    leads_as u _ _ _ _ _ (leads_skips u block.n) (ap (reads block.n) same ∙ sym (reads_taken block block.n s.gpu s.ram))
    (sym (more_none (seen_of u)))
leads_operation u s number (operation.Control word) same =
    leads_as u _ _ _ _ _ (leads_one u (event.Gp1 word) (operation.Control word) refl) (ap (λ g. after_gp1 g word) same)
    (ap (λ g. seen_more (seen_of u) [] ((word, (after_gp1 g word).parts) ∷ []) []) same)
leads_operation u s number operation.Read same =
    leads_as u _ _ _ _ _ (leads_one u event.Read operation.Read refl) (ap after_read same)
    (ap (λ g. seen_more (seen_of u) (read_word g ∷ []) [] []) same)
leads_operation u s number operation.Skip same =
    leads_as u _ _ _ _ _ (leads_one u event.Skip operation.Skip refl) (ap after_read same) refl
leads_operation u s number operation.Stat same =
    leads_as u _ _ _ _ _ (leads_one u event.Stat operation.Stat refl) same
    (ap (λ g. seen_more (seen_of u) (status_word g ∷ []) [] []) same)
leads_operation u s number (operation.Clear madr n) same = leads_as u [] _ _ _ _ (leads_none u) same
    (sym (more_none (seen_of u)))
leads_operation u s number (operation.Begin next) same = leads_as u [] _ _ _ _ (leads_none u) same
    (sym (more_none (seen_of u)))

-- ---- all events

-- two replays with the same GPU state and the same visible results
record AreSame (u t : Replay) : Type 0 where
  gpu : u.state.gpu ≡ t.state.gpu
  seen : seen_of u ≡ seen_of t

-- the claim about events and their flat events
abbrev Alike : Replay → List Event → Replay → List Event → Type 0
Alike u flat t events = ((whole u flat).ending ≡ Done) × AreSame (whole u flat).replay (whole t events).replay

-- the first event of the list, by its operation or its fault
alike_on : (u t : Replay) (given : Event) (events : List Event) (asked : Result Operation EventFault)
    → operation_of t.state.ram t.state.running given ≡ asked → AreSame u t → (whole t (given ∷ events)).ending ≡ Done
    → ((v next : Replay) → AreSame v next → (whole next events).ending ≡ Done
    → Alike v (flat_replay next events) next events)
    → Alike u (flat_replay t (given ∷ events)) t (given ∷ events)
unfolding event_step flat_events
alike_on u t given events (Err fault) is same fine later =
    let refused : event_step t.state (next_number t.played) given ≡ Err fault =
    ap (stepped t.state (next_number t.played)) is in
    let faulted : Faulted (next_number t.played) fault ≡ Done = rw refused at fine in absurd cc
alike_on u t given events (Ok asked) is same fine later =
    let n = next_number t.played in
    let did = done t.state n asked in
    let steps : event_step t.state n given ≡ Ok did = ap (stepped t.state n) is in
    let next = replay_on t given did.machine did.shown did.notes in
    let after = after-event t given did.machine did.shown did.notes steps in
    let goes = goes_on t next given events after in
    let flat = leads_operation u t.state n asked same.gpu in
    let cut : flat_replay t (given ∷ events) ≡ flat_operation t.state.ram asked ++ flat_replay next events =
    ap (λ r. flat_asked t.state.ram r ++ then_flat (after_event t given) (λ next. flat_replay next events)) is
    ∙ ap (λ r. flat_operation t.state.ram asked ++ then_flat r (λ next. flat_replay next events)) after in
    let says : whole u (flat_replay t (given ∷ events)) ≡ whole flat.replay (flat_replay next events) =
    ap (whole u) cut ∙ flat.says (flat_replay next events) in
    let frames : map bare_frame (frames_after given n did.machine.gpu.parts)
    ≡ frames_of asked did.machine.gpu.parts =
    frames_are t.state.ram t.state.running given asked n did.machine.gpu.parts is in
    let changes : map bare_change (event_changes t.state n given)
    ≡ changes_of t.state.gpu (asked_words t.state.ram (Ok asked)) =
    changes_bare t.state.gpu n (event_words t.state given)
    ∙ ap (λ r. changes_of t.state.gpu (asked_words t.state.ram r)) is in
    let seen : seen_of next ≡ operation_seen (seen_of t) t.state n asked =
    seen_on t given did.machine did.shown did.notes
    ∙ ap (λ xs. seen_more (seen_of t) (option_to_list did.shown) xs
    (map bare_change (event_changes t.state n given))) frames
    ∙ ap (seen_more (seen_of t) (option_to_list did.shown) (frames_of asked did.machine.gpu.parts)) changes in
    let alike = later flat.replay next (record {
      gpu = flat.gpu_is;
      seen = flat.seen_is ∙ ap (λ seen. operation_seen seen t.state n asked) same.seen ∙ sym seen;
    }) (ap (λ (r : Played). r.ending) (sym goes) ∙ fine) in
    let P : Played → Played → Type 0 = λ a b. (a.ending ≡ Done) × AreSame a.replay b.replay in
    let Q : Played → Type 0 = λ a. P a (whole t (given ∷ events)) in
    let R : Played → Type 0 = λ b. P (whole flat.replay (flat_replay next events)) b in
    subst Q (sym says) (subst R (sym goes) alike)

alike_all : (events : List Event) (u t : Replay) → AreSame u t → (whole t events).ending ≡ Done
    → Alike u (flat_replay t events) t events
alike_all [] u t same fine = (refl, same)
alike_all (given ∷ events) u t same fine =
    alike_on u t given events (operation_of t.state.ram t.state.running given) refl same fine
    (λ v next alike ends. alike_all events v next alike ends)

flat_same : (t : Replay) (events : List Event) → (whole t events).ending ≡ Done
    → Alike t (flat_replay t events) t events
flat_same t events fine = alike_all events t t (record { gpu = refl; seen = refl }) fine

pub flat_alike : (t : Replay) (events : List Event) → (whole t events).ending ≡ Done
    → ((whole t (flat_replay t events)).ending ≡ Done)
    × AreAlike (whole t (flat_replay t events)).replay (whole t events).replay
flat_alike t events fine =
    let same = flat_same t events fine in (
      same.0,
      record {
        shown = ap (λ (seen : Seen). seen.shown) same.1.seen;
        status = ap status_word same.1.gpu;
        cells = ap (λ (s : State). s.parts.m) same.1.gpu;
      },
    )

-- ---- the film

-- the picture of a frame without its event number
abbrev picture_of_bare : FrameTrigger → ℕ × Parts → List ℕ
picture_of_bare at frame = if is_frame_trigger at frame.0 then frame_bytes frame.1 else []

pictures_bare : (at : FrameTrigger) (frames : List Frame)
    → flat_map (picture_at at) frames ≡ flat_map (picture_of_bare at) (map bare_frame frames)
pictures_bare at [] = refl
pictures_bare at (frame ∷ frames) = ap (λ xs. picture_at at frame ++ xs) (pictures_bare at frames)

-- the output of a whole replay in the mode `Frames`
film_of : (at : FrameTrigger) (heard : List Reading) (r : Played) → r.ending ≡ Done
    → out_bytes (Frames at) heard r
    ≡ flat_map (picture_of_bare at) (map bare_frame r.replay.frames)
    ++ bytes_at_end at (frame_bytes r.replay.state.gpu.parts)
unfolding final_bytes
film_of at heard r done =
    rw done (ap (λ xs. xs ++ bytes_at_end at (frame_bytes r.replay.state.gpu.parts)) (pictures_bare at r.replay.frames))

pub flat_film : (t : Replay) (events : List Event) → (whole t events).ending ≡ Done
    → ShowAlike (whole t (flat_replay t events)) (whole t events)
flat_film t events fine =
    let same = flat_same t events fine in
    let flat = whole t (flat_replay t events) in
    let frames = ap (λ (seen : Seen). seen.frames) same.1.seen in
    record {
      pictures = λ at heard other.
          film_of at heard flat same.0
          ∙ ap (λ xs. flat_map (picture_of_bare at) xs ++ bytes_at_end at (frame_bytes flat.replay.state.gpu.parts))
          frames
          ∙ ap (λ (s : State). flat_map (picture_of_bare at) (map bare_frame (whole t events).replay.frames)
          ++ bytes_at_end at (frame_bytes s.parts)) same.1.gpu
          ∙ sym (film_of at other (whole t events) fine);
      frames = frames;
      changes = ap (λ (seen : Seen). seen.changes) same.1.seen;
    }
