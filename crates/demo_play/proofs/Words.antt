-- Words that are played in order.
use Rattle.std.proofs.Common.{◌≡◌, ◌≤◌, ◌+◌, ◌<◌, ◌++◌, ℕ, List, [], ◌∷◌, length, take, get_or, map}
use Rattle.std.proofs.Common.{Option, Result, Ok, Err, OnOk, IfOk, IfErr, option_to_list, arith, refl, ap, sym}
use Rattle.std.proofs.Common.{append_assoc, ◌∙◌}
use Rattle.std.proofs.lemmas.Grind.{fold-append}
use Rattle.std.proofs.lemmas.List.{append-nil, map-append, take_all, take_more}
use Rattle.gp0_packets.specs.declared.note.Note.{Note}
use Rattle.gpu_capture.specs.declared.event.Event.{Event}
use Rattle.gpu_capture.specs.declared.event.Event.TheVariants.{Gp0}
use Rattle.gpu_core.specs.Machine.{State, after_gp0}
use Rattle.gpu_taps.specs.Tally.{Reading, reading_after}
use Rattle.event_play.specs.Replay.{Replay, next_number}
use Rattle.event_play.specs.RigState.{RigState, Stands}
use Rattle.event_play.specs.Step.{Machine, Stepped, event_step, event_cost, event_box_cost}
use Rattle.event_play.specs.Frames.{frames_after}
use Rattle.event_play.specs.Stepping.{HasStepped, numbered}
use Rattle.event_play.specs.Streams.{Outlets}
use Rattle.event_play.specs.Changes.{event_changes}
use Rattle.event_play.specs.Told.{told_notes}
use Rattle.event_play.specs.declared.fault.EventFault.{EventFault}
use Rattle.demo_play.specs.Demo.{packet, number_before, first_packets}
use Rattle.demo_play.specs.Words.{HavePlayed, whole_replay}
use Rattle.demo_play.proofs.Generating.{lists_more}
use Rattle.demo_play.proofs.Heights.{feed_height}
use Rattle.event_play.specs.PlayState.{play_state}

-- the state after one more event
abbrev replay_on : Replay → Event → Machine → Option ℕ → List Note → Replay
replay_on t event machine shown notes = record {
  state = machine;
  played = next_number t.played;
  shown = t.shown ++ option_to_list shown;
  frames = t.frames ++ frames_after event (next_number t.played) machine.gpu.parts;
  notes = t.notes ++ notes;
  changes = t.changes ++ event_changes t.state (next_number t.played) event;
  cost = t.cost + event_cost t.state event;
  box_cost = t.box_cost + event_box_cost t.state event;
}

abbrev gpu_after : State → Result Stepped EventFault → State
gpu_after s (Ok stepped) = stepped.machine.gpu
gpu_after s (Err fault) = s

-- an event without a fault
event_on : (t : Replay) (event : Event) (more : List Event) (machine : Machine) (shown : Option ℕ) (notes : List Note)
    → event_step t.state (next_number t.played) event ≡ Ok (record { machine = machine; shown = shown; notes = notes })
    → whole_replay t (event ∷ more) ≡ whole_replay (replay_on t event machine shown notes) more
event_on t event more machine shown notes is = rw is refl

-- it keeps the height
word_height : (s : Machine) (number word : ℕ) (shown : Option ℕ) (machine : Machine) (notes : List Note)
    → event_step s number (Gp0 word) ≡ Ok (record { machine = machine; shown = shown; notes = notes })
    → machine.gpu.parts.regs.height ≡ s.gpu.parts.regs.height
unfolding event_step
word_height s number word shown machine notes is =
    let same : after_gp0 s.gpu word ≡ machine.gpu = ap (λ (r : Result Stepped EventFault). gpu_after s.gpu r) is in
    ap (λ (s : State). s.parts.regs.height) (sym same) ∙ feed_height s.gpu word

events_before : (words : List ℕ) (word : ℕ) (more : List Event)
    → map Gp0 (words ++ word ∷ []) ++ more ≡ map Gp0 words ++ (Gp0 word ∷ more)
events_before words word more =
    ap (λ (events : List Event). events ++ more) (map-append Gp0 words (word ∷ []))
    ∙ append_assoc (map Gp0 words) (Gp0 word ∷ []) more

module _ (first : Replay) (words : List ℕ) (word : ℕ) (start before now : Outlets) (was rig : RigState) where
  -- one more word was played
  stepped_on : (played : HavePlayed first words start before was) (shown : Option ℕ)
      → HasStepped played.replay.state (numbered (next_number was.played) (Gp0 word)) shown before (play_state now rig)
      → rig.played ≡ next_number was.played
      → HavePlayed first (words ++ word ∷ []) start now rig
  stepped_on played shown step count =
      let number = ap next_number played.stands.played in
      let is : event_step played.replay.state (next_number played.replay.played) (Gp0 word)
      ≡ Ok (record { machine = step.machine; shown = shown; notes = step.notes }) =
      rw number step.is
      in
      record {
        replay = replay_on played.replay (Gp0 word) step.machine shown step.notes;
        comes = λ more. ap (whole_replay first) (events_before words word more) ∙ played.comes (Gp0 word ∷ more)
            ∙ event_on played.replay (Gp0 word) more step.machine shown step.notes is;
        stands = record { state = step.stands; played = number ∙ sym count };
        heard = step.heard ∙ ap (told_notes step.notes) played.heard
            ∙ sym (fold-append (λ (heard : List Reading) (note : Note). map
            (reading_after note) heard) start.heard played.replay.notes step.notes);
        cost = omega (arith, step.cost, played.cost);
        height = word_height played.replay.state (next_number was.played) word shown step.machine step.notes step.is
            ∙ played.height;
      }

  -- it is no fault
  no_fault : (s : Machine) (number : ℕ) (fault : EventFault) → event_step s number (Gp0 word) ≡ Err fault → ⊥
  unfolding event_step
  no_fault s number fault is = cc

  pub word_on : (r : Result (Option ℕ) EventFault) → HavePlayed first words start before was
      → ((s : Machine) → Stands was s → IfOk r (λ shown.
      HasStepped s (numbered (next_number was.played) (Gp0 word)) shown before (play_state now rig)))
      → OnOk r (rig.played ≡ next_number was.played)
      → ((s : Machine) → Stands was s → IfErr r (λ fault. event_step s (next_number was.played) (Gp0 word) ≡ Err fault))
      → HavePlayed first (words ++ word ∷ []) start now rig
  word_on (Ok shown) played stepped count fault = stepped_on played shown
      (stepped played.replay.state played.stands.state) count
  word_on (Err why) played stepped count fault =
      absurd (no_fault played.replay.state (next_number was.played) why (fault played.replay.state played.stands.state))

-- no more words
pub none_on : (first : Replay) (words : List ℕ) (start now : Outlets) (rig : RigState)
    → HavePlayed first words start now rig
    → HavePlayed first (words ++ []) start now rig
none_on first words start now rig played = rw append-nil played

-- the next of some words
pub words_next : (first : Replay) (done words : List ℕ) (i : ℕ) (start now : Outlets) (rig : RigState)
    → i < length words
    → HavePlayed first ((done ++ take i words) ++ get_or words i 0 ∷ []) start now rig
    → HavePlayed first (done ++ take (i + 1) words) start now rig
words_next first done words i start now rig lt played =
    rw (take_more words i 0 lt, ← append_assoc done (take i words) (get_or words i 0 ∷ [])) played

-- all of them
pub words_all : (first : Replay) (done words : List ℕ) (i : ℕ) (start now : Outlets) (rig : RigState) → length words ≤ i
    → HavePlayed first (done ++ take i words) start now rig → HavePlayed first (done ++ words) start now rig
words_all first done words i start now rig le played = rw (take_all i words le) at played

-- the packets up to one more
pub packet_on : (first : Replay) (done : List ℕ) (n k number : ℕ) (words : List ℕ) (start now : Outlets)
    (rig : RigState)
    → number ≡ number_before n k → words ≡ packet k number
    → HavePlayed first ((done ++ first_packets n k) ++ words) start now rig
    → HavePlayed first (done ++ first_packets n (k + 1)) start now rig
packet_on first done n k number words start now rig at is played =
    let all : (done ++ first_packets n k) ++ words ≡ done ++ first_packets n (k + 1) =
    append_assoc done (first_packets n k) words
    ∙ ap (λ (xs : List ℕ). done ++ (first_packets n k ++ xs)) (is ∙ ap (packet k) at)
    ∙ ap (λ (xs : List ℕ). done ++ xs) (sym (lists_more (λ k. packet k (number_before n k)) k))
    in
    rw all at played
