-- Words that are fed to a rig without a capture.
use Rattle.std.proofs.Common.{◌≡◌, ℕ, List, [], ◌∷◌, None, option_to_list, refl, ap, sym, ◌∙◌, append-nil, arith}
use Rattle.gpu_capture.specs.declared.event.Event.TheVariants.{Gp0}
use Rattle.gpu_core.specs.Kept.{Kept}
use Rattle.gpu_core.specs.Machine.{gp0_note}
use Rattle.gpu_taps.specs.Tally.{Reading}
use Rattle.event_play.specs.OwnWords.{Tells}
use Rattle.event_play.specs.PlayedWords.{IsTold, after_word, after_words}
use Rattle.event_play.specs.Fed.{fed_notes}
use Rattle.event_play.specs.Replay.{Replay, from_state, next_number}
use Rattle.event_play.specs.RigState.{RigState, Stands}
use Rattle.event_play.specs.PlayState.{play_state}
use Rattle.event_play.specs.Step.{Machine, event_cost, event_step}
use Rattle.event_play.specs.Stepping.{HasStepped, numbered}
use Rattle.event_play.specs.Streams.{Outlets, without_sink}
use Rattle.event_play.specs.Told.{told_notes}

pub same_ram : (t : Replay) (words : List ℕ) → (after_words t words).state.ram ≡ t.state.ram
same_ram t [] = refl
same_ram t (word ∷ words) = same_ram (after_word t word) words

pub same_running : (t : Replay) (words : List ℕ) → (after_words t words).state.running ≡ t.state.running
same_running t [] = refl
same_running t (word ∷ words) = same_running (after_word t word) words

pub words_tell : (rig : RigState) (gpu : Kept) (played : ℕ) (words : List ℕ) (heard heard_now : List Reading)
    (steps steps_now : ℕ)
    → ((t : Replay) (first : Outlets) → IsTold t first (without_sink heard steps) rig.gpu rig.played
    → IsTold (after_words t words) first (without_sink heard_now steps_now) gpu played)
    → (s : Machine) → Stands rig s
    → Tells (after_words (from_state s rig.played) words) (without_sink heard steps)
    (without_sink heard_now steps_now) (record rig { gpu = gpu; played = played })
words_tell rig gpu played words heard heard_now steps steps_now tells s stands =
    let t = from_state s rig.played in
    let told = tells t (without_sink heard steps) (record {
      state = stands.gpu;
      number = refl;
      heard = refl;
      cost = omega arith;
    }) in
    record {
      stands = record {
        state = record {
          gpu = told.state;
          ram = same_ram t words ∙ stands.ram;
          running = same_running t words ∙ stands.running;
        };
        played = told.number;
      };
      heard = told.heard;
      cost = told.cost;
    }

-- a word that was taken as the next event is the step of its event
pub word_steps : (s : Machine) (played word : ℕ) (before now : Outlets) (rig : RigState)
    → Tells (after_word (from_state s played) word) before now rig
    → HasStepped s (numbered (next_number played) (Gp0 word)) None before (play_state now rig)
unfolding event_step event_cost
word_steps s played word before now rig tells =
    let note = option_to_list (gp0_note s.gpu (next_number played) word) in
    record {
      machine = (after_word (from_state s played) word).state;
      notes = fed_notes s.gpu (next_number played) (word ∷ []);
      is = refl;
      stands = tells.stands.state;
      heard = tells.heard ∙ ap (λ notes. told_notes notes before.heard) (sym (append-nil note));
      cost = let c = tells.cost in omega (arith, c);
    }
