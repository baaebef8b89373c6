-- What a run of a demo does, and a run with any arguments.
use Rattle.std.proofs.Common.{◌≡◌, ◌≤◌, ◌+◌, inl, inr, ℕ, List, [], map, Vec, String, string_bytes}
use Rattle.std.proofs.Common.{refl, ap, sym, subst, ◌∙◌, append-nil, arith}
use Rattle.std.specs.declared.alloc.Global.{Global}
use Rattle.gpu_capture.specs.declared.event.Stop.TheVariants.{End}
use Rattle.gpu_core.specs.Kept.{Kept, kept_of}
use Rattle.gpu_core.specs.Machine.{State}
use Rattle.gpu_taps.specs.Tally.{Reading}
use Rattle.event_play.specs.Replay.{Replay, Played, next_number}
use Rattle.event_play.specs.RigState.{RigState, first_rig}
use Rattle.event_play.specs.Streams.{without_sink}
use Rattle.event_play.specs.Told.{told_notes}
use Rattle.event_play.specs.declared.ending.Ending.{Ending}
use Rattle.event_play.specs.declared.ending.Ending.TheVariants.{Done, WriteFailed}
use Rattle.event_play.proofs.BoxCosts.{costs_small}
use Rattle.px_num.specs.Height.{short_height}
use Rattle.command_line.specs.Command.{Names, IsUsage}
use Rattle.demo_play.specs.Demo.{demo_events, demo_words}
use Rattle.demo_play.specs.DemoOut.{demo_bytes, demo_replay, demo_out, demo_cost, demo_box_cost, cells_cost}
use Rattle.psxgpu_tool.specs.First.{first}
use Rattle.psxgpu_tool.specs.Line.{status_of, ending_line, ending_text, usage_line}
use Rattle.demo_play.specs.Telling.{EndsTelling}
use Rattle.psxgpu_tool.specs.Outside.{Outside, Says}
use Rattle.psxgpu_tool.specs.Run.{CommandRun, Declined, Runs, RunsAs}
use Rattle.psxgpu_tool.specs.TellRun.{Tells}
use Rattle.demo_play.specs.Words.{HavePlayed, whole_replay}
use Rattle.command_line.specs.declared.command.Command.{Command}
use Rattle.command_line.specs.declared.command.Command.TheVariants.{Demo}
use Rattle.psxgpu_tool.proofs.Causes.{answers}
use Rattle.command_line.proofs.Commands.{same_command}
use Rattle.psxgpu_tool.proofs.First.{first_stands, first_short}
use Rattle.psxgpu_tool.proofs.Told.{ending_cause}

module _ (heard heard_now : List Reading) (before now : Outside) (ending : Ending)
    (says : Says before.err now.err (ending_text ending heard_now))
    (silent : status_of ending ≡ 0 → now.err ≡ before.err) where
  -- the output was written, or a part of it
  tells : (bytes : List ℕ) (event : ℕ) (e : Ending) → EndsTelling bytes event before.out now.out e
      → Says before.err now.err (ending_text e heard_now)
      → Tells bytes event before now (status_of e)
  tells bytes event Done ends says = inl (refl, ends)
  tells bytes event (WriteFailed at) ends says =
      inr (
        refl,
        ends.1,
        ends.2,
        subst (λ (n : ℕ). Says before.err now.err (ending_line (WriteFailed n))) ends.0
            (rw append-nil at says),
      )
  tells bytes event e ends says = absurd ends

  -- a demo
  pub demo_runs : (n steps : ℕ) (rig : RigState)
      → HavePlayed first (demo_words n) (without_sink heard before.steps) (without_sink heard_now steps) rig
      → ((s : State) → kept_of s ≡ rig.gpu → EndsTelling (demo_bytes heard_now s)
      (next_number rig.played) before.out now.out ending)
      → (rig.gpu.parts.regs.height ≡ short_height → now.steps ≤ steps + cells_cost) → now.source ≡ before.source
      → CommandRun (Demo n) heard before now (status_of ending)
  demo_runs n steps rig played ends cost unread =
      let whole_is = ap (whole_replay first) (sym (append-nil (demo_events n))) ∙ played.comes [] in
      let replay : demo_replay n ≡ played.replay = ap (λ (r : Played). r.replay) whole_is in
      let told = played.heard ∙ ap (λ (t : Replay). told_notes t.notes heard) (sym replay) in
      let stands : kept_of (demo_replay n).state.gpu ≡ rig.gpu = ap (λ (t : Replay). kept_of t.state.gpu) replay
      ∙ played.stands.state.gpu in
      let number : next_number rig.played ≡ next_number (demo_replay n).played =
      ap next_number (sym played.stands.played ∙ ap (λ (t : Replay). t.played) (sym replay))
      in
      let bytes : demo_bytes heard_now (demo_replay n).state.gpu ≡ demo_out n heard =
      ap (λ (heard : List Reading). demo_bytes heard (demo_replay n).state.gpu) told
      in
      let telling = rw (bytes, number) at (tells _ _ ending (ends (demo_replay n).state.gpu stands) says) in
      let height : rig.gpu.parts.regs.height ≡ short_height = ap (λ (k : Kept). k.parts.regs.height)
      (sym played.stands.state.gpu) ∙ played.height ∙ first_short in
      let spent = ap (λ (t : Replay). t.cost) replay in
      let within : now.steps ≤ before.steps + demo_cost n = let c = cost height in omega
      (arith, c, played.cost, spent) in
      let boxed : (demo_replay n).cost ≤ (demo_replay n).box_cost =
      costs_small first (demo_events n) End [] (omega arith) in
      let within_boxes : now.steps ≤ before.steps + demo_box_cost n = omega (arith, within, boxed) in
      answers (Demo n) heard before now (status_of ending) (ending_cause ending) silent
      (record { tells = inr telling; unread = unread; cost = within; box_cost = within_boxes })

-- nothing was played on a new rig
pub nothing_played : (heard : List Reading) (steps : ℕ) (rig : RigState) → rig ≡ first_rig
    → HavePlayed first [] (without_sink heard steps) (without_sink heard steps) rig
nothing_played heard steps rig is = record {
  replay = first;
  comes = λ more. refl;
  stands = record { state = first_stands rig is; played = sym (ap (λ (r : RigState). r.played) is) };
  heard = refl;
  cost = omega arith;
  height = refl;
}

-- ---- any arguments

-- arguments that name a command
pub command_runs : (words : Vec (String Global) Global) (command : Command) (heard : List Reading)
    (before now : Outside) (status : ℕ) → Names words command → CommandRun command heard before now status
    → Runs words heard before now status
command_runs words command heard before now status named run = record {
  does = λ other names. subst (λ (c : Command). RunsAs c heard before now status)
      (same_command (map string_bytes words.items) command other named names) run.does;
  usage = (λ one. absurd (run.used one), λ usage. absurd (usage command named));
  misused = λ one. absurd (run.used one);
  starving = run.starving;
  silent = run.silent;
  few = run.few;
}

-- arguments that name none
pub misused_runs : (words : Vec (String Global) Global) (heard : List Reading) (before now : Outside) → IsUsage words
    → Declined usage_line before now → Runs words heard before now 1
misused_runs words heard before now usage declined = record {
  does = λ command names. absurd (usage command names);
  usage = (λ one. usage, λ usage. refl);
  misused = λ one. declined;
  starving = λ five. absurd (omega (arith, five));
  silent = λ zero. absurd (omega (arith, zero));
  few = omega arith;
}
