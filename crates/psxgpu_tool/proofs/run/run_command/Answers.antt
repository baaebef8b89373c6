use Rattle.std.proofs.Common.{refl, subst, ◌∙◌}
use Rattle.event_play.specs.Step.{first_machine}
use Rattle.command_line.specs.Command.{IsCommand}
use Rattle.psxgpu_tool.proofs.First.{first_stands}
use Rattle.psxgpu_tool.proofs.Cuts.{cut_runs}
use Rattle.psxgpu_tool.proofs.Flats.{flat_runs}
use Rattle.psxgpu_tool.proofs.Running.{demo_runs, nothing_played}
use Rattle.psxgpu_tool.proofs.Slims.{slim_runs}
use Rattle.psxgpu_tool.proofs.Told.{plays_runs}
use Rattle.psxgpu_tool.proofs.run.run_command.Goals as goal

pub returns-in-Ok : goal.returns-in-Ok
returns-in-Ok g c =
    rw (c.in-Plays.is, c.end-in-Ok.ensures.status)
    (plays_runs c.in-Plays.mode _ _ _ _ _ c.end-in-Ok.ensures.says
    (λ zero. c.end-in-Ok.ensures.silent (c.end-in-Ok.ensures.status ∙ zero))
    (c.play_any-ending.ensures.ends first_machine (first_stands _ refl))
    c.play_any-ending.ensures.read_cause c.play_any-ending.ensures.write_cause)

pub returns-in-Ok-new : goal.returns-in-Ok-new
returns-in-Ok-new g c =
    rw (c.in-Demo.is, c.end-in-Ok-new.ensures.status)
    (demo_runs _ _ _ _ _ c.end-in-Ok-new.ensures.says
    (λ zero. c.end-in-Ok-new.ensures.silent (c.end-in-Ok-new.ensures.status ∙ zero))
    c.in-Demo.packets _ c.play_demo.new.rig
    (c.play_demo.ensures _ _ (nothing_played _ _ _ c.in-Ok-new.ensures)) c.tell_demo-ending.ensures.ends
    c.tell_demo-ending.ensures.cost refl)

pub returns-in-Ok-new-2 : goal.returns-in-Ok-new-2
returns-in-Ok-new-2 g c =
    rw (c.in-Flat.is, c.end-in-Ok-new-2.ensures.status)
    (flat_runs _ _ _ _ c.flat-ending.new.rig _ c.end-in-Ok-new-2.ensures.says
    (λ zero. c.end-in-Ok-new-2.ensures.silent (c.end-in-Ok-new-2.ensures.status ∙ zero))
    (c.flat-ending.ensures.ends first_machine (first_stands _ c.in-Ok-new-2.ensures)) c.flat-ending.ensures.known
    c.flat-ending.ensures.read_cause c.flat-ending.ensures.write_cause)

pub returns-in-Ok-new-3 : goal.returns-in-Ok-new-3
returns-in-Ok-new-3 g c =
    let most = (subst IsCommand c.in-Cut.is c.requires).1 in
    rw (c.in-Cut.is, c.end-in-Ok-new-3.ensures.status)
    (cut_runs c.in-Cut.events most _ _ _ _ c.cut-ending.new.rig _ c.end-in-Ok-new-3.ensures.says
    (λ zero. c.end-in-Ok-new-3.ensures.silent (c.end-in-Ok-new-3.ensures.status ∙ zero))
    (c.cut-ending.ensures.ends first_machine (first_stands _ c.in-Ok-new-3.ensures)) c.cut-ending.ensures.known
    c.cut-ending.ensures.read_cause c.cut-ending.ensures.write_cause)

pub returns-in-Ok-new-4 : goal.returns-in-Ok-new-4
returns-in-Ok-new-4 g c =
    rw (c.in-Slim.is, c.end-in-Ok-new-4.ensures.status)
    (slim_runs _ _ _ _ c.end-in-Ok-new-4.ensures.says
    (λ zero. c.end-in-Ok-new-4.ensures.silent (c.end-in-Ok-new-4.ensures.status ∙ zero))
    c.pass-ending.ensures.ends c.pass-ending.ensures.known
    c.pass-ending.ensures.read_cause c.pass-ending.ensures.write_cause refl)
