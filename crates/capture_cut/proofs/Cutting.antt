-- The state after the first events.
use Rattle.std.proofs.Common.{◌≡◌, ◌≤◌, ◌<◌, ◌^◌, inl, ◌+◌, ◌++◌, ℕ, List, [], Option, length, refl, ap, sym, subst}
use Rattle.std.proofs.Common.{◌∙◌, append-nil, arith}
use Rattle.dev_io.specs.Device.{appended, AppendsPart}
use Rattle.gpu_capture.specs.Capture.{limit}
use Rattle.gpu_capture.specs.declared.event.Event.{Event}
use Rattle.gpu_capture.specs.declared.progress.Progress.{Progress}
use Rattle.picture_out.specs.Dump.{dump_cost}
use Rattle.event_play.specs.Replay.{Replay}
use Rattle.event_play.specs.RigState.{RigState, StandsFor}
use Rattle.event_play.specs.Streams.{Streams, streams}
use Rattle.gpu_core.specs.Kept.{Kept}
use Rattle.list_dma.specs.declared.run.Run.{Run}
use Rattle.capture_cut.specs.Came.{Came, HasRead, PlaysFirst, reached}
use Rattle.capture_cut.specs.Cut.{CutAt, Way, EndsCut}
use Rattle.capture_cut.specs.File.{begun, rig_bytes, rig_of, snapshot, IsWritable}
use Rattle.capture_cut.specs.declared.ending.CutEnding.TheVariants.{WriteFailed}
use Rattle.capture_cut.proofs.Reading.{reads_to}

-- A rig that agrees with a replay in each part is that replay's rig (`rig_of`).
pub of_parts : (rig : RigState) (gpu : Kept) (ram : List ℕ) (running : Run) (played : ℕ) → gpu ≡ rig.gpu → ram ≡ rig.ram
    → running ≡ rig.running → played ≡ rig.played
    → ◌≡◌ {A = RigState} (record { gpu = gpu; ram = ram; running = running; played = played }) rig
of_parts rig gpu ram running played a b c d = rw (a, b, c, d) refl

rig_is : (rig : RigState) (t : Replay) → StandsFor rig t → rig_of t ≡ rig
rig_is rig t stands = of_parts rig _ _ _ _ stands.state.gpu stands.state.ram stands.state.running stands.played

spent_on : (before mid now a more other : ℕ) → mid ≤ before + a → now ≤ mid + more → more ≡ other
    → now ≤ before + a + other
spent_on before mid now a more other was took same = omega arith

pub spent_within : (before now a b more : ℕ) → now ≤ before + a + more → a ≤ b → now ≤ before + b + more
spent_within before now a b more within small = omega arith

module _ (cut : CutAt) (before now : Streams) (rig : RigState) (p : Progress)
    (at : PlaysFirst cut before now rig p) (unwritten : now.held ≡ before.held) (held : Option (List ℕ)) (steps : ℕ)
    (cost : steps ≤ now.steps + dump_cost rig.gpu.parts.m) where
  abbrev after : Streams
  after = streams now.left held now.heard steps

  abbrev way : Way
  way = record { version = p.version; taken = at.taken; played = at.events; replay = at.replay; later = [] }

  same : snapshot at.replay ≡ rig_bytes rig
  same = ap rig_bytes (rig_is rig at.replay at.stands.rig_is)

  none_later : at.events ++ [] ≡ at.events
  none_later = append-nil at.events

  has_read : HasRead before.left now.left p at.taken (at.events ++ [])
  has_read = let P : List Event → Type 0 = λ events. HasRead before.left now.left p at.taken events in
      subst P (sym none_later) at.reads

  spent : steps ≤ before.steps + at.replay.cost + dump_cost at.replay.state.gpu.parts.m
  spent = spent_on before.steps now.steps steps at.replay.cost (dump_cost rig.gpu.parts.m) _ at.cost cost
      (ap (λ (k : Kept). dump_cost k.parts.m) (sym at.stands.rig_is.state.gpu))

  -- fewer than 2^63 events were played
  few : cut.n < 2 ^ 32 → rig.played < 2 ^ 63
  few small = omega (arith, small, at.many, at.plays.counts, at.stands.rig_is.played)

  -- without later events the file is the state alone
  bare : begun at.replay [] ≡ rig_bytes rig
  bare = append-nil (snapshot at.replay) ∙ same

  pub state_written : (size : ℕ) → held ≡ appended now.held (rig_bytes rig) → size ≡ length (rig_bytes rig)
      → size + 4 ≤ limit → (rig.played < 2 ^ 63 → IsWritable rig) → cut.n < 2 ^ 32
      → Came cut before after rig (reached p cut.n size)
  state_written size writes is fits bounds small = record {
    on = record {
      way = way;
      all = at.many;
      same = refl;
      known = at.known;
      reads = has_read;
      plays = at.plays;
      stands = at.stands;
      cost = spent;
      small = at.small;
      writable = subst IsWritable (sym (rig_is rig at.replay at.stands.rig_is)) (bounds (few small));
      allowed = tt;
    };
    count_is = rw none_later (sym at.many);
    held = rw (bare, ← unwritten) writes;
    size_is = is ∙ ap length (sym bare);
    fits = fits;
  }

  pub state_lacks : (number : ℕ) → number ≡ cut.n → AppendsPart now.held held (rig_bytes rig)
      → EndsCut cut before after rig (WriteFailed number)
  state_lacks number is part =
      let P : Option (List ℕ) → Type 0 = λ base. AppendsPart base held (rig_bytes rig) in
      record {
        way = way;
        bytes = at.reads.bytes;
        order = record { most = omega (arith, at.many); first = λ some. refl };
        plays = at.plays;
        stands = at.stands;
        says = inl (record {
          all = at.many;
          number_is = is;
          none = refl;
          reads = reads_to before.left now.left p at.events way at.reads at.known refl;
          held = rw same (subst P unwritten part);
        });
        cost = spent;
        box_cost = spent_within before.steps steps at.replay.cost at.replay.box_cost _ spent at.small;
      }
