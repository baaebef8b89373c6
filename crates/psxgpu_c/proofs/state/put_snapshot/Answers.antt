use Rattle.std.proofs.Common.{◌<◌, ◌^◌, List, ℕ, Option, ap, subst, ◌∙◌, arith}
use Rattle.dev_io.specs.Device.{appended}
use Rattle.dev_io.specs.Memory.{SinkState}
use Rattle.psxgpu_c.specs.Room.{room_and_bytes}
use Rattle.psxgpu_c.specs.Saved.{saved}
use Rattle.psxgpu_c.specs.Shown.{StandsInFront}
use Rattle.psxgpu_c.proofs.Loading.{saves_all}
use Rattle.psxgpu_c.proofs.RoomLemmas.{taken_bytes}
use Rattle.psxgpu_c.proofs.state.put_snapshot.Goals as goal

pub returns : goal.returns
returns g c =
    let rig = c.args.rig.now in
    let few : rig.played < 2 ^ 63 = omega (arith, c.played.ensures, c.if-played-gt-MOST_EVENTS.false) in
    let told : SinkState → Option (List ℕ) = λ s. appended (room_and_bytes s) (saved rig) in
    let writes = c.in-Ok-result.ensures.writes in
    let has = taken_bytes c.saved_size-size.result c.write_saved-result.new.out (saved rig)
    (writes.ok ∙ ap told c.in-Ok.ensures) in
    let Front : List ℕ → Type 0 = λ bytes. StandsInFront bytes c.args.out.now c.put_all.new.out in
    saves_all rig c.args.out.now c.put_all.new.out c.saved_size-size.result few
    (subst Front (c.bytes-bytes.ensures.value ∙ has.held) c.put_all.ensures) c.saved_size-size.ensures
    (c.keep_bounds.ensures few)
