use Rattle.std.proofs.Common.{map}
use Rattle.dev_io.specs.Device.{side}
use Rattle.psxgpu_c.proofs.Starts.{plays_sink}
use Rattle.psxgpu_c.proofs.run.play_with.Goals as goal

pub returns : goal.returns
returns g c =
    let played = c.play_any-end in
    plays_sink c.args.mode c.new-source.result c.args.capture.now played.new.source
    (side g.K.Sink.held g.K.Sink.faults c.args.out.now) (side g.K.Sink.held g.K.Sink.faults played.new.out)
    (map g.T.Listener.heard c.args.taps.now.items) (map g.T.Listener.heard played.new.taps.items) c.args.steps.now
    played.new.steps played.result c.new-source.ensures played.ensures.ends played.ensures.read_cause
    played.ensures.write_cause
