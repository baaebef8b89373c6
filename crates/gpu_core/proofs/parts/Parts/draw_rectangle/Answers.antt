use Rattle.gpu_core.proofs.parts.Parts.draw_rectangle.Goals as goal

pub draw-requires-clause-range : goal.draw-requires-clause-range
draw-requires-clause-range g c = c.decode_rectangle-packet.ensures.ranges c.args.self.now.regs.height
