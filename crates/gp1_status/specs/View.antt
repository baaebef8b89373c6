-- A `Regs` in contracts.
use Rattle.gp1_status.specs.Registers.{Registers}
use Rattle.gp1_status.specs.declared.regs.Regs.TheInside.{Inside}

abbrev pub registers_of : Inside → Registers
registers_of r =
    record {
      e1 = r.e1;
      window = r.window;
      top_left = r.top_left;
      bottom_right = r.bottom_right;
      offset = r.offset;
      mask = r.mask;
      irq = r.irq;
      display_off = r.display_off;
      direction = r.direction;
      start = r.start;
      hrange = r.hrange;
      vrange = r.vrange;
      mode = r.mode;
      held = r.held;
      height = r.height;
    }
