use Rattle.psxgpu_c.proofs.notes.psxgpu_gp0_notes.Goals as goal

pub returns : goal.returns
returns c = record {
  answer = c.noted_of.result;
  holds = c.noted_of.ensures;
  is_code = c.tell.ensures.code;
  is_written = c.tell.ensures.count;
}
