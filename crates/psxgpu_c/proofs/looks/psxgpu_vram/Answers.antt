use Rattle.psxgpu_c.proofs.looks.psxgpu_vram.Goals as goal

pub returns-clause-bytes : goal.returns-clause-bytes
returns-clause-bytes c = record {
  answer = c.vram_of.result;
  holds = c.vram_of.ensures.bytes;
  is_code = c.tell.ensures.code;
  is_written = c.tell.ensures.count;
}
