use Rattle.psxgpu_c.proofs.snapshots.psxgpu_save.Goals as goal

pub returns-clause-bytes : goal.returns-clause-bytes
returns-clause-bytes c = record {
  answer = c.saved_of.result;
  holds = c.saved_of.ensures.bytes;
  is_code = c.tell.ensures.code;
  is_written = c.tell.ensures.count;
}
