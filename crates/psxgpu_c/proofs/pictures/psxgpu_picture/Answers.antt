use Rattle.psxgpu_c.proofs.pictures.psxgpu_picture.Goals as goal

pub returns-clause-bytes : goal.returns-clause-bytes
returns-clause-bytes c = record {
  answer = c.picture_of.result;
  holds = c.picture_of.ensures.bytes;
  is_code = c.tell.ensures.code;
  is_written = c.tell.ensures.count;
}
