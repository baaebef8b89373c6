use Rattle.psxgpu_c.proofs.looks.psxgpu_registers.Goals as goal

pub returns-clause-words : goal.returns-clause-words
returns-clause-words c = record {
  answer = c.registers_of.result;
  holds = c.registers_of.ensures.words;
  is_code = c.code_of.ensures;
}
