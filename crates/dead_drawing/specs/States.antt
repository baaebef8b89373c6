-- Two states that agree except in some cells, and have the same words pending.
use Rattle.std.specs.Prelude.{◌≡◌, ℕ}
use Rattle.gp0_words.specs.Items.{pending_behind}
use Rattle.gpu_core.specs.Machine.{Parts, State}
use Rattle.prim_draw.specs.Apart.{AgreeBut}

pub record PartsAlike (among : ℕ → Type 0) (p q : Parts) : Type 0 where
  pub cells : AgreeBut among p.m q.m
  pub regs : q.regs ≡ p.regs
  pub load : q.load ≡ p.load
  pub store : q.store ≡ p.store

pub record Alike (among : ℕ → Type 0) (s t : State) : Type 0 where
  pub parts : PartsAlike among s.parts t.parts
  pub rest : pending_behind t.words ≡ pending_behind s.words

-- the two states agree in everything that later events depend on
pub record Same (s t : State) : Type 0 where
  pub parts : t.parts ≡ s.parts
  pub rest : pending_behind t.words ≡ pending_behind s.words
