-- The costs of words and reads, and what decides the later behaviour of a state.
use Rattle.std.specs.Prelude.{◌≡◌, ◌≤◌, ℕ, List}
use Rattle.gpu_core.specs.Cost.{gp0_cost, gp0_box_cost, read_cost, read_box_cost}
use Rattle.gpu_core.specs.Kept.{kept_of}
use Rattle.gpu_core.specs.Machine.{State, after_gp0, gp0_note, after_gp1, after_read, read_word, status_word}

-- no word of GP0 and no read costs more in the second table than in the first
pub record CostLaw : Type 0 where
  pub words : (s : State) (word : ℕ) → gp0_cost s word ≤ gp0_box_cost s word
  pub reads : (s : State) → read_cost s ≤ read_box_cost s

-- the same state with these cells of video memory
abbrev pub over_cells : List ℕ → State → State
over_cells m s = record s { parts = record s.parts { m = m } }

-- the cost of a word of GP0 and of a read in the first table depends on no cell
pub record NoCellDecides : Type 0 where
  pub words : (s : State) (m : List ℕ) (word : ℕ) → gp0_box_cost (over_cells m s) word ≡ gp0_box_cost s word
  pub reads : (s : State) (m : List ℕ) → read_box_cost (over_cells m s) ≡ read_box_cost s

-- both states have the same effect, note, result and cost for the next word, read and status word, and then equal
-- essential parts
pub record GoOnAlike (a b : State) : Type 0 where
  pub feed : (word : ℕ) → kept_of (after_gp0 a word) ≡ kept_of (after_gp0 b word)
  pub note : (event word : ℕ) → gp0_note a event word ≡ gp0_note b event word
  pub feed_cost : (word : ℕ) → gp0_cost a word ≡ gp0_cost b word
  pub feed_box_cost : (word : ℕ) → gp0_box_cost a word ≡ gp0_box_cost b word
  pub gp1 : (word : ℕ) → kept_of (after_gp1 a word) ≡ kept_of (after_gp1 b word)
  pub take : kept_of (after_read a) ≡ kept_of (after_read b)
  pub taken : read_word a ≡ read_word b
  pub take_cost : read_cost a ≡ read_cost b
  pub take_box_cost : read_box_cost a ≡ read_box_cost b
  pub status : status_word a ≡ status_word b

-- the essential part of a state decides its later behaviour
abbrev pub KeptDecides : Type 0
KeptDecides = (a b : State) → kept_of a ≡ kept_of b → GoOnAlike a b
