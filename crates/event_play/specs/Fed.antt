-- Words fed to GP0, one after another.
use Rattle.std.specs.Prelude.{ℕ, List, [], ◌∷◌, ◌++◌, ◌+◌, fold, option_to_list}
use Rattle.gp0_packets.specs.declared.note.Note.{Note}
use Rattle.gpu_core.specs.Cost.{gp0_cost, gp0_box_cost}
use Rattle.gpu_core.specs.Machine.{State, after_gp0, gp0_note}

-- the state after these words were fed, in order
abbrev pub fed : State → List ℕ → State
fed s words = fold after_gp0 s words

-- the notes of the items that they complete, all in event `number`
abbrev pub fed_notes : State → (number : ℕ) → List ℕ → List Note
fed_notes s number [] = []
fed_notes s number (word ∷ words) = option_to_list (gp0_note s number word) ++ fed_notes (after_gp0 s word) number words

-- the most store steps of feeding them, also by the boxes
abbrev pub fed_cost : State → List ℕ → ℕ
fed_cost s [] = 0
fed_cost s (word ∷ words) = gp0_cost s word + fed_cost (after_gp0 s word) words

abbrev pub fed_box_cost : State → List ℕ → ℕ
fed_box_cost s [] = 0
fed_box_cost s (word ∷ words) = gp0_box_cost s word + fed_box_cost (after_gp0 s word) words
