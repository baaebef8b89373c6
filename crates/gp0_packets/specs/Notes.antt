-- The note of an item (our own rule).
use Rattle.std.specs.Prelude.{ℕ, slice_index}
use Rattle.gp0_words.specs.Kinds.{class_of}
use Rattle.gp0_words.specs.declared.item.Item.{Item}
use Rattle.gp0_words.specs.declared.item.Item.TheVariants.{Whole, Joint, Finish, Pixels}

-- the first word of a packet, 0 if it has no words; the command word of a joint; the one word of the others
abbrev pub head_of_item : Item → ℕ
head_of_item (Whole words) = slice_index words 0
head_of_item (Joint command from_color from_vertex to_color to_vertex) = command
head_of_item (Finish word) = word
head_of_item (Pixels word) = word

-- 0 to 7 by the first word; 2 for a joint, as for a line; 8 and 9 for items without a command word
abbrev pub class_of_item : Item → ℕ
class_of_item (Whole words) = class_of (slice_index words 0)
class_of_item (Joint command from_color from_vertex to_color to_vertex) = 2
class_of_item (Finish word) = 8
class_of_item (Pixels word) = 9
