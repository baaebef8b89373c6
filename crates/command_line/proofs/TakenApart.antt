-- Three of the four ways in which the file name is separated from the arguments.
use Rattle.std.proofs.Common.{◌≡◌, ◌∷◌, ◌++◌, [], Bool, String, Option, None, Some, IsSome, option_to_list}
use Rattle.std.proofs.Common.{map, string_bytes, refl, sym, ap, ◌∙◌}
use Rattle.std.specs.declared.alloc.Global.{Global}
use Rattle.command_line.proofs.LastWord.{same_parts}
use Rattle.command_line.specs.Command.{AreNames}
use Rattle.command_line.specs.Typed.{AsksForHelp, EndsInFile, HasFile, IsTyped, NamesAny, Words}
use Rattle.command_line.specs.declared.command.Command.TheVariants.{Help}

pub typed_help : (is_there : Bool) (words typed : Words) → ¬ NamesAny words → AsksForHelp words →
    AreNames (map string_bytes typed) Help → IsTyped is_there words typed None
typed_help is_there words typed unnamed asks names = record {
  command = λ named. absurd (unnamed named);
  help = λ _ _. (names, refl);
  reading = λ _ silent _ _ _. absurd (silent asks);
  other = λ _ silent _. absurd (silent asks);
}

pub typed_file : (is_there : Bool) (words command : Words) (file : String Global) → ¬ NamesAny words →
    ¬ AsksForHelp words → EndsInFile is_there words command file → IsTyped is_there words command (Some file)
typed_file is_there words command file unnamed silent ends = record {
  command = λ named. absurd (unnamed named);
  help = λ _ asks. absurd (silent asks);
  reading = λ _ _ others name end.
      let parts = same_parts command others file name (sym ends.follows.parts ∙ end.follows.parts) in
      (parts.0, ap Some parts.1);
  other = λ _ _ fileless. absurd (fileless (command, (file, ends)));
}

pub typed_other : (is_there : Bool) (words : Words) → ¬ NamesAny words → ¬ AsksForHelp words →
    ¬ HasFile is_there words → IsTyped is_there words words None
typed_other is_there words unnamed silent fileless = record {
  command = λ named. absurd (unnamed named);
  help = λ _ asks. absurd (silent asks);
  reading = λ _ _ command file ends. absurd (fileless (command, (file, ends)));
  other = λ _ _ _. (refl, refl);
}

-- the argument that is removed is the last one
pub popped_last : (words command rest : Words) (file : String Global) (popped : Option (String Global)) →
    words ≡ command ++ file ∷ [] → words ≡ rest ++ option_to_list popped → IsSome popped →
    (command ≡ rest) × (Some file ≡ popped)
popped_last words command rest file None parts popped some = cc
popped_last words command rest file (Some last) parts popped some =
    let same = same_parts command rest file last (sym parts ∙ popped) in (same.0, ap Some same.1)
