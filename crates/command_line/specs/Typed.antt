-- The arguments as a person types them (our own rule).
use Rattle.std.specs.Prelude.{◌≡◌, ◌⊎◌, ℕ, List, [], ◌∷◌, ◌++◌, Bool, IsTrue, String, Option, None, Some, Contains}
use Rattle.std.specs.Prelude.{map, codes, string_bytes}
use Rattle.std.specs.declared.alloc.Global.{Global}
use Rattle.event_play.specs.declared.ending.Mode.TheVariants.{Vram, Shot, Frames}
use Rattle.command_line.specs.Command.{AreNames}
use Rattle.command_line.specs.declared.command.Command.{Command}
use Rattle.command_line.specs.declared.command.Command.TheVariants.{Plays, Flat, Slim, Cut, Demo, Help, Version}

-- the command reads a capture
abbrev pub Reads : Command → Type 0
Reads (Demo packets) = ⊥
Reads Help = ⊥
Reads Version = ⊥
Reads command = Unit {0}

-- the command writes bytes that are not text
abbrev pub IsBinary : Command → Type 0
IsBinary (Plays Vram) = Unit {0}
IsBinary (Plays Shot) = Unit {0}
IsBinary (Plays (Frames at)) = Unit {0}
IsBinary Flat = Unit {0}
IsBinary Slim = Unit {0}
IsBinary (Cut events) = Unit {0}
IsBinary command = ⊥

abbrev pub Words : Type 0
Words = List (String Global)

-- the arguments name a command of this kind
abbrev pub NamesSome : (kind : Command → Type 0) → Words → Type 0
NamesSome kind words = (command : Command) × AreNames (map string_bytes words) command × kind command

-- the arguments name a command
abbrev pub NamesAny : Words → Type 0
NamesAny words = NamesSome (λ _. Unit {0}) words

abbrev pub IsHelpWord : (name : List ℕ) → Type 0
IsHelpWord name = (name ≡ codes "-h") ⊎ (name ≡ codes "--help")

-- the last argument asks for help
abbrev pub EndsInHelp : Words → Type 0
EndsInHelp words =
    (before : Words) × ((last : String Global) × (words ≡ before ++ last ∷ []) × IsHelpWord (string_bytes last))

-- the only argument is this one
abbrev pub IsAlone : Words → (name : List ℕ) → Type 0
IsAlone words name = map string_bytes words ≡ name ∷ []

-- `help` alone, or at the end `-h` or `--help`
abbrev pub AsksForHelp : Words → Type 0
AsksForHelp words = IsAlone words (codes "help") ⊎ EndsInHelp words

-- A name is that of a file if a file with this name exists, or if it has a slash (47) or a point (46).
abbrev pub IsFileName : (is_there : Bool) → (name : List ℕ) → Type 0
IsFileName is_there name = IsTrue is_there ⊎ (Contains name 47 ⊎ Contains name 46)

-- the arguments are a command that reads a capture, and then one more
pub record FollowsReader (words command : Words) (last : String Global) : Type 0 where
  pub parts : words ≡ command ++ last ∷ []
  pub reads : NamesSome Reads command

-- the same for some command and a last argument of these bytes
abbrev pub EndsAfterReader : Words → (name : List ℕ) → Type 0
EndsAfterReader words name =
    (command : Words) × ((last : String Global) × FollowsReader words command last × (string_bytes last ≡ name))

-- the arguments are a command that reads a capture, and then the name of a file
pub record EndsInFile (is_there : Bool) (words command : Words) (file : String Global) : Type 0 where
  pub follows : FollowsReader words command file
  pub is_name : IsFileName is_there (string_bytes file)

-- the same for some command and some file
abbrev pub HasFile : (is_there : Bool) → Words → Type 0
HasFile is_there words = (command : Words) × ((file : String Global) × EndsInFile is_there words command file)

-- The arguments for `run` and the file that is read, given the typed arguments and whether a file with the last one's
-- name exists. Exactly one of the four conditions holds.
pub record IsTyped (is_there : Bool) (words typed : Words) (file : Option (String Global)) : Type 0 where
  pub command : NamesAny words → (typed ≡ words) × (file ≡ None)
  pub help : ¬ NamesAny words → AsksForHelp words → AreNames (map string_bytes typed) Help × (file ≡ None)
  pub reading : ¬ NamesAny words → ¬ AsksForHelp words → (command : Words) → (name : String Global)
      → EndsInFile is_there words command name → (typed ≡ command) × (file ≡ Some name)
  pub other : ¬ NamesAny words → ¬ AsksForHelp words → ¬ HasFile is_there words → (typed ≡ words) × (file ≡ None)
