-- No two commands have the same names.
use Rattle.std.proofs.Common.{◌≡◌, ◌+◌, ◌*◌, ◌==◌, if◌then◌else◌, ℕ, List, [], slice_index_or, codes, decimal}
use Rattle.std.proofs.Common.{refl}
use Rattle.std.proofs.Common.{ap, sym, ◌∙◌, arith}
use Rattle.std.specs.Str.Parse.{digits_value}
use Rattle.std.proofs.lemmas.Fmt.{decimal_is_IsNumeral}
use Rattle.event_play.specs.declared.ending.Mode.TheVariants.{Vram, Shot, Report, Frames, Sums, Pixel}
use Rattle.event_play.specs.declared.ending.Mode.TheVariants.{List as Listing, Play as Words}
use Rattle.event_play.specs.declared.ending.FrameTrigger.{FrameTrigger}
use Rattle.event_play.specs.declared.ending.FrameTrigger.TheVariants.{Flip, Mark}
use Rattle.command_line.specs.Command.{names_of, AreNames, IsCommand}
use Rattle.command_line.specs.declared.command.Command.{Command}
use Rattle.command_line.specs.declared.command.Command.TheVariants.{Plays, Flat, Slim, Cut, Demo, Help, Version}

-- the first, third and fourth letter of a name: no two commands have the same
abbrev letters : List ℕ → ℕ
letters name = 65536 * slice_index_or name 0 0 + 256 * slice_index_or name 2 0 + slice_index_or name 3 0

-- the `FrameTrigger` of this second name
abbrev frame_trigger_by : (name : List ℕ) → FrameTrigger
frame_trigger_by name = if slice_index_or name 0 0 == 109 then Mark else Flip

-- the command of these letters, with this `FrameTrigger` and these numbers
abbrev command_by : (letters : ℕ) → FrameTrigger → (n m : ℕ) → Command
command_by given at n m =
    if given == letters (codes "play") then Plays Words else
    if given == letters (codes "vram") then Plays Vram else
    if given == letters (codes "shot") then Plays Shot else
    if given == letters (codes "frames") then Plays (Frames at) else
    if given == letters (codes "sums") then Plays (Sums at) else
    if given == letters (codes "list") then Plays Listing else
    if given == letters (codes "report") then Plays Report else
    if given == letters (codes "pixel") then Plays (Pixel (record { x = n; y = m })) else
    if given == letters (codes "flat") then Flat else
    if given == letters (codes "slim") then Slim else
    if given == letters (codes "cut") then Cut n else
    if given == letters (codes "demo") then Demo n else
    if given == letters (codes "--help") then Help else
    Version

abbrev command_of : (names : List (List ℕ)) → Command
command_of names = command_by (letters (slice_index_or names 0 [])) (frame_trigger_by (slice_index_or names 1 []))
    (digits_value 10 (slice_index_or names 1 [])) (digits_value 10 (slice_index_or names 2 []))

-- a command is determined by its names
is_named : (command : Command) → IsCommand command → command_of (names_of command) ≡ command
is_named (Plays (Frames Flip)) is = refl
is_named (Plays (Sums Flip)) is = refl
is_named (Plays (Pixel cell)) is =
    ap (λ x. Plays (Pixel (record { x = x; y = digits_value 10 (decimal cell.y) })))
    (decimal_is_IsNumeral cell.x (omega (arith, is.0))).1
    ∙ ap (λ y. Plays (Pixel (record { x = cell.x; y = y }))) (decimal_is_IsNumeral cell.y (omega (arith, is.1))).1
is_named (Cut n) is = ap Cut (decimal_is_IsNumeral n (omega (arith, is.1))).1
is_named (Demo n) is = ap Demo (decimal_is_IsNumeral n (omega (arith, is.1))).1
is_named command is = refl

pub same_command : (names : List (List ℕ)) (a b : Command) → AreNames names a → AreNames names b → a ≡ b
same_command names a b one other =
    sym (is_named a one.1) ∙ ap command_of (sym one.0 ∙ other.0) ∙ is_named b other.1
