-- The conditions of texts for a person at a terminal (our own rule).
use Rattle.std.specs.Prelude.{◌≡◌, Option, None, Some}
use Rattle.std.specs.Prelude.{ℤ}
use Rattle.std.specs.IoError.{os_error_kind}
use Rattle.std.specs.declared.io.ErrorKind.TheVariants.{BrokenPipe}

-- the error of a write says that nobody reads the output
abbrev pub IsBrokenPipe : Option ℤ → Type 0
IsBrokenPipe None = ⊥
IsBrokenPipe (Some code) = os_error_kind code ≡ BrokenPipe
