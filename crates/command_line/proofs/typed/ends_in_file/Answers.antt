use Rattle.std.proofs.Common.{refl, sym, ◌∙◌}
use Rattle.std.specs.Prelude.{string_bytes}
use Rattle.command_line.proofs.LastWord.{same_parts}
use Rattle.command_line.proofs.typed.ends_in_file.Goals as goal

pub returns-in-Some : goal.returns-in-Some
returns-in-Some c =
    let (command, (last, follows, is)) = c.in-Some.ensures in (
      λ found. (
        command,
        (
          last,
          record {
            follows = follows;
            is_name = rw is (c.is_file_name.ensures.0 found);
          },
        ),
      ),
      λ (before, (file, ends)).
          let same = same_parts command before last file (sym follows.parts ∙ ends.follows.parts) in
          c.is_file_name.ensures.1 (rw (← is, same.1) ends.is_name),
    )

pub returns-in-None : goal.returns-in-None
returns-in-None c = (
  λ found. cc,
  λ (command, (file, ends)).
      absurd (c.in-None.ensures (string_bytes file) (command, (file, ends.follows, refl))),
)
