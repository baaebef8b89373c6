use Rattle.std.proofs.Common.{◌≡◌, ◌-◌, [], ◌∷◌, ◌++◌, length, take, refl, sym}
use Rattle.command_line.proofs.LastWord.{last_apart}
use Rattle.command_line.proofs.typed.after_reader.Goals as goal

pub returns-in-len1-up : goal.returns-in-len1-up
returns-in-len1-up c =
    let words = c.args.words.now in
    let last = c.last-item.result in
    let command = take (length words - 1) words in
    let parts : words ≡ command ++ last ∷ [] = last_apart words last c.in-len1-up.len_at_least c.last-item.is in (
      command,
      (
        last,
        record { parts = parts; reads = c.if-names_reader.ensures.0 refl },
        sym c.as_str.ensures.value,
      ),
    )
