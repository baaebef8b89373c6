use Rattle.std.proofs.Common.{◌≡◌, ◌-◌, [], ◌∷◌, ◌++◌, length, take, sym, ◌∙◌}
use Rattle.std.specs.Prelude.{string_bytes}
use Rattle.command_line.proofs.LastWord.{last_apart, same_parts}
use Rattle.command_line.proofs.typed.ends_in_help.Goals as goal

pub returns-in-len1-up : goal.returns-in-len1-up
returns-in-len1-up c =
    let words = c.args.words.now in
    let last = c.last-item.result in
    let parts : words ≡ take (length words - 1) words ++ last ∷ [] =
    last_apart words last c.in-len1-up.len_at_least c.last-item.is in
    let is : string_bytes last ≡ c.as_str.result.now = sym c.as_str.ensures.value in (
      λ found. (take (length words - 1) words, (last, parts, rw is (c.is_help_word.ensures.0 found))),
      λ (before, (word, split, help)).
          let same = same_parts (take (length words - 1) words) before last word (sym parts ∙ split) in
          c.is_help_word.ensures.1 (rw (c.as_str.ensures.value, same.1) help),
    )
