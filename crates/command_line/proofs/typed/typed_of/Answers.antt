use Rattle.std.proofs.Common.{arith, ap, refl, length, [], ◌∷◌, Some, IsSome}
use Rattle.std.proofs.Common.{length-append}
use Rattle.command_line.specs.Typed.{AsksForHelp, HasFile, IsTyped, NamesAny}
use Rattle.command_line.proofs.TakenApart.{typed_file, typed_help, typed_other, popped_last}
use Rattle.command_line.proofs.typed.typed_of.Goals as goal
use Rattle.command_line.proofs.typed.typed_of.Goals.{then-ends_in_file, else-ends_in_file}

pub returns-then-asks_for_help : goal.returns-then-asks_for_help
returns-then-asks_for_help c =
    let words = c.args.words.items in
    let unnamed : ¬ NamesAny words = λ named. cc (c.if-names_command.ensures.1 (rw c.deref.ensures.value named)) in
    let asks : AsksForHelp words = rw c.deref-2.ensures.value at (c.if-asks_for_help.ensures.0 refl) in
    typed_help c.args.is_there words c.in_ok-help_words.field-0.items unnamed asks (c.in_ok-help_words.ensures, tt)

pub returns : goal.returns
returns c =
    let words = c.args.words.items in
    let unnamed : ¬ NamesAny words = λ named. cc (c.if-names_command.ensures.1 (rw c.deref.ensures.value named)) in
    let silent : ¬ AsksForHelp words = λ asks. cc (c.if-asks_for_help.ensures.1 (rw c.deref-2.ensures.value asks)) in
    elim c.if-ends_in_file.branch [
      | then-ends_in_file w ↦
          let has : HasFile c.args.is_there words = rw c.deref-3.ensures.value at (w.if-ends_in_file.ensures.0 refl) in
          let (command, (file, ends)) = has in
          let some : IsSome w.pop-file.result = w.pop-file.ensures.variant.1
          (omega (
            arith,
            length-append command (file ∷ []),
            ap length ends.follows.parts,
            c.deref.ensures.len,
            ap length c.deref.ensures.value,
          )) in
          let same = popped_last words command w.pop-file.new.self.items file w.pop-file.result ends.follows.parts
          w.pop-file.ensures.items some in
          let typed : IsTyped c.args.is_there words command (Some file)
          = typed_file c.args.is_there words command file unnamed silent ends in
          rw (w.words-is, w.file-is, ← same.0, ← same.1) typed
      | else-ends_in_file w ↦
          let fileless : ¬ HasFile c.args.is_there words =
          λ has. cc (w.if-ends_in_file.ensures.1 (rw c.deref-3.ensures.value has)) in
          rw (w.words-is, w.file-is) (typed_other c.args.is_there words unnamed silent fileless)
    ]
