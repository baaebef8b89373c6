-- Records written in parts, and their lengths.
use Rattle.std.proofs.Common.{◌≡◌, ◌*◌, ◌++◌, ℕ, List, [], ◌∷◌, Option, length, ap, ◌∙◌, length-append, arith}
use Rattle.std.proofs.lemmas.Grind.{flat_map-append}
use Rattle.dev_io.specs.Device.{appended}
use Rattle.dev_io.proofs.Appended.{appended-appended}
use Rattle.gpu_capture.specs.Written.{AllowsAll, record_words, spell, spelled}
use Rattle.gpu_capture.specs.declared.event.Event.{Event}
use Rattle.gpu_capture.proofs.Written.{words_length}

-- `xs` was written, and then `ys`
pub wrote_on : (before mid now : Option (List ℕ)) (xs ys : List ℕ) → mid ≡ appended before xs → now ≡ appended mid ys
    → now ≡ appended before (xs ++ ys)
wrote_on before mid now xs ys was took = took ∙ ap (λ held. appended held ys) was ∙ appended-appended before xs ys

pub spell-append : (xs ys : List Event) → spell (xs ++ ys) ≡ spell xs ++ spell ys
spell-append xs ys = flat_map-append spelled xs ys

-- the records of a list, split at one event
pub spell_split : (xs : List Event) (event : Event) (ys : List Event)
    → spell (xs ++ event ∷ ys) ≡ spell xs ++ (spell (event ∷ []) ++ spell ys)
spell_split xs event ys = spell-append xs (event ∷ ys) ∙ ap (λ bytes. spell xs ++ bytes) (spell-append (event ∷ []) ys)

-- the length of an event's record in bytes
pub record_length : (given : Event) → length (spelled given) ≡ 4 * length (record_words given)
record_length given = words_length (record_words given)

pub one_bytes : (given : Event) → length (spell (given ∷ [])) ≡ 4 * length (record_words given)
one_bytes given = let e = length-append (spelled given) [] in omega (arith, e, record_length given)

-- a version allows both parts of a list, so it allows the list
pub allows_append : (version : ℕ) (xs ys : List Event) → AllowsAll version xs → AllowsAll version ys
    → AllowsAll version (xs ++ ys)
allows_append version [] ys first next = next
allows_append version (x ∷ xs) ys first next = (first.0, allows_append version xs ys first.1 next)
