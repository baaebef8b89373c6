use Rattle.std.proofs.Common.{◌∷◌, ◌++◌, [], ap, append-nil, append_assoc, map, refl, sym, ◌∙◌}
use Rattle.gathered_out.proofs.Puts.{put_none, put_on, put_fails, puts_all}
use Rattle.gpu_capture.specs.declared.event.Event.TheVariants.{Gp0}
use Rattle.gpu_capture.specs.Written.{spell}
use Rattle.gpu_capture.proofs.Spelled.{spell-append, spell_split}
use Rattle.capture_flat.proofs.spell.spell_words.Goals as goal

pub words-init : goal.words-init
words-init g c = record { done = []; are = refl; put = put_none _ _ }

pub words-preserved : goal.words-preserved
words-preserved g c =
    let at = c.words.invariant in
    let event = Gp0 c.in-Some.word in
    record {
      done = at.done ++ event ∷ [];
      are = at.are ∙ ap (λ words. at.done ++ map Gp0 words) c.in-Some.ensures
          ∙ sym (append_assoc at.done (event ∷ []) _);
      put = rw (spell-append at.done (event ∷ [])) (put_on _ _ _ _ _ _ _ at.put c.in-Ok.ensures);
    }

pub returns-in-Err : goal.returns-in-Err
returns-in-Err g c =
    let at = c.words.invariant in
    let are = at.are ∙ ap (λ words. at.done ++ map Gp0 words) c.in-Some.ensures in
    rw (ap spell are, spell_split at.done (Gp0 c.in-Some.word) _)
    (put_fails _ _ _ _ _ _ _ _ at.put c.in-Err.ensures)

pub returns : goal.returns
returns g c =
    let at = c.words.invariant in
    let are = at.are ∙ ap (λ words. at.done ++ map Gp0 words) c.in_default.ensures ∙ append-nil at.done in
    rw (ap spell are) (puts_all _ _ _ _ at.put)
