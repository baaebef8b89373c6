use Rattle.std.proofs.Common.{◌∷◌, ◌++◌, [], ap, append_assoc, refl, sym, ◌∙◌}
use Rattle.event_play.proofs.Feeds.{fed_none, fed_on, words_stop}
use Rattle.event_play.proofs.feed.feed.Goals as goal

pub words-init : goal.words-init
words-init g c = record {
  done = [];
  are = refl;
  fed = fed_none _ _ _ _;
  same = g.met.O.Outlet.same_at_first _;
}

pub words-preserved : goal.words-preserved
words-preserved g c =
    let at = c.words.invariant in
    record {
      done = at.done ++ c.in-Some.word ∷ [];
      are = at.are ∙ ap (λ words. at.done ++ words) c.in-Some.ensures
          ∙ sym (append_assoc at.done (c.in-Some.word ∷ []) _);
      fed = fed_on _ _ _ _ _ _ _ _ _ _ at.fed _
          (rw (← g.met.O.Outlet.same_mode _ _ at.same) at c.in-Ok.ensures.feeds);
      same = g.met.O.Outlet.same_on _ _ _ at.same c.in-Ok.ensures.same;
    }

pub returns-in-Err-clause-feeds : goal.returns-in-Err-clause-feeds
returns-in-Err-clause-feeds g c =
    let at = c.words.invariant in
    words_stop _ _ _ _ _ _ _ _ _ _ at.fed _ _ _
    (at.are ∙ ap (λ words. at.done ++ words) c.in-Some.ensures ∙ sym (append_assoc at.done (c.in-Some.word ∷ []) _))
    (rw (← g.met.O.Outlet.same_mode _ _ at.same) at c.in-Err.ensures.feeds)
