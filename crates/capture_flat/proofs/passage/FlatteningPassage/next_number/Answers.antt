use Rattle.capture_flat.proofs.Taking.{number_is}
use Rattle.capture_flat.proofs.passage.FlatteningPassage.next_number.Goals as goal

pub returns : goal.returns
returns g c = λ s version events stands.
    number_is _ _ _ _ stands c.played.result _ c.played.ensures c.saturating_add.ensures
