use Rattle.capture_slim.proofs.StreamLaw.{places_law}
use Rattle.capture_slim.proofs.laws.places_are_slim.Goals as goal

pub returns : goal.returns
returns c = places_law
