use Rattle.places.proofs.Shown.{places_fair}
use Rattle.places.proofs.theorems.fairness_stands.Goals as goal

pub returns : goal.returns
returns c = places_fair
