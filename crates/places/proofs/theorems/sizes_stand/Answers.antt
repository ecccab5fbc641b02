use Rattle.places.proofs.Shown.{places_sized}
use Rattle.places.proofs.theorems.sizes_stand.Goals as goal

pub returns : goal.returns
returns c = places_sized
