use Rattle.places.proofs.Shown.{walks_end}
use Rattle.places.proofs.theorems.walks_stand.Goals as goal

pub returns : goal.returns
returns c = walks_end
