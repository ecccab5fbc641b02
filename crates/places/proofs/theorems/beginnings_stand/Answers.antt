use Rattle.places.proofs.Shown.{beginnings_lead}
use Rattle.places.proofs.theorems.beginnings_stand.Goals as goal

pub returns : goal.returns
returns c = beginnings_lead
