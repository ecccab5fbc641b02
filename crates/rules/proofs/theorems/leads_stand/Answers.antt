use Rattle.rules.proofs.Leads.{leads_shortest}
use Rattle.rules.proofs.theorems.leads_stand.Goals as goal

pub returns : goal.returns
returns c = leads_shortest
