use Rattle.cases.proofs.PlateCases.{plate_cases_hold}
use Rattle.cases.proofs.plate_cases.plate_cases_stand.Goals as goal

pub returns : goal.returns
returns c = plate_cases_hold
