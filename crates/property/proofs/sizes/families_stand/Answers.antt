use Rattle.property.proofs.Families.{family_tested}
use Rattle.property.proofs.sizes.families_stand.Goals as goal

pub returns : goal.returns
returns c = family_tested
