use Rattle.synthesis.proofs.Ruling.{filled_tables_are_rules}
use Rattle.synthesis.proofs.theorems.filled_tables_are_rules.Goals as goal

pub returns : goal.returns
returns c = filled_tables_are_rules
