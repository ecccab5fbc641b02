use Rattle.synthesis.proofs.Owning.{tables_say_so}
use Rattle.synthesis.proofs.theorems.tables_say_so.Goals as goal

pub returns : goal.returns
returns c = tables_say_so
