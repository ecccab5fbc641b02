use Rattle.synthesis.proofs.Laws.{rows_are_lawful}
use Rattle.synthesis.proofs.theorems.rows_are_lawful.Goals as goal

pub returns : goal.returns
returns c = rows_are_lawful
