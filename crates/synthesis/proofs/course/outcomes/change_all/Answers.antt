use Rattle.std.proofs.Common.{arith}
use Rattle.synthesis.proofs.Mapping.{mapped_more, mapped_all}
use Rattle.synthesis.proofs.course.outcomes.change_all.Goals as goal

pub loop-outcome-preserved : goal.loop-outcome-preserved
loop-outcome-preserved g c = (c.loop-outcome.invariant.0, mapped_more _ _ _ _ _ (omega arith) c.step.ensures c.loop-outcome.invariant.1)

pub returns : goal.returns
returns g c = mapped_all _ _ _ _ (omega arith) c.loop-outcome.invariant.1
