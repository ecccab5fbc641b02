use Rattle.std.proofs.Common.{arith}
use Rattle.synthesis.proofs.Mapping.{mapped_more, mapped_all}
use Rattle.synthesis.proofs.course.outcomes.meet_all.Goals as goal

pub loop-j-preserved : goal.loop-j-preserved
loop-j-preserved c = mapped_more _ _ _ _ _ (omega arith) c.met.ensures c.loop-j.invariant

pub returns : goal.returns
returns c = mapped_all _ _ _ _ (omega arith) c.loop-j.invariant
