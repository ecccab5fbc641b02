use Rattle.std.proofs.Common.{length}
use Rattle.rules.specs.Valued.{meaning}
use Rattle.speed.proofs.Counting.{Sofar}
use Rattle.speed.proofs.count_written.Given as goal

abbrev pub invariant-loop-letter : goal.invariant-loop-letter
invariant-loop-letter g l = Sofar (meaning g.R.Rule l.rule) l.offers l.letter-index (length l.out) l.running l.count
