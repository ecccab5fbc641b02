use Rattle.rules.specs.Valued.{meaning}
use Rattle.guard.proofs.RunLoop.{Sofar}
use Rattle.guard.proofs.runs.run_calls.Given as goal

abbrev pub invariant-loop-call : goal.invariant-loop-call
invariant-loop-call g l = Sofar (meaning g.R.Rule l.rule) l.calls l.call-index l.run
