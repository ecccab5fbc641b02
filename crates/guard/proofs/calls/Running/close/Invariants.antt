use Rattle.rules.specs.Valued.{meaning}
use Rattle.guard.proofs.Writing.{Sofar}
use Rattle.guard.proofs.calls.Running.close.Given as goal

abbrev pub invariant-loop-slot : goal.invariant-loop-slot
invariant-loop-slot g l = Sofar (meaning g.R.Rule l.rule) l.initial.place l.initial.way l.slot-index l.place l.way
