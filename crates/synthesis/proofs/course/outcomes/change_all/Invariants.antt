use Rattle.synthesis.proofs.Mapping.{Mapped}
use Rattle.synthesis.proofs.course.outcomes.change_all.Given as goal

abbrev pub invariant-loop-outcome : goal.invariant-loop-outcome
invariant-loop-outcome g l = goal.F-IsAlwaysCallable g l.step × Mapped (λ k a b. goal.F-post g l.step a b) l.initial.out l.out l.outcome-index
