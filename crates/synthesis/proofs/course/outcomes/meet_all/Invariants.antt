use Rattle.std.proofs.Common.{◌≡◌, get_or}
use Rattle.places.specs.Walks.{meet}
use Rattle.places.specs.declared.outcome.Outcome.TheVariants.{Dead}
use Rattle.synthesis.specs.Outcomes.{kept}
use Rattle.synthesis.proofs.Mapping.{Mapped}
use Rattle.synthesis.proofs.course.outcomes.meet_all.Given as goal

abbrev pub invariant-loop-j : goal.invariant-loop-j
invariant-loop-j l = Mapped (λ k a b. b ≡ kept (meet l.size a (get_or l.others k Dead))) l.initial.out l.out l.j
