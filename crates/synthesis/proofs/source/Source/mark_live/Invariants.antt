use Rattle.synthesis.specs.Marks.{Marking, zeros}
use Rattle.synthesis.proofs.source.Source.mark_live.Given as goal

abbrev pub invariant-loop : goal.invariant-loop
invariant-loop g l = Marking (g.P.Places.meaning l.self.places.now) l.marks

abbrev pub decreases-loop : goal.decreases-loop
decreases-loop g l = zeros l.marks
