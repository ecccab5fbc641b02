use Rattle.synthesis.proofs.Marking.{Passing}
use Rattle.synthesis.proofs.source.Source.mark_more.Given as goal

abbrev pub invariant-loop-place : goal.invariant-loop-place
invariant-loop-place g l = Passing (g.P.Places.meaning l.self.places.now) l.initial.marks l.marks l.added l.place
