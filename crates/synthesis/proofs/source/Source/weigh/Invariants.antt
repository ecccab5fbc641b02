use Rattle.synthesis.specs.Weights.{Owes, Spans}
use Rattle.synthesis.proofs.source.Source.weigh.Given as goal

abbrev pub invariant-loop-place : goal.invariant-loop-place
invariant-loop-place g l = Owes (g.P.Places.meaning l.self.places.now) l.rows l.owed l.place × Spans (g.P.Places.meaning l.self.places.now) l.rows l.span l.place
