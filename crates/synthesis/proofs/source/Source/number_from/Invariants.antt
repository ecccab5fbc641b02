use Rattle.synthesis.proofs.Numbering.{Following}
use Rattle.synthesis.proofs.source.Source.number_from.Given as goal

abbrev pub invariant-loop-letter : goal.invariant-loop-letter
invariant-loop-letter g l = Following (g.P.Places.meaning l.self.places.now) l.self.letters.now l.live l.initial.rows l.initial.order l.count l.rows l.order l.found l.place l.letter-index
