use Rattle.std.proofs.Common.{◌-◌}
use Rattle.synthesis.proofs.Numbering.{Numbering}
use Rattle.synthesis.proofs.source.Source.number.Given as goal

abbrev pub invariant-loop-head : goal.invariant-loop-head
invariant-loop-head g l = Numbering (g.P.Places.meaning l.self.places.now) l.live l.rows l.order l.count l.head

abbrev pub decreases-loop-head : goal.decreases-loop-head
decreases-loop-head g l = (g.P.Places.meaning l.self.places.now).size - l.head
