use Rattle.std.proofs.Common.{vec_items}
use Rattle.enforcer.proofs.OfferLoop.{Sofar}
use Rattle.enforcer.proofs.offers.calls_of.Given as goal

abbrev pub invariant-loop-letter : goal.invariant-loop-letter
invariant-loop-letter l = Sofar l.room l.offers l.letter-index l.open (vec_items l.calls)
