use Rattle.std.proofs.Common.{eqb, ap}
use Rattle.std.proofs.lemmas.Nat.Bits.{shr_and_one}
use Rattle.synthesis.proofs.course.ones.is_set.Goals as goal

pub returns : goal.returns
returns c = ap (λ x. eqb x 1) (shr_and_one c.args.bits c.args.j)
