use Rattle.std.proofs.Common.{is_some, ap, arith}
use Rattle.property.proofs.Lettering.{none_yet}
use Rattle.property.proofs.declared.Declared.new.Goals as goal

pub invariant_of-result : goal.invariant_of-result
invariant_of-result c = record { few = omega arith; ok = ap is_some (none_yet 0 0) }
