use Rattle.std.proofs.Common.{◌≡◌, length}
use Rattle.property.specs.Checks.{most_nodes}
use Rattle.property.specs.Meant.{listed}
use Rattle.property.specs.Sized.{Kept}
use Rattle.property.proofs.place.Nodes.measure.Given as goal

abbrev pub invariant-loop-n : goal.invariant-loop-n
invariant-loop-n l = record { long : length l.sizes ≡ most_nodes; kept : Kept (listed l.listed) l.sizes l.n }
