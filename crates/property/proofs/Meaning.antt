-- The nodes that a program's nodes stand for, by their numbers.
use Rattle.std.proofs.Common.{◌≡◌, ℕ, zero, suc, List, [], ◌∷◌, get_or, refl}
use Rattle.property.specs.declared.node.Node.{Node}
use Rattle.property.specs.declared.node.Node.TheVariants.{Nothing}
use Rattle.property.specs.Meant.{meant, all_meant}
use Rattle.property.specs.Nodes as N

pub node_meant : (file : List ℕ) (ns : List Node) (m : ℕ) → N.node (all_meant file ns) m ≡ meant file (get_or ns m Nothing)
node_meant file [] m = refl
node_meant file (n ∷ ns) zero = refl
node_meant file (n ∷ ns) (suc m) = node_meant file ns m
