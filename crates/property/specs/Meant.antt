-- The node that a program's node stands for, over the bytes of the file.
use Rattle.std.specs.Prelude.{ℕ, ◌*◌, List, map, take, drop}
use Rattle.records.specs.Records.{branch_bytes}
use Rattle.property.specs.declared.listed.Listed.{Listed}
use Rattle.property.specs.declared.node.Node.{Node}
use Rattle.property.specs.declared.node.Node.TheVariants.{Nothing, Choice, Sequence, Both, Lap, All}
use Rattle.property.specs.Nodes as N

abbrev pub meant : List ℕ → Node → N.Node
meant file Nothing = N.Nothing
meant file (Choice start count) = N.Choice (N.branches (take (branch_bytes * count) (drop start file)))
meant file (Sequence a b) = N.Sequence a b
meant file (Both a b) = N.Both a b
meant file (Lap a) = N.Lap a
meant file (All a b) = N.All a b

abbrev pub all_meant : List ℕ → List Node → List N.Node
all_meant file ns = map (meant file) ns

-- the nodes of a list with its file
abbrev pub listed : Listed → List N.Node
listed l = all_meant l.file.now l.nodes.now
