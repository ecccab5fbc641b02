-- Which nodes close, by their structure.
use Rattle.std.specs.Prelude.{ℕ, Bool, false, ◌&&◌, ◌||◌, List, ◌==◌}
use Rattle.std.specs.List.{list_all}
use Rattle.letters.specs.Letters.{end}
use Rattle.property.specs.Nodes.{Node, Nothing, Choice, Sequence, Both, Lap, All, node, is_nothing}
use Rattle.property.specs.Numbered.{by_number}

-- a branch closes that names a closing node, or has the end and a node of kind Nothing
abbrev pub branch_closes : List Node → (ℕ → Bool) → ℕ × ℕ → Bool
branch_closes nodes closing b = closing b.1 || (b.0 == end && is_nothing (node nodes b.1))

unfoldable pub each_closes : List Node → (ℕ → Bool) → List (ℕ × ℕ) → Bool
each_closes nodes closing bs = list_all (branch_closes nodes closing) bs

-- where `closing` says so of the nodes that it names
abbrev pub closes_by : List Node → (ℕ → Bool) → Node → Bool
closes_by nodes closing Nothing = false
closes_by nodes closing (Choice bs) = each_closes nodes closing bs
closes_by nodes closing (Sequence a b) = closing b
closes_by nodes closing (Both a b) = closing a || closing b
closes_by nodes closing (Lap a) = false
closes_by nodes closing (All a b) = false

abbrev pub closes : List Node → ℕ → Bool
closes nodes = by_number false (λ closing n. closes_by nodes closing (node nodes n))
