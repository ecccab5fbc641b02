-- What the sizes of a program's nodes are worked out from, and how they are kept.
use Rattle.std.specs.Prelude.{cond, fold, ◌≡◌, ℕ, ◌+◌, ◌*◌, ◌<◌, min, Bool, true, false, ◌&&◌, ◌||◌, List, length, take, drop, nat_eq, nat_lt, slice_index, slice_index_or}
use Rattle.records.specs.Records.{branch_bytes}
use Rattle.property.specs.declared.node.Node.{Node}
use Rattle.property.specs.declared.node.Node.TheVariants.{Nothing, Choice, Sequence, Both, Lap, All}
use Rattle.property.specs.Checks.{names}
use Rattle.std.specs.List.{list_all}
use Rattle.property.specs.Nodes as N
use Rattle.property.specs.Numbered.{before}
use Rattle.property.specs.Sizes.{Family, in_family, some_branch, by_branches, size}

-- each node names only earlier ones
abbrev pub NamesEarlier : List N.Node → Type 0
NamesEarlier nodes = (n : ℕ) → n < length nodes → list_all (λ m. nat_lt m n) (names (N.node nodes n)) ≡ true

-- the test of a family tells exactly the relation
abbrev pub FamilyTestIsExact : Type 0
FamilyTestIsExact =
    (nodes : List N.Node) → NamesEarlier nodes → (n m : ℕ)
    → (in_family nodes n m ≡ true → Family nodes n m) × (Family nodes n m → in_family nodes n m ≡ true)

-- the largest size that is kept as it is
abbrev pub most_size : ℕ
most_size = 1024

-- a size as it is kept: one above that stands for every larger size
abbrev pub cut : ℕ → ℕ
cut n = min n (most_size + 1)

-- the branches of a Choice, from an offset of the file on
abbrev pub branches_at : List ℕ → ℕ → ℕ → List (ℕ × ℕ)
branches_at file start count = N.branches (take (branch_bytes * count) (drop start file))

-- the sizes of the nodes before n stand in a list
abbrev pub Kept : List N.Node → List ℕ → ℕ → Type 0
Kept nodes sizes n = (m : ℕ) → m < n → slice_index sizes m ≡ cut (size nodes m)

-- the nodes that a test tells are marked too, and no others
abbrev pub MarksAlso : (ℕ → Bool) → List Bool → List Bool → Type 0
MarksAlso more was marked = (m : ℕ) → slice_index_or marked m false ≡ (slice_index_or was m false || more m)

-- some branch names m, which is before `end`
abbrev pub names_before : List (ℕ × ℕ) → ℕ → ℕ → Bool
names_before bs end m = some_branch (before false end (λ k. nat_eq k m)) bs

-- the branches of n name m, which is before n, and n is marked
abbrev pub named_before : List N.Node → List Bool → ℕ → ℕ → Bool
named_before nodes marked n m = slice_index_or marked n false && by_branches (before false n (λ k. nat_eq k m)) (N.node nodes n)

-- what a node counts in a family: a Choice 1, any other its size
abbrev pub counted : Node → ℕ → ℕ
counted Nothing own = own
counted (Choice start count) own = 1
counted (Sequence a b) own = own
counted (Both a b) own = own
counted (Lap a) own = own
counted (All a b) own = own

-- what the marked nodes count together, where each node has its size and its mark beside it
abbrev pub marked_sum : List ((Node × ℕ) × Bool) → ℕ
marked_sum xs = fold (λ (total : ℕ) (x : (Node × ℕ) × Bool). cond x.1 (cut (total + counted x.0.0 x.0.1)) total) 0 xs
