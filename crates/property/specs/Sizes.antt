-- The size of a node.
use Rattle.std.specs.Prelude.{◌≡◌, ℕ, zero, suc, ◌+◌, ◌*◌, max, Bool, false, cond, ◌||◌, List, [], ◌∷◌, ◌==◌}
use Rattle.property.specs.Nodes.{Node, Nothing, Choice, Sequence, Both, Lap, All, node, Branch}
use Rattle.property.specs.Numbered.{by_number}

-- m is n, or is reached from it by branches alone
pub data Family (nodes : List Node) : ℕ → ℕ → Type 0 where
  itself : {n : ℕ} → Family nodes n n
  branch : {n k m : ℕ} {bs : List (ℕ × ℕ)} (l : ℕ) → node nodes n ≡ Choice bs → Branch bs l k → Family nodes k m → Family nodes n m

-- the same as a test
unfoldable pub some_branch : (ℕ → Bool) → List (ℕ × ℕ) → Bool
some_branch test [] = false
some_branch test (b ∷ bs) = test b.1 || some_branch test bs

abbrev pub by_branches : (ℕ → Bool) → Node → Bool
by_branches test Nothing = false
by_branches test (Choice bs) = some_branch test bs
by_branches test (Sequence a b) = false
by_branches test (Both a b) = false
by_branches test (Lap a) = false
by_branches test (All a b) = false

abbrev pub in_family : List Node → ℕ → ℕ → Bool
in_family nodes n m = by_number false (λ reaches k. (k == m) || by_branches reaches (node nodes k)) n

-- f 0 + .. + f (n - 1)
unfoldable pub total : (ℕ → ℕ) → ℕ → ℕ
total f zero = 0
total f (suc n) = total f n + f n

-- what a node counts in a family: a Choice 1, any other its size
abbrev pub weight : (ℕ → ℕ) → ℕ → Node → ℕ
weight size n Nothing = size n
weight size n (Choice bs) = 1
weight size n (Sequence a b) = size n
weight size n (Both a b) = size n
weight size n (Lap a) = size n
weight size n (All a b) = size n

-- the weights of the family of n, each node counted once
abbrev pub family_size : List Node → (ℕ → ℕ) → ℕ → ℕ
family_size nodes size n = total (λ m. cond (in_family nodes n m) (weight size m (node nodes m)) 0) (suc n)

-- where `size` has the sizes of the earlier nodes
abbrev pub size_by : List Node → (ℕ → ℕ) → ℕ → Node → ℕ
size_by nodes size n Nothing = 0
size_by nodes size n (Choice bs) = family_size nodes size n
size_by nodes size n (Sequence a b) = size a + size b
size_by nodes size n (Both a b) = size a * size b
size_by nodes size n (Lap a) = max 1 (size a)
size_by nodes size n (All a b) = size a * size b

abbrev pub size : List Node → ℕ → ℕ
size nodes = by_number 0 (λ sizes n. size_by nodes sizes n (node nodes n))
