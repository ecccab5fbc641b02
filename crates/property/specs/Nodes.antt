-- The nodes of a property, after the regular properties of Lanotte, Merro and Munteanu. A node is named by its number in
-- file order.
use Rattle.std.specs.Prelude.{◌≡◌, ℕ, ◌+◌, ◌*◌, Bool, true, false, cond, ◌⊎◌, List, [], ◌∷◌, ◌==◌, slice_index_or}
use Rattle.records.specs.Records.{two_bytes}

pub data Node : Type 0 where
  Nothing : Node
  -- branches, each a letter and a node
  Choice : List (ℕ × ℕ) → Node
  Sequence : ℕ → ℕ → Node
  Both : ℕ → ℕ → Node
  Lap : ℕ → Node
  All : ℕ → ℕ → Node

-- the node with a number; Nothing past the last, so that a use states the bound where it matters
abbrev pub node : List Node → ℕ → Node
node nodes n = slice_index_or nodes n Nothing

-- some branch has the letter l and the node m
abbrev pub Branch : List (ℕ × ℕ) → ℕ → ℕ → Type 0
Branch [] l m = ⊥
Branch (b ∷ bs) l m = ((b.0 ≡ l) × (b.1 ≡ m)) ⊎ Branch bs l m

-- the branches in the body of a Choice
unfoldable pub branches : List ℕ → List (ℕ × ℕ)
branches [] = []
branches (l ∷ []) = []
branches (l ∷ a ∷ []) = []
branches (l ∷ a ∷ b ∷ rest) = (l, a + 256 * b) ∷ branches rest

-- the node that a record of kinds 2 to 7 stands for
abbrev pub node_of : ℕ → List ℕ → Node
node_of kind body =
    cond (kind == 2) Nothing
    (cond (kind == 3) (Choice (branches body))
    (cond (kind == 4) (Sequence (two_bytes body 0) (two_bytes body 2))
    (cond (kind == 5) (Both (two_bytes body 0) (two_bytes body 2))
    (cond (kind == 6) (Lap (two_bytes body 0))
    (All (two_bytes body 0) (two_bytes body 2))))))

-- kinds 6 and 7
abbrev pub is_loop : Node → Bool
is_loop Nothing = false
is_loop (Choice bs) = false
is_loop (Sequence a b) = false
is_loop (Both a b) = false
is_loop (Lap a) = true
is_loop (All a b) = true

abbrev pub is_nothing : Node → Bool
is_nothing Nothing = true
is_nothing (Choice bs) = false
is_nothing (Sequence a b) = false
is_nothing (Both a b) = false
is_nothing (Lap a) = false
is_nothing (All a b) = false
