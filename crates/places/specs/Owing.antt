-- What a place of a loop owes, and how far it can go on without an end, among the live places.
use Rattle.std.specs.Prelude.{◌≡◌, ℕ, ◌≤◌, List, [], ◌∷◌, ◌++◌, length, Some}
use Rattle.letters.specs.Letters.{end}
use Rattle.rules.specs.Lists.{follow_by, Insertable, Endless}
use Rattle.places.specs.Loops.{Loop, Live}

-- insertable letters, after which the end leads from p to a live place
pub record LoopWay (r : Loop) (p : ℕ) (u : List ℕ) : Type 0 where
  pub inserts : Insertable u
  pub last : ℕ
  pub leads : follow_by r.next p (u ++ end ∷ []) ≡ Some last
  pub live : Live r last

-- k is the length of the shortest such list
pub record LoopOwed (r : Loop) (p k : ℕ) : Type 0 where
  pub way : (u : List ℕ) × (length u ≡ k) × LoopWay r p u
  pub least : (u : List ℕ) → LoopWay r p u → k ≤ length u

-- k is the length of the longest list without an end that leads to a live place
pub record LoopSpan (r : Loop) (p k : ℕ) : Type 0 where
  pub longest : (u : List ℕ) × (length u ≡ k) × Endless u × ((q : ℕ) × (follow_by r.next p u ≡ Some q) × Live r q)
  pub most : (u : List ℕ) (q : ℕ) → Endless u → follow_by r.next p u ≡ Some q → Live r q → length u ≤ k
