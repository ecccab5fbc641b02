-- Marks: a number for each place, 0 where it is not marked.
use Rattle.std.specs.Prelude.{◌≡◌, ℕ, zero, suc, ◌<◌, cond, not, ◌==◌, List, [], ◌∷◌, length, Some, None, Option, slice_index}
use Rattle.places.specs.Loops.{Loop, Live}

abbrev pub Marked : List ℕ → ℕ → Type 0
Marked m p = 0 < slice_index m p

-- how many are not marked
unfoldable pub zeros : List ℕ → ℕ
zeros [] = 0
zeros (zero ∷ m) = suc (zeros m)
zeros (suc x ∷ m) = zeros m

-- the place, if it is marked
abbrev pub if_marked : List ℕ → Option ℕ → Option ℕ
if_marked m None = None
if_marked m (Some q) = cond (not (slice_index m q == 0)) (Some q) None

-- the marked place that the letter l leads to from p, or none
abbrev pub onward : Loop → List ℕ → ℕ → ℕ → Option ℕ
onward r m p l = if_marked m (r.next p l)

-- some letter leads from p to a marked place
abbrev pub Into : Loop → List ℕ → ℕ → Type 0
Into r m p = (l : ℕ) × (q : ℕ) × (r.next p l ≡ Some q) × Marked m q

-- only live places are marked, and the boundary is
pub record Marking (r : Loop) (m : List ℕ) : Type 0 where
  pub long : length m ≡ r.size
  pub sound : (p : ℕ) → Marked m p → Live r p
  pub start : Marked m r.boundary

-- exactly the live places are marked
pub record Exact (r : Loop) (m : List ℕ) : Type 0 where
  pub long : length m ≡ r.size
  pub sound : (p : ℕ) → Marked m p → Live r p
  pub complete : (p : ℕ) → p < r.size → Live r p → Marked m p
