-- A loop of places: it goes on from place to place, letter by letter, and stands at its boundary after each whole lap.
use Rattle.std.specs.Prelude.{◌≡◌, ℕ, ◌<◌, true, List, Some, Option, ◌≢◌}
use Rattle.letters.specs.Letters.{end}
use Rattle.letters.specs.Alphabets.{among}
use Rattle.rules.specs.Lists.{follow_by}
-- the most places that a table is made for: as many as a size counts
pub use Rattle.property.specs.Sized.{most_size}

pub record Loop : Type 0 where
  -- how many places there are, numbered from 0
  pub size : ℕ
  pub boundary : ℕ
  -- the following place, or none
  pub next : ℕ → ℕ → Option ℕ

-- some list leads from the boundary to p
abbrev pub Reached : Loop → ℕ → Type 0
Reached r p = (t : List ℕ) × (follow_by r.next r.boundary t ≡ Some p)

-- some list leads on from p to the boundary
abbrev pub Live : Loop → ℕ → Type 0
Live r p = (u : List ℕ) × (follow_by r.next p u ≡ Some r.boundary)

-- the list t leads from the boundary to a live place
abbrev pub LeadsToLive : Loop → List ℕ → Type 0
LeadsToLive r t = (p : ℕ) × (follow_by r.next r.boundary t ≡ Some p) × Live r p

-- what a table can be filled from: a few places, of which each letter but the end leads to a lower one
pub record Fair (r : Loop) (letters : List ℕ) : Type 0 where
  pub starts : r.boundary < r.size
  pub stays : (p l q : ℕ) → p < r.size → r.next p l ≡ Some q → q < r.size
  pub lettered : (p l q : ℕ) → p < r.size → r.next p l ≡ Some q → among l letters ≡ true
  pub falls : (p l q : ℕ) → Reached r p → (l ≢ end) → r.next p l ≡ Some q → q < p
