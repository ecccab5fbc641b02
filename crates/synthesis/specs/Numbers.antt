-- The live places that are reached, numbered in the order in which they are found: each has a row.
use Rattle.std.specs.Prelude.{◌≡◌, ℕ, ◌+◌, ◌-◌, ◌<◌, ◌≤◌, List, length, Some, slice_index, slice_index_or}
use Rattle.places.specs.Loops.{Loop, Reached, Live}
use Rattle.synthesis.specs.Marks.{Marked, zeros}

-- `rows` has for each place its row's number and one, or 0, and `order` for each row its place
pub record Numbered (r : Loop) (live rows order : List ℕ) (count : ℕ) : Type 0 where
  pub rows_long : length rows ≡ r.size
  pub order_long : length order ≡ r.size
  pub room : count + zeros rows ≡ r.size
  pub some_row : 0 < count
  pub start : slice_index_or order 0 0 ≡ r.boundary
  pub placed : (i : ℕ) → i < count → slice_index rows (slice_index order i) ≡ i + 1
  pub within : (p : ℕ) → Marked rows p → slice_index rows p ≤ count
  pub back : (p : ℕ) → Marked rows p → slice_index order (slice_index rows p - 1) ≡ p
  pub reached : (p : ℕ) → Marked rows p → Reached r p
  pub lives : (p : ℕ) → Marked rows p → Marked live p

-- each live place that a letter leads to from p has a row
abbrev pub Followed : Loop → List ℕ → List ℕ → ℕ → Type 0
Followed r live rows p = (l q : ℕ) → r.next p l ≡ Some q → Marked live q → Marked rows q

-- rows were added
pub record Grown (rows order : List ℕ) (count : ℕ) (rows_after order_after : List ℕ) (count_after : ℕ) : Type 0 where
  pub more : count ≤ count_after
  pub same : (i : ℕ) → i < count → slice_index order_after i ≡ slice_index order i
  pub kept : (p : ℕ) → Marked rows p → Marked rows_after p

-- exactly the live places that are reached have a row
pub record Rowed (r : Loop) (rows : List ℕ) : Type 0 where
  pub long : length rows ≡ r.size
  pub reached : (p : ℕ) → Marked rows p → Reached r p
  pub live : (p : ℕ) → Marked rows p → Live r p
  pub closed : (p l q : ℕ) → Marked rows p → r.next p l ≡ Some q → Live r q → Marked rows q

-- and their rows are numbered from 0, the boundary's
pub record Rows (r : Loop) (rows order : List ℕ) (count : ℕ) : Type 0 where
  pub rowed : Rowed r rows
  pub order_long : length order ≡ r.size
  pub few : count ≤ r.size
  pub some_row : 0 < count
  pub start : slice_index_or order 0 0 ≡ r.boundary
  pub placed : (i : ℕ) → i < count → slice_index rows (slice_index order i) ≡ i + 1
  pub within : (p : ℕ) → Marked rows p → slice_index rows p ≤ count
  pub back : (p : ℕ) → Marked rows p → slice_index order (slice_index rows p - 1) ≡ p
