-- What a filled table tells of the places that it was filled from.
use Rattle.std.specs.Prelude.{◌≡◌, ℕ, ◌+◌, ◌*◌, ◌<◌, ◌≤◌, ◌↔◌, List, length, Some, ◌≢◌, slice_index}
use Rattle.rules.specs.Lists.{follow_by}
use Rattle.rules.specs.Tabled.{no_row, width}
use Rattle.places.specs.Loops.{Loop, LeadsToLive}
use Rattle.places.specs.Owing.{LoopOwed, LoopSpan}
use Rattle.synthesis.specs.Marks.{Marked}
use Rattle.synthesis.specs.Weights.{Lead}
use Rattle.synthesis.specs.Rows.{column, row_owed, row_span, row_lead, next_row}

-- v is the row that the letter l leads to from p, or no row
pub record Cell (r : Loop) (rows : List ℕ) (p l v : ℕ) : Type 0 where
  pub led : (q : ℕ) → r.next p l ≡ Some q → Marked rows q → v + 1 ≡ slice_index rows q
  pub leads : (v ≢ no_row) → (q : ℕ) × (r.next p l ≡ Some q) × Marked rows q

-- v stands in the column j of the row of the place p
pub record Entry (r : Loop) (letters rows : List ℕ) (p j v : ℕ) : Type 0 where
  pub cell : j < length letters → Cell r rows p (slice_index letters j) v
  pub owed : j ≡ length letters → LoopOwed r p v
  pub span : j ≡ length letters + 1 → LoopSpan r p v
  pub lead : j ≡ length letters + 2 → Lead r p v

-- the rows before n stand in the table
abbrev pub RowsWritten : Loop → List ℕ → List ℕ → List ℕ → List ℕ → ℕ → Type 0
RowsWritten r letters rows order table n =
    (i : ℕ) → i < n → (j : ℕ) → j < width letters → Entry r letters rows (slice_index order i) j (column letters table i j)

-- what the table says of the loop r: its rows are the live places that are reached
pub record Tells (r : Loop) (letters table : List ℕ) (count : ℕ) : Type 0 where
  pub some_row : 0 < count
  pub few : count ≤ r.size
  -- all rows stand in the table
  pub room : count * width letters ≤ length table
  -- the place of a row
  pub place : ℕ → ℕ
  pub inside : (i : ℕ) → i < count → place i < r.size
  pub start : place 0 ≡ r.boundary
  -- the lists that lead from row 0 to a row are exactly those that lead to a live place
  pub admitted : (t : List ℕ) → ((i : ℕ) × (follow_by (next_row letters table) 0 t ≡ Some i)) ↔ LeadsToLive r t
  -- and the row is that of the place
  pub same_place : (t : List ℕ) (i : ℕ) → follow_by (next_row letters table) 0 t ≡ Some i → (i < count) × (follow_by r.next r.boundary t ≡ Some (place i))
  pub reached : (i : ℕ) → i < count → (t : List ℕ) × (follow_by (next_row letters table) 0 t ≡ Some i)
  pub owed : (i : ℕ) → i < count → LoopOwed r (place i) (row_owed letters table i)
  pub span : (i : ℕ) → i < count → LoopSpan r (place i) (row_span letters table i)
  pub lead : (i : ℕ) → i < count → Lead r (place i) (row_lead letters table i)
  -- no row stands past the last
  pub rest : (k : ℕ) → count * width letters ≤ k → k < length table → slice_index table k ≡ no_row

-- each number of the memory is v
abbrev pub AllAre : ℕ → List ℕ → Type 0
AllAre v m = (k : ℕ) → k < length m → slice_index m k ≡ v
