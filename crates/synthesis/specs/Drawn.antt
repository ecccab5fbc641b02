-- The places of a loop, drawn into a memory: a row for each place, with a cell for each letter.
use Rattle.std.specs.Prelude.{◌≡◌, ℕ, ◌+◌, ◌*◌, ◌<◌, List, length, Some, None, Option, slice_index, slice_index_or}
use Rattle.letters.specs.Letters.{letter_bound}
use Rattle.rules.specs.Lists.{and_then}
use Rattle.rules.specs.Tabled.{no_row, row_named, width}
use Rattle.places.specs.Loops.{Loop}
use Rattle.places.specs.declared.outcome.Outcome.{Outcome}
use Rattle.places.specs.declared.outcome.Outcome.TheVariants.{Dead, Done, At}
use Rattle.synthesis.specs.declared.drawn.Drawn.{Drawn}

-- what a cell holds of an outcome: the place, or that there is none
abbrev pub cell_of : Outcome → ℕ
cell_of Dead = no_row
cell_of Done = no_row
cell_of (At q) = q

-- the cells say where each letter leads from the place p
abbrev pub Line : Loop → List ℕ → ℕ → List ℕ → Type 0
Line r letters p cells = (j : ℕ) → j < length letters → row_named (slice_index_or cells j no_row) ≡ r.next p (slice_index letters j)

-- the rows of the first n places
abbrev pub Lines : Loop → List ℕ → List ℕ → ℕ → Type 0
Lines r letters cells n =
    (p : ℕ) → p < n → (j : ℕ) → j < length letters → row_named (slice_index_or cells (p * width letters + j) no_row) ≡ r.next p (slice_index letters j)

-- the columns of the first n letters
pub record Columned (letters : List ℕ) (columns : List (Option ℕ)) (n : ℕ) : Type 0 where
  pub long : length columns ≡ letter_bound
  pub at : (j : ℕ) → j < n → slice_index_or columns (slice_index letters j) None ≡ Some j
  pub only : (l j : ℕ) → slice_index_or columns l None ≡ Some j → (j < n) × (slice_index letters j ≡ l)

-- the loop of such rows: a letter without a column leads nowhere
abbrev pub drawing : List (Option ℕ) → List ℕ → ℕ → ℕ → ℕ → Loop
drawing columns cells stride size boundary = record {
  size = size;
  boundary = boundary;
  next = λ p l. and_then (slice_index_or columns l None) (λ j. row_named (slice_index_or cells (p * stride + j) no_row));
}

abbrev pub drawn : Drawn → Loop
drawn d = drawing d.columns.now d.cells.now d.stride d.size d.boundary
