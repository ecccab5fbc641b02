-- The rows of a table, read where they lie in its memory: a cell for each letter of the alphabet, in its order, then owed,
-- span and lead.
use Rattle.std.specs.Prelude.{ℕ, ◌+◌, ◌*◌, List, length, Option, slice_index}
use Rattle.letters.specs.Alphabets.{position}
use Rattle.rules.specs.Lists.{and_then}
use Rattle.rules.specs.Tabled.{width, row_named}

-- what stands in the row i at the column j
abbrev pub column : List ℕ → List ℕ → ℕ → ℕ → ℕ
column letters table i j = slice_index table (i * width letters + j)

abbrev pub row_owed : List ℕ → List ℕ → ℕ → ℕ
row_owed letters table i = column letters table i (length letters)

abbrev pub row_span : List ℕ → List ℕ → ℕ → ℕ
row_span letters table i = column letters table i (length letters + 1)

abbrev pub row_lead : List ℕ → List ℕ → ℕ → ℕ
row_lead letters table i = column letters table i (length letters + 2)

-- the row that follows the row i after the letter l, or none
abbrev pub next_row : List ℕ → List ℕ → ℕ → ℕ → Option ℕ
next_row letters table i l = and_then (position letters l) (λ j. row_named (column letters table i j))
