-- The table rule: a memory of numbers that holds rows, one after the other, each of which is a live place.
-- A row has a cell for each letter in order, then owed, span and lead.
use Rattle.std.specs.Prelude.{ℕ, zero, suc, ◌+◌, ◌*◌, max, cond, List, length, Some, None, Option, ◌==◌, nat_lt, slice_index}
use Rattle.std.specs.Option.{unwrap_or}
use Rattle.letters.specs.Alphabets.{position}
use Rattle.letters.specs.Letters.{letter_bound}
use Rattle.rules.specs.Lists.{and_then}
use Rattle.rules.specs.Meaning.{Meaning}

-- what a cell holds where its letter is not admitted
abbrev pub no_row : ℕ
no_row = 65535

-- how many numbers a row has
abbrev pub width : List ℕ → ℕ
width letters = length letters + 3

-- the number in a column of a row, or none where that lies past the memory
unfoldable pub entry : List ℕ → List ℕ → ℕ → ℕ → Option ℕ
entry letters memory row column =
    cond (nat_lt (row * width letters + column) (length memory)) (Some (slice_index memory (row * width letters + column))) None

-- the number in a column of a row, 0 past the memory
abbrev pub amount : List ℕ → List ℕ → ℕ → ℕ → ℕ
amount letters memory row column = unwrap_or (entry letters memory row column) 0

abbrev pub row_named : ℕ → Option ℕ
row_named n = cond (n == no_row) None (Some n)

-- the row that a cell names
abbrev pub cell : List ℕ → List ℕ → ℕ → ℕ → Option ℕ
cell letters memory row column = and_then (entry letters memory row column) row_named

-- the same of a live place, which is one of the first rows
abbrev pub entry_at : List ℕ → List ℕ → ℕ → ℕ → ℕ → Option ℕ
entry_at letters memory rows place column = cond (nat_lt place rows) (entry letters memory place column) None

abbrev pub cell_at : List ℕ → List ℕ → ℕ → ℕ → ℕ → Option ℕ
cell_at letters memory rows place column = cond (nat_lt place rows) (cell letters memory place column) None

-- the row that follows a row after a letter
abbrev pub row_after : List ℕ → List ℕ → ℕ → ℕ → Option ℕ
row_after letters memory row a = and_then (position letters a) (cell letters memory row)

abbrev pub row_owed : List ℕ → List ℕ → ℕ → ℕ
row_owed letters memory row = amount letters memory row (length letters)

abbrev pub row_span : List ℕ → List ℕ → ℕ → ℕ
row_span letters memory row = amount letters memory row (length letters + 1)

-- a number that the type of a letter holds
abbrev pub held_letter : ℕ → Option ℕ
held_letter n = cond (nat_lt n letter_bound) (Some n) None

-- read only where owed is above 0; none where the type of a letter does not hold the number
abbrev pub row_lead : List ℕ → List ℕ → ℕ → Option ℕ
row_lead letters memory row =
    cond (nat_lt 0 (row_owed letters memory row)) (and_then (entry letters memory row (length letters + 2)) held_letter) None

abbrev pub tabled_with : List ℕ → List ℕ → ℕ → ℕ → Meaning
tabled_with letters memory rows most = record {
  count = rows;
  start = 0;
  most = most;
  live = λ p. nat_lt p rows;
  next = λ p a. cond (nat_lt p rows) (row_after letters memory p a) None;
  owed = λ p. cond (nat_lt p rows) (row_owed letters memory p) 0;
  span = λ p. cond (nat_lt p rows) (row_span letters memory p) 0;
  lead = λ p. cond (nat_lt p rows) (row_lead letters memory p) None;
}

-- the largest of f 0 to f (n - 1), and 0 where there is none
unfoldable pub largest : (ℕ → ℕ) → ℕ → ℕ
largest f zero = 0
largest f (suc n) = max (f n) (largest f n)

-- the rule of so many rows of a memory
abbrev pub tabled : List ℕ → List ℕ → ℕ → Meaning
tabled letters memory rows = tabled_with letters memory rows (largest (row_owed letters memory) rows)
