-- The laws that the rows of a filled table keep.
use Rattle.std.specs.Prelude.{◌≡◌, ℕ, ◌+◌, ◌<◌, ◌≤◌, true, List, is_some, Some, ◌==◌, ◌≢◌}
use Rattle.letters.specs.Letters.{end, insertable}
use Rattle.letters.specs.Alphabets.{among}
use Rattle.rules.specs.Meaning.{most_span}
use Rattle.places.specs.Loops.{Loop}
use Rattle.synthesis.specs.Fillable.{Fillable}
use Rattle.synthesis.specs.Rows.{row_owed, row_span, row_lead, next_row}
use Rattle.synthesis.specs.Table.{Tells}

-- the lead of the row i is an insertable letter of the alphabet that leads to the row k, where owed is one smaller
pub record RowLeads (letters table : List ℕ) (i k : ℕ) : Type 0 where
  pub can : insertable (row_lead letters table i) ≡ true
  pub lettered : among (row_lead letters table i) letters ≡ true
  pub goes : next_row letters table i (row_lead letters table i) ≡ Some k
  pub less : row_owed letters table k + 1 ≡ row_owed letters table i

pub record RowLaws (letters table : List ℕ) (count : ℕ) : Type 0 where
  -- a following row is a row
  pub stays : (i l k : ℕ) → i < count → next_row letters table i l ≡ Some k → k < count
  -- owed is 0 exactly where end has a following row
  pub ends : (i : ℕ) → i < count → is_some (next_row letters table i end) ≡ (row_owed letters table i == 0)
  -- where owed is above 0, the lead brings the end one letter nearer
  pub leads : (i : ℕ) → i < count → 0 < row_owed letters table i → (k : ℕ) × RowLeads letters table i k
  -- an insertable letter never lowers owed by more than one
  pub slow : (i l k : ℕ) → i < count → insertable l ≡ true → next_row letters table i l ≡ Some k → row_owed letters table i ≤ row_owed letters table k + 1
  -- every letter but end leads to a smaller span, and no span is large
  pub shorter : (i l k : ℕ) → i < count → (l ≢ end) → next_row letters table i l ≡ Some k → row_span letters table k < row_span letters table i
  pub bounded : (i : ℕ) → i < count → row_span letters table i ≤ most_span

abbrev pub RowsAreLawful : Type 0
RowsAreLawful = (r : Loop) (letters table : List ℕ) (count : ℕ) → Fillable r letters → Tells r letters table count → RowLaws letters table count
