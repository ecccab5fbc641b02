-- What stands in a table, in the table's own words.
use Rattle.std.specs.Prelude.{◌≡◌, ℕ, ◌+◌, ◌<◌, ◌≤◌, true, List, [], ◌∷◌, ◌++◌, length, Some, Option}
use Rattle.letters.specs.Letters.{end, insertable}
use Rattle.rules.specs.Lists.{follow_by, Insertable, Endless}
use Rattle.rules.specs.Tabled.{no_row}
use Rattle.places.specs.Loops.{Loop}
use Rattle.synthesis.specs.Rows.{row_owed, row_span, row_lead, next_row}
use Rattle.synthesis.specs.Table.{Tells}

-- the list t is admitted from the row i
abbrev pub AdmitsFrom : (ℕ → ℕ → Option ℕ) → ℕ → List ℕ → Type 0
AdmitsFrom f i t = (k : ℕ) × (follow_by f i t ≡ Some k)

-- n is the length of the shortest insertable list after which the end is admitted
pub record LeastOwed (f : ℕ → ℕ → Option ℕ) (i n : ℕ) : Type 0 where
  pub way : (u : List ℕ) × (length u ≡ n) × Insertable u × AdmitsFrom f i (u ++ end ∷ [])
  pub least : (u : List ℕ) → Insertable u → AdmitsFrom f i (u ++ end ∷ []) → n ≤ length u

-- n is the length of the longest admitted list without an end
pub record LongestSpan (f : ℕ → ℕ → Option ℕ) (i n : ℕ) : Type 0 where
  pub longest : (u : List ℕ) × (length u ≡ n) × Endless u × AdmitsFrom f i u
  pub most : (u : List ℕ) → Endless u → AdmitsFrom f i u → length u ≤ n

-- l is insertable and leads to a row where owed is one smaller
abbrev pub Lowers : (ℕ → ℕ → Option ℕ) → (ℕ → ℕ) → ℕ → ℕ → Type 0
Lowers f owed i l = (insertable l ≡ true) × ((k : ℕ) × (f i l ≡ Some k) × (owed k + 1 ≡ owed i))

-- v is the lowest such letter, where something is owed
pub record LowestLead (f : ℕ → ℕ → Option ℕ) (owed : ℕ → ℕ) (i v : ℕ) : Type 0 where
  pub nothing : owed i ≡ 0 → v ≡ no_row
  pub lowers : 0 < owed i → Lowers f owed i v
  pub lowest : (l : ℕ) → Lowers f owed i l → v ≤ l

pub record Own (letters table : List ℕ) (count : ℕ) : Type 0 where
  pub stays : (i l k : ℕ) → i < count → next_row letters table i l ≡ Some k → k < count
  pub reached : (i : ℕ) → i < count → (t : List ℕ) × (follow_by (next_row letters table) 0 t ≡ Some i)
  pub owed : (i : ℕ) → i < count → LeastOwed (next_row letters table) i (row_owed letters table i)
  pub span : (i : ℕ) → i < count → LongestSpan (next_row letters table) i (row_span letters table i)
  pub lead : (i : ℕ) → i < count → LowestLead (next_row letters table) (row_owed letters table) i (row_lead letters table i)

abbrev pub TablesSaySo : Type 0
TablesSaySo = (r : Loop) (letters table : List ℕ) (count : ℕ) → Tells r letters table count → Own letters table count
