-- Table rules as values, and what making one gives.
use Rattle.std.specs.Prelude.{◌≡◌, ℕ, ◌*◌, ◌<◌, ◌≤◌, ◌⊎◌, List, length, Ok, Err, Result}
use Rattle.rules.specs.Meaning.{Lawful, most_places}
use Rattle.rules.specs.Valued.{meaning, members}
use Rattle.rules.specs.Tabled.{width, tabled_with, tabled}
use Rattle.rules.specs.declared.rule.Rule.{Ghosts}
use Rattle.rules.specs.declared.table.Table.{Table}
use Rattle.rules.specs.declared.fault.RuleFault.{RuleFault}
use Rattle.rules.specs.declared.fault.RuleFault.TheVariants.{Number, Places, Rows}

abbrev pub table_rule : Ghosts Table
table_rule = members (λ t. tabled_with t.letters.now t.memory.now t.rows t.most)

-- the rows are few, there is one, they lie in the memory and keep the laws, and the value is their rule
pub record HoldsRows (letters memory : List ℕ) (rows : ℕ) (t : Table) : Type 0 where
  pub few : rows ≤ most_places
  pub one : 0 < rows
  pub fit : rows * width letters ≤ length memory
  pub lawful : Lawful (tabled letters memory rows)
  pub same_letters : t.letters.now ≡ letters
  pub same_memory : t.memory.now ≡ memory
  pub same_rows : t.rows ≡ rows
  pub means : meaning table_rule t ≡ tabled letters memory rows

-- too many rows; or none, rows past the memory, or rows that break a law
abbrev pub TableRefused : List ℕ → List ℕ → ℕ → RuleFault → Type 0
TableRefused letters memory rows Number = ⊥
TableRefused letters memory rows Places = most_places < rows
TableRefused letters memory rows Rows =
    (rows ≤ most_places)
    × ((rows ≡ 0) ⊎ ((length memory < rows * width letters) ⊎ (Lawful (tabled letters memory rows) → ⊥)))

abbrev pub TableMade : List ℕ → List ℕ → ℕ → Result Table RuleFault → Type 0
TableMade letters memory rows (Ok t) = HoldsRows letters memory rows t
TableMade letters memory rows (Err e) = TableRefused letters memory rows e

abbrev pub TableLawful : Result Table RuleFault → Type 0
TableLawful (Ok t) = Lawful (meaning table_rule t)
TableLawful (Err e) = Unit {0}
