-- A filled table is a lawful rule, which admits exactly the lists that lead to a live place.
use Rattle.std.specs.Prelude.{◌≡◌, ℕ, ◌*◌, ◌<◌, ◌≤◌, true, ◌↔◌, List, length}
use Rattle.letters.specs.Alphabets.{each_a_letter}
use Rattle.rules.specs.Meaning.{Lawful}
use Rattle.rules.specs.Lists.{Admits}
use Rattle.rules.specs.Tabled.{width, tabled}
use Rattle.places.specs.Loops.{Loop, LeadsToLive}
use Rattle.synthesis.specs.Fillable.{Fillable}
use Rattle.synthesis.specs.Table.{Tells}

-- the table rule of so many rows is the rule of the loop r
pub record Ruled (r : Loop) (letters table : List ℕ) (count : ℕ) : Type 0 where
  pub lawful : Lawful (tabled letters table count)
  pub admits : (t : List ℕ) → Admits (tabled letters table count) t ↔ LeadsToLive r t
  pub few : count ≤ r.size
  pub some_row : 0 < count
  -- all rows stand in the table
  pub room : count * width letters ≤ length table

abbrev pub FilledTablesAreRules : Type 0
FilledTablesAreRules =
    (r : Loop) (letters table : List ℕ) (count : ℕ) → Fillable r letters → each_a_letter letters ≡ true → Tells r letters table count
    → Ruled r letters table count
