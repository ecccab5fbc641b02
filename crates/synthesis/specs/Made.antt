-- What filling makes of the loop of a property.
use Rattle.std.specs.Prelude.{◌≡◌, ℕ, ◌*◌, ◌<◌, ◌≤◌, List, [], ◌∷◌, ◌++◌, length, Some, None, Option, slice_index}
use Rattle.letters.specs.Letters.{end}
use Rattle.rules.specs.Lists.{Insertable}
use Rattle.rules.specs.Tabled.{no_row, width}
use Rattle.places.specs.Loops.{Loop, LeadsToLive}
use Rattle.synthesis.specs.Own.{Own}
use Rattle.synthesis.specs.Ruled.{Ruled}
use Rattle.synthesis.specs.Table.{AllAre}

-- some list leads to a live place from which no insertable letters lead to an end
abbrev pub StuckAt : Loop → Type 0
StuckAt r = (t : List ℕ) × LeadsToLive r t × ((u : List ℕ) → Insertable u → LeadsToLive r (t ++ (u ++ end ∷ [])) → ⊥)

-- a table of so many rows
pub record MadeTable (r : Loop) (letters table : List ℕ) (count : ℕ) : Type 0 where
  pub ruled : Ruled r letters table count
  pub own : Own letters table count
  -- no row stands past the last
  pub rest : (k : ℕ) → count * width letters ≤ k → k < length table → slice_index table k ≡ no_row

-- what filling answers, and what then stands in the table memory
abbrev pub Made : Loop → List ℕ → List ℕ → Option ℕ → Type 0
Made r letters table None = StuckAt r × AllAre no_row table
Made r letters table (Some count) = MadeTable r letters table count
