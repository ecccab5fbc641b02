-- What a table is filled from: fair places, no more than a table is made for, and letters in order.
use Rattle.std.specs.Prelude.{◌≡◌, ℕ, ◌≤◌, true, List}
use Rattle.letters.specs.Alphabets.{ascending_from}
use Rattle.places.specs.Loops.{Loop, Fair, most_size}

pub record Fillable (r : Loop) (letters : List ℕ) : Type 0 where
  pub fair : Fair r letters
  pub small : r.size ≤ most_size
  -- strictly ascending
  pub ascending : ascending_from 0 letters ≡ true
