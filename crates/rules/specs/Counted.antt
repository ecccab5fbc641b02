-- The count rule: a place is the number of letters left in the cycle.
use Rattle.std.specs.Prelude.{ℕ, ◌+◌, ◌-◌, cond, ◌&&◌, List, Some, None, Option, ◌==◌, nat_le, nat_lt}
use Rattle.letters.specs.Letters.{end}
use Rattle.letters.specs.Alphabets.{among}
use Rattle.rules.specs.Meaning.{Meaning}

-- end leads back to k; another letter of the list is admitted while one is left, and leaves one fewer
abbrev pub count_next : List ℕ → ℕ → ℕ → ℕ → Option ℕ
count_next letters k left a =
    cond (nat_le left k)
    (cond (a == end) (Some k)
    (cond (nat_lt 0 left && among a letters) (Some (left - 1)) None))
    None

abbrev pub counted : List ℕ → ℕ → Meaning
counted letters k = record {
  count = k + 1;
  start = k;
  most = 0;
  live = λ left. nat_le left k;
  next = count_next letters k;
  owed = λ left. 0;
  span = λ left. cond (nat_le left k) left 0;
  lead = λ left. None;
}
