-- An alphabet as the list of its letters, and what may be declared.
use Rattle.std.specs.Prelude.{ℕ, suc, ◌-◌, Bool, true, false, cond, not, ◌&&◌, ◌||◌, List, [], ◌∷◌, length, is_some, Some, None, Option, ◌==◌, nat_le, nat_lt}
use Rattle.letters.specs.Letters.{letter, tick, end}

-- the most letters that an alphabet holds
abbrev pub most_letters : ℕ
most_letters = 32

-- the most that are declared: tick and end are not
abbrev pub most_declared : ℕ
most_declared = most_letters - 2

-- strictly ascending, none below `least`
abbrev pub ascending_from : ℕ → List ℕ → Bool
ascending_from least [] = true
ascending_from least (l ∷ ls) = nat_le least l && ascending_from (suc l) ls

abbrev pub each_a_letter : List ℕ → Bool
each_a_letter [] = true
each_a_letter (l ∷ ls) = is_some (letter l) && each_a_letter ls

abbrev pub among : ℕ → List ℕ → Bool
among l [] = false
among l (k ∷ ks) = k == l || among l ks

-- what every alphabet is
abbrev pub lawful : List ℕ → Bool
lawful ls = (nat_le (length ls) most_letters && ascending_from 0 ls) && ((each_a_letter ls && among tick ls) && among end ls)

-- tick and end alone
abbrev pub bare : List ℕ
bare = tick ∷ end ∷ []

-- a byte that may not be declared as the letter with this index, where `least` is one above the byte before it:
-- no letter, tick, end, not ascending, or one letter too many
abbrev pub barred : ℕ → ℕ → ℕ → Bool
barred least index b = not (is_some (letter b)) || (b == tick || (b == end || (nat_lt b least || nat_le most_declared index)))

-- the index of the first barred byte, counted from `index`
unfoldable pub first_barred : ℕ → ℕ → List ℕ → Option ℕ
first_barred least index [] = None
first_barred least index (b ∷ bs) = cond (barred least index b) (Some index) (first_barred (suc b) (suc index) bs)

-- where a letter first stands in a list, counted from `index`
unfoldable pub position_from : ℕ → List ℕ → ℕ → Option ℕ
position_from index [] l = None
position_from index (k ∷ ks) l = cond (k == l) (Some index) (position_from (suc index) ks l)

abbrev pub position : List ℕ → ℕ → Option ℕ
position ls l = position_from 0 ls l
