-- The tests that rows of a table have to pass, each over the meaning of the table.
use Rattle.std.specs.Prelude.{ℕ, zero, suc, ◌+◌, Bool, true, false, cond, not, ◌&&◌, ◌||◌, List, length, is_some, Some, None, Option, ◌==◌, nat_le, nat_lt, slice_index}
use Rattle.letters.specs.Letters.{end, insertable}
use Rattle.rules.specs.Meaning.{Meaning, most_span}
use Rattle.rules.specs.Tabled.{cell_at}

-- each of f 0 to f (n - 1) passes
unfoldable pub all_below : (ℕ → Bool) → ℕ → Bool
all_below f zero = true
all_below f (suc n) = f n && all_below f n

-- what follows p after the letter a: a live place, where the span is smaller unless the letter is end, and where owed is
-- smaller by one at most if the letter is insertable
abbrev pub keeps_after : Meaning → ℕ → ℕ → Option ℕ → Bool
keeps_after m p a None = true
keeps_after m p a (Some q) =
    m.live q && ((a == end || nat_lt (m.span q) (m.span p)) && (not (insertable a) || nat_le (m.owed p) (m.owed q + 1)))

-- what follows p is a place where owed is one smaller
abbrev pub one_less : Meaning → ℕ → Option ℕ → Bool
one_less m p None = false
one_less m p (Some q) = m.owed q + 1 == m.owed p

-- the lead is insertable, and what follows it owes one less
abbrev pub leads_on : Meaning → ℕ → Option ℕ → Bool
leads_on m p None = false
leads_on m p (Some a) = insertable a && one_less m p (m.next p a)

-- end is admitted where nothing is owed, and else the lead leads on
abbrev pub keeps_end : Meaning → ℕ → Bool
keeps_end m p = cond (is_some (m.next p end)) (m.owed p == 0) (nat_lt 0 (m.owed p) && leads_on m p (m.lead p))

abbrev pub keeps_cell : Meaning → List ℕ → List ℕ → ℕ → ℕ → ℕ → Bool
keeps_cell m letters memory rows p column = keeps_after m p (slice_index letters column) (cell_at letters memory rows p column)

abbrev pub keeps_cells : Meaning → List ℕ → List ℕ → ℕ → ℕ → Bool
keeps_cells m letters memory rows p = all_below (keeps_cell m letters memory rows p) (length letters)

abbrev pub keeps_row : Meaning → List ℕ → List ℕ → ℕ → ℕ → Bool
keeps_row m letters memory rows p = nat_le (m.span p) most_span && (keeps_end m p && keeps_cells m letters memory rows p)
