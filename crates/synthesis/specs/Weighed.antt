-- The rows, with what weighs on their places.
use Rattle.std.specs.Prelude.{ℕ, ◌+◌, Bool, false, ◌&&◌, ◌==◌, Some, None, Option, slice_index}
use Rattle.letters.specs.Letters.{insertable}
use Rattle.places.specs.Loops.{Loop}
use Rattle.synthesis.specs.declared.weighed.Weighed.{Weighed}
use Rattle.synthesis.specs.Marks.{onward}
use Rattle.synthesis.specs.Numbers.{Rows}
use Rattle.synthesis.specs.Weights.{Owes, Spans, Stranded}

pub record AllWeighed (r : Loop) (w : Weighed) : Type 0 where
  pub numbered : Rows r w.rows.now w.order.now w.count
  pub owes : Owes r w.rows.now w.owed.now r.size
  pub spans : Spans r w.rows.now w.span.now r.size

-- the rows with what weighs on their places, or none where a place is stranded
abbrev pub Weighing : Loop → Option Weighed → Type 0
Weighing r None = Stranded r
Weighing r (Some w) = AllWeighed r w

-- the place, if there is one, owes one less than p
abbrev pub owes_less : Weighed → ℕ → Option ℕ → Bool
owes_less w p None = false
owes_less w p (Some q) = slice_index w.owed.now q + 1 == slice_index w.owed.now p

-- whether the letter l is insertable and leads from p to a place with a row that owes one less
abbrev pub lowers : Loop → Weighed → ℕ → ℕ → Bool
lowers r w p l = insertable l && owes_less w p (onward r w.rows.now p l)
