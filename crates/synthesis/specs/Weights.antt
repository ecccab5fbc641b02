-- What the places with rows owe, their spans and their leads.
use Rattle.std.specs.Prelude.{◌≡◌, ℕ, suc, ◌+◌, ◌<◌, ◌≤◌, true, cond, ◌==◌, List, length, Some, None, Option, option_map, ◌≢◌, slice_index}
use Rattle.letters.specs.Letters.{end, insertable}
use Rattle.rules.specs.Tabled.{no_row}
use Rattle.places.specs.Loops.{Loop, Reached, Live}
use Rattle.places.specs.Owing.{LoopWay, LoopOwed, LoopSpan}
use Rattle.synthesis.specs.Marks.{Marked, onward}

-- what each place below i that has a row owes
pub record Owes (r : Loop) (rows owed : List ℕ) (i : ℕ) : Type 0 where
  pub long : length owed ≡ r.size
  pub owes : (p : ℕ) → p < i → Marked rows p → LoopOwed r p (slice_index owed p)
  pub low : (p : ℕ) → p < i → Marked rows p → slice_index owed p ≤ p

-- and its span
pub record Spans (r : Loop) (rows span : List ℕ) (i : ℕ) : Type 0 where
  pub long : length span ≡ r.size
  pub spans : (p : ℕ) → p < i → Marked rows p → LoopSpan r p (slice_index span p)
  pub low : (p : ℕ) → p < i → Marked rows p → slice_index span p ≤ p

-- the insertable letter l leads from p to the place q, which has a row
abbrev pub Inserts : Loop → List ℕ → ℕ → ℕ → ℕ → Type 0
Inserts r rows p l q = (insertable l ≡ true) × (r.next p l ≡ Some q) × Marked rows q

-- the letter l, which is not the end, leads from p to the place q, which has a row
abbrev pub GoesOn : Loop → List ℕ → ℕ → ℕ → ℕ → Type 0
GoesOn r rows p l q = (l ≢ end) × (r.next p l ≡ Some q) × Marked rows q

-- one more than the number of the place with a row that the letter l leads to from p
abbrev pub beyond : Loop → List ℕ → List ℕ → ℕ → ℕ → Option ℕ
beyond r rows numbers p l = option_map (λ q. slice_index numbers q + 1) (onward r rows p l)

-- what p owes by way of the letter l, and its span
abbrev pub owed_by : Loop → List ℕ → List ℕ → ℕ → ℕ → Option ℕ
owed_by r rows owed p l = cond (insertable l) (beyond r rows owed p l) None

abbrev pub span_by : Loop → List ℕ → List ℕ → ℕ → ℕ → Option ℕ
span_by r rows span p l = cond (l == end) None (beyond r rows span p l)

-- what p owes, or none where it has no insertable way to an end
abbrev pub OwedAt : Loop → ℕ → Option ℕ → Type 0
OwedAt r p None = (u : List ℕ) → LoopWay r p u → ⊥
OwedAt r p (Some v) = (v ≤ p) × LoopOwed r p v

-- p has the lead v: the lowest letter that lowers what p owes, or no row where it owes nothing
pub record Lead (r : Loop) (p v : ℕ) : Type 0 where
  pub nothing : LoopOwed r p 0 → v ≡ no_row
  pub lowers : (k : ℕ) → LoopOwed r p (suc k) → (q : ℕ) × (insertable v ≡ true) × (r.next p v ≡ Some q) × LoopOwed r q k
  pub lowest : (l q k : ℕ) → insertable l ≡ true → r.next p l ≡ Some q → LoopOwed r p (suc k) → LoopOwed r q k → v ≤ l

-- some live place that is reached has no insertable way to an end
abbrev pub Stranded : Loop → Type 0
Stranded r = (p : ℕ) × Reached r p × Live r p × ((u : List ℕ) → LoopWay r p u → ⊥)
