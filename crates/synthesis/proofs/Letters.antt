-- Letters in a list: where one stands, that they ascend, and that the end is not insertable.
use Rattle.std.proofs.Common.{◌≡◌, ℕ, zero, suc, ◌<◌, ◌≤◌, true, eqb, leb, List, [], ◌∷◌, length, get_or, is_some as option_is_some, Some, sym, ap, ◌∙◌, subst, inl, inr, arith}
use Rattle.std.proofs.lemmas.Bool.{false≢true, eqb-true, leb-true, and_parts, or_cases}
use Rattle.letters.specs.Alphabets.{among, ascending_from, position}
use Rattle.letters.proofs.Positions.{position_among}
use Rattle.rules.proofs.Follows.{is_some}
use Rattle.rules.proofs.Positions as P

-- the letter l stands in the list at j
abbrev pub At : List ℕ → ℕ → ℕ → Type 0
At ls l j = (j < length ls) × (get_or ls j 0 ≡ l)

pub among_at : (l : ℕ) (ls : List ℕ) → among l ls ≡ true → (j : ℕ) × (j < length ls) × (get_or ls j 0 ≡ l)
among_at l [] e = absurd (false≢true e)
among_at l (k ∷ ks) e = elim (or_cases (eqb k l) (among l ks) e) [
  | inl h ↦ (0, omega arith, eqb-true k l h)
  | inr h ↦ let a = among_at l ks h in (suc a.0, omega (arith, a.1), a.2)
]

pub position_at : (ls : List ℕ) (l j : ℕ) → position ls l ≡ Some j → At ls l j
position_at ls l j e =
    let a = P.position_at ls 0 l j e in
    let z : a.0 ≡ j = omega (arith, a.1) in
    subst (λ (n : ℕ). At ls l n) z (a.2, a.3)

pub position_some : (ls : List ℕ) (l : ℕ) → among l ls ≡ true → (j : ℕ) × (position ls l ≡ Some j)
position_some ls l e = is_some (position ls l) (position_among 0 ls l ∙ e)

pub some_among : (ls : List ℕ) (l j : ℕ) → position ls l ≡ Some j → among l ls ≡ true
some_among ls l j e = sym (position_among 0 ls l) ∙ ap option_is_some e

above_least : (least : ℕ) (ls : List ℕ) (j : ℕ) → ascending_from least ls ≡ true → j < length ls → least ≤ get_or ls j 0
above_least least [] j e h = absurd (omega arith)
above_least least (l ∷ ls) zero e h = leb-true least l (and_parts (leb least l) (ascending_from (suc l) ls) e).0
above_least least (l ∷ ls) (suc j) e h =
    let a = and_parts (leb least l) (ascending_from (suc l) ls) e in
    let b = above_least (suc l) ls j a.1 (omega arith) in
    omega (arith, leb-true least l a.0)

pub ascends : (least : ℕ) (ls : List ℕ) (i j : ℕ) → ascending_from least ls ≡ true → i < j → j < length ls → get_or ls i 0 < get_or ls j 0
ascends least [] i j e h k = absurd (omega arith)
ascends least (l ∷ ls) i zero e h k = absurd (omega arith)
ascends least (l ∷ ls) zero (suc j) e h k = omega (arith, above_least (suc l) ls j (and_parts (leb least l) (ascending_from (suc l) ls) e).1 (omega arith))
ascends least (l ∷ ls) (suc i) (suc j) e h k = ascends (suc l) ls i j (and_parts (leb least l) (ascending_from (suc l) ls) e).1 (omega arith) (omega arith)
