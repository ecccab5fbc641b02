-- A letter's position is where the library's search finds it, and it has one exactly where it stands in the list.
use Rattle.std.proofs.Common.{◌≡◌, ℕ, suc, cond, eqb, List, [], ◌∷◌, is_some, Some, refl, ap, ◌∙◌, add-one, arith}
use Rattle.std.proofs.lemmas.Iterator.Adapters.{position_from-zero}
use Rattle.letters.specs.Alphabets.{position, position_from, among}

counted : (i l : ℕ) (ls : List ℕ) → Rattle.std.specs.List.position_from (λ k. eqb k l) i ls ≡ position_from i ls l
unfolding position_from
counted i l [] = refl
counted i l (k ∷ ks) = rw add-one (ap (cond (eqb k l) (Some i)) (counted (suc i) l ks))

pub searched : (ls : List ℕ) (l : ℕ) → Rattle.std.specs.List.position (λ k. eqb k l) ls ≡ position ls l
searched ls l = position_from-zero (λ k. eqb k l) ls ∙ counted 0 l ls

pub position_among : (i : ℕ) (ls : List ℕ) (l : ℕ) → is_some (position_from i ls l) ≡ among l ls
unfolding position_from
position_among i [] l = refl
position_among i (k ∷ ks) l = grind (arith, position_among (suc i) ks l)
