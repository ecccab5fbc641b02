-- Where a letter stands in an alphabet, and what stands there.
use Rattle.std.proofs.Common.{◌≡◌, ℕ, zero, suc, ◌+◌, ◌<◌, ◌≤◌, true, ◌&&◌, eqb, leb, List, [], ◌∷◌, length, get_or, is_some, Some, refl, ap, ◌∙◌, ⊎_elim, arith}
use Rattle.std.proofs.lemmas.Bool.{leb-true, eqb-true, eq-eqb, ne_eqb, and_parts, cond-true, cond-false}
use Rattle.letters.specs.Letters.{letter}
use Rattle.letters.specs.Alphabets.{position_from, each_a_letter, ascending_from, lawful, most_letters}
use Rattle.rules.proofs.Follows.{none_some}
use Rattle.rules.proofs.Capping.{split}

-- what stands at a letter's position is the letter
pub position_at : (ls : List ℕ) (index a i : ℕ) → position_from index ls a ≡ Some i → (j : ℕ) × (i ≡ index + j) × (j < length ls) × (get_or ls j 0 ≡ a)
unfolding position_from
position_at [] index a i h = absurd (none_some h)
position_at (k ∷ ks) index a i h =
    ⊎_elim
    (λ here. let e : index ≡ i = cc here.1 in (0, omega arith, omega arith, eqb-true k a here.0))
    (λ later. let t = position_at ks (suc index) a i later.1 in
    let e = t.1 in
    let l = t.2 in
    (suc t.0, omega (arith, e), omega (arith, l), t.3))
    (split (eqb k a) (Some index) (position_from (suc index) ks a) i h)

above : (ls : List ℕ) (least j : ℕ) → ascending_from least ls ≡ true → j < length ls → least ≤ get_or ls j 0
above [] least j h l = absurd (omega arith)
above (k ∷ ks) least zero h l = leb-true least k (and_parts (leb least k) (ascending_from (suc k) ks) h).0
above (k ∷ ks) least (suc j) h l =
    let t = and_parts (leb least k) (ascending_from (suc k) ks) h in
    let up = above ks (suc k) j t.1 (omega arith) in
    let low = leb-true least k t.0 in
    omega arith

-- each of ascending letters stands at its own index first
pub position_of : (ls : List ℕ) (least index j : ℕ) → ascending_from least ls ≡ true → j < length ls → position_from index ls (get_or ls j 0) ≡ Some (index + j)
unfolding position_from
position_of [] least index j h l = absurd (omega arith)
position_of (k ∷ ks) least index zero h l =
    let e : index ≡ index + 0 = omega arith in
    cond-true (eqb k k) _ _ (eq-eqb k k refl) ∙ ap Some e
position_of (k ∷ ks) least index (suc j) h l =
    let t = and_parts (leb least k) (ascending_from (suc k) ks) h in
    let up = above ks (suc k) j t.1 (omega arith) in
    let e : suc index + j ≡ index + suc j = omega arith in
    cond-false (eqb k (get_or ks j 0)) _ _ (ne_eqb k (get_or ks j 0) (λ same. omega arith)) ∙ position_of ks (suc k) (suc index) j t.1 (omega arith) ∙ ap Some e

pub letter_at : (ls : List ℕ) (j : ℕ) → each_a_letter ls ≡ true → j < length ls → is_some (letter (get_or ls j 0)) ≡ true
letter_at [] j h l = absurd (omega arith)
letter_at (k ∷ ks) zero h l = (and_parts (is_some (letter k)) (each_a_letter ks) h).0
letter_at (k ∷ ks) (suc j) h l = letter_at ks j (and_parts (is_some (letter k)) (each_a_letter ks) h).1 (omega arith)

-- an alphabet ascends
pub ascends : (ls : List ℕ) → lawful ls ≡ true → ascending_from 0 ls ≡ true
ascends ls h =
    let first = (and_parts (leb (length ls) most_letters && ascending_from 0 ls) _ h).0 in
    (and_parts (leb (length ls) most_letters) (ascending_from 0 ls) first).1
