-- The letters declared so far, and one more, are such as may be declared.
use Rattle.std.proofs.Common.{◌≡◌, ℕ, suc, ◌+◌, ◌-◌, ◌<◌, ◌≤◌, Bool, false, cond, ◌||◌, eqb, List, [], ◌∷◌, ◌++◌, length, get_or, take, set, is_some, Some, None, Option, sym, refl, ap, ◌∙◌, subst, add-zero, arith, ne_eqb}
use Rattle.std.proofs.lemmas.List.{take_more_set, length-take-le}
use Rattle.std.proofs.Math.Bool.{or_assoc}
use Rattle.letters.specs.Alphabets.{first_barred, barred, among, most_declared}
use Rattle.letters.proofs.Declaring.{none_further, declared_byte}
use Rattle.property.specs.Checks.{least_past}

-- one above the last letter, or `least` where there is none
abbrev least_from : ℕ → List ℕ → ℕ
least_from least [] = least
least_from least (d ∷ ds) = least_from (suc d) ds

passes : (least i b : ℕ) (bs : List ℕ) → barred least i b ≡ false → first_barred (suc b) (suc i) bs ≡ None → first_barred least i (b ∷ bs) ≡ None
unfolding first_barred
passes least i b bs e f = ap (λ (t : Bool). cond t (Some i) (first_barred (suc b) (suc i) bs)) e ∙ f

pub none_yet : (least i : ℕ) → first_barred least i [] ≡ None
unfolding first_barred
none_yet least i = refl

one_more_from : (ds : List ℕ) (least i b : ℕ) → first_barred least i ds ≡ None → barred (least_from least ds) (i + length ds) b ≡ false → first_barred least i (ds ++ b ∷ []) ≡ None
one_more_from [] least i b e f =
    let P : ℕ → Type 0 = λ n. barred least n b ≡ false in
    passes least i b [] (subst P (add-zero i) f) (none_yet (suc b) (suc i))
one_more_from (d ∷ ds) least i b e f =
    let g = none_further d ds least i e in
    let P : ℕ → Type 0 = λ n. barred (least_from (suc d) ds) n b ≡ false in
    let n : i + suc (length ds) ≡ suc i + length ds = omega arith in
    passes least i d (ds ++ b ∷ []) g.0 (one_more_from ds (suc d) (suc i) b g.1 (subst P n f))

from_last : (d : ℕ) (ds : List ℕ) → least_from (suc d) ds ≡ suc (get_or (d ∷ ds) (length ds) 0)
from_last d [] = refl
from_last d (e ∷ ds) = from_last e ds

least_is : (ds : List ℕ) → least_past ds ≡ least_from 0 ds
least_is [] = refl
least_is (d ∷ ds) =
    let n : suc (length ds) - 1 ≡ length ds = omega arith in
    let z : suc (length ds) ≡ 0 → ⊥ = λ e. omega arith in
    rw (n, ne_eqb (suc (length ds)) 0 z) (sym (from_last d ds))

one_more : (ds : List ℕ) (b : ℕ) → first_barred 0 0 ds ≡ None → barred (least_past ds) (length ds) b ≡ false → first_barred 0 0 (ds ++ b ∷ []) ≡ None
one_more ds b e f =
    let n : 0 + length ds ≡ length ds = omega arith in
    one_more_from ds 0 0 b e (rw (n, ← least_is ds) f)

no_index : (o : Option ℕ) → is_some o ≡ false → o ≡ None
no_index None e = refl
no_index (Some i) e = cc

pub lawful : (ds : List ℕ) → is_some (first_barred 0 0 ds) ≡ false → first_barred 0 0 ds ≡ None
lawful ds e = no_index (first_barred 0 0 ds) e

-- a letter written behind the first n
pub room : (ls : List ℕ) (n b : ℕ) → n ≤ length ls → barred (least_past (take n ls)) (length (take n ls)) b ≡ false → n < most_declared
room ls n b h e =
    let d = declared_byte (least_past (take n ls)) (length (take n ls)) b e in
    let k : length (take n ls) ≡ n = length-take-le n ls h in
    omega (arith, d.2, k)

pub still_lawful : (ls : List ℕ) (n b : ℕ) → n < length ls → is_some (first_barred 0 0 (take n ls)) ≡ false → barred (least_past (take n ls)) (length (take n ls)) b ≡ false
    → is_some (first_barred 0 0 (take (n + 1) (set ls n b))) ≡ false
still_lawful ls n b h e f =
    ap (λ ds. is_some (first_barred 0 0 ds)) (take_more_set ls n b h)
    ∙ ap is_some (one_more (take n ls) b (lawful (take n ls) e) f)

pub among_joined : (l : ℕ) (ds es : List ℕ) → among l (ds ++ es) ≡ (among l ds || among l es)
among_joined l [] es = refl
among_joined l (d ∷ ds) es = ap (λ (t : Bool). eqb d l || t) (among_joined l ds es) ∙ sym (or_assoc (eqb d l) (among l ds) (among l es))
