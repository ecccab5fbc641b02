-- One step of the check of a declaration, and that what passes it makes an alphabet.
use Rattle.std.proofs.Common.{◌≡◌, ℕ, suc, ◌+◌, ◌<◌, ◌≤◌, Bool, true, false, cond, leb, List, [], ◌∷◌, ◌++◌, length, get_or, take, drop, set, is_some, Some, None, Option, refl, ap, add-one, arith, length-append, drop_of_length-le, drop-cons, le-leb}
use Rattle.std.proofs.lemmas.Bool.Decides.{nat_tests}
use Rattle.letters.specs.Letters.{letter, tick, end}
use Rattle.letters.specs.Alphabets.{first_barred, barred, bare, lawful, among, ascending_from, each_a_letter, most_letters, most_declared}

pub barred_here : (bs : List ℕ) (least i : ℕ) → i < length bs → barred least i (get_or bs i 0) ≡ true → first_barred least i (drop i bs) ≡ Some i
unfolding first_barred
barred_here bs least i h e = rw (drop-cons bs i 0 h, e)

pub barred_later : (bs : List ℕ) (least i : ℕ) → i < length bs → barred least i (get_or bs i 0) ≡ false
    → first_barred least i (drop i bs) ≡ first_barred (get_or bs i 0 + 1) (i + 1) (drop (i + 1) bs)
unfolding first_barred
barred_later bs least i h e = rw (add-one (get_or bs i 0), add-one, drop-cons bs i 0 h, e)

pub none_barred : (bs : List ℕ) (least i : ℕ) → length bs ≤ i → first_barred least i (drop i bs) ≡ None
unfolding first_barred
none_barred bs least i h = rw (drop_of_length-le bs h)

-- a byte that may be declared
pub declared_byte : (least i b : ℕ) → barred least i b ≡ false → (least ≤ b) × (b < tick) × (i < most_declared)
declared_byte least i b e = grind (arith, nat_tests)

pub declared_letter : (least i b : ℕ) → barred least i b ≡ false → is_some (letter b) ≡ true
declared_letter least i b e = grind (arith, nat_tests)

no_stop : (t : Bool) (i : ℕ) (o : Option ℕ) → cond t (Some i) o ≡ None → (t ≡ false) × (o ≡ None)
no_stop true i o e = (cc, cc)
no_stop false i o e = (refl, e)

pub none_further : (b : ℕ) (bs : List ℕ) (least i : ℕ) → first_barred least i (b ∷ bs) ≡ None → (barred least i b ≡ false) × (first_barred (suc b) (suc i) bs ≡ None)
unfolding first_barred
none_further b bs least i e = no_stop (barred least i b) i (first_barred (suc b) (suc i) bs) e

among_bare : (l : ℕ) (bs : List ℕ) → among l bare ≡ true → among l (bs ++ bare) ≡ true
among_bare l [] e = e
among_bare l (b ∷ bs) e = grind (arith, among_bare l bs e)

ascends : (bs : List ℕ) (least i : ℕ) → least ≤ tick → first_barred least i bs ≡ None → ascending_from least (bs ++ bare) ≡ true
ascends [] least i h e = grind (arith, nat_tests)
ascends (b ∷ bs) least i h e =
    let f = none_further b bs least i e in
    let d = declared_byte least i b f.0 in
    let g : ascending_from (suc b) (bs ++ bare) ≡ true = ascends bs (suc b) (suc i) (omega (arith, d.1)) f.1 in
    grind (arith, nat_tests, d.0, g)

all_letters : (bs : List ℕ) (least i : ℕ) → first_barred least i bs ≡ None → each_a_letter (bs ++ bare) ≡ true
all_letters [] least i e = refl
all_letters (b ∷ bs) least i e =
    let f = none_further b bs least i e in
    let g : is_some (letter b) ≡ true = declared_letter least i b f.0 in
    let h : each_a_letter (bs ++ bare) ≡ true = all_letters bs (suc b) (suc i) f.1 in
    cc

pub few : (bs : List ℕ) (least i : ℕ) → i ≤ most_declared → first_barred least i bs ≡ None → length bs + i ≤ most_declared
few [] least i h e = omega arith
few (b ∷ bs) least i h e =
    let f = none_further b bs least i e in
    let d = declared_byte least i b f.0 in
    let g : length bs + suc i ≤ most_declared = few bs (suc b) (suc i) (omega (arith, d.2)) f.1 in
    omega arith

pub few_enough : (bs : List ℕ) → first_barred 0 0 bs ≡ None → length bs ≤ most_declared
few_enough bs e = let h : length bs + 0 ≤ most_declared = few bs 0 0 (omega arith) e in omega arith

pub makes_alphabet : (bs : List ℕ) → first_barred 0 0 bs ≡ None → lawful (bs ++ bare) ≡ true
makes_alphabet bs e =
    let h : length (bs ++ bare) ≤ most_letters = simp length-append (omega (arith, few_enough bs e)) in
    let f : leb (length (bs ++ bare)) most_letters ≡ true = le-leb (length (bs ++ bare)) most_letters h in
    let a : ascending_from 0 (bs ++ bare) ≡ true = ascends bs 0 0 (omega arith) e in
    let r : each_a_letter (bs ++ bare) ≡ true = all_letters bs 0 0 e in
    let t : among tick (bs ++ bare) ≡ true = among_bare tick bs refl in
    let d : among end (bs ++ bare) ≡ true = among_bare end bs refl in
    cc

two_after : (bs rest : List ℕ) → 2 ≤ length rest
    → take (suc (suc (length bs))) (set (set (bs ++ rest) (length bs) tick) (suc (length bs)) end) ≡ bs ++ bare
two_after [] [] h = absurd (omega arith)
two_after [] (a ∷ []) h = absurd (omega arith)
two_after [] (a ∷ b ∷ rest) h = refl
two_after (b ∷ bs) rest h = ap (λ (x : List ℕ). b ∷ x) (two_after bs rest h)

-- letters that were copied to the front, with tick and end put after them
pub two_written : (ls bs rest : List ℕ) → ls ≡ bs → 2 ≤ length rest
    → take (length bs + 2) (set (set (ls ++ rest) (length bs) tick) (length bs + 1) end) ≡ bs ++ bare
two_written ls bs rest e h =
    let two : length bs + 2 ≡ suc (suc (length bs)) = omega arith in
    rw (e, two, add-one) (two_after bs rest h)
