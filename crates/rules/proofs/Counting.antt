-- The count rule is lawful.
use Rattle.std.proofs.Common.{◌≡◌, ℕ, ◌<◌, ◌≤◌, true, false, cond, ◌&&◌, eqb, leb, List, [], ◌∷◌, length, is_some, Some, None, refl, ap, subst, ⊎_elim, arith}
use Rattle.std.proofs.lemmas.Bool.{leb-true, le-leb, eqb-true, ne_eqb, and_parts, or_cases, cases_Bool, both_ways, false≢true, cond-true, cond-false}
use Rattle.std.proofs.lemmas.Bool.Decides.{nat_tests}
use Rattle.letters.specs.Letters.{letter, tick, end}
use Rattle.letters.specs.Alphabets.{among, each_a_letter, ascending_from, lawful, most_letters}
use Rattle.rules.specs.Meaning.{Dead, Lawful}
use Rattle.rules.specs.Counted.{counted, count_next}
use Rattle.rules.specs.Faults.{most_number}

-- each letter of an alphabet is a letter
pub each_letter : (ls : List ℕ) → lawful ls ≡ true → each_a_letter ls ≡ true
each_letter ls h =
    let last = (and_parts (leb (length ls) most_letters && ascending_from 0 ls) _ h).1 in
    let mid = (and_parts (each_a_letter ls && among tick ls) _ last).0 in
    (and_parts (each_a_letter ls) (among tick ls) mid).0

among_letters : (a : ℕ) (ls : List ℕ) → each_a_letter ls ≡ true → among a ls ≡ true → is_some (letter a) ≡ true
among_letters a [] h e = absurd (false≢true e)
among_letters a (l ∷ ls) h e =
    let parts = and_parts (is_some (letter l)) (each_a_letter ls) h in
    let P : ℕ → Type 0 = λ x. is_some (letter x) ≡ true in
    ⊎_elim
    (λ here. subst P (eqb-true l a here) parts.0)
    (λ later. among_letters a ls parts.1 later)
    (or_cases (eqb l a) (among a ls) e)

no_letter : (ls : List ℕ) (k p a : ℕ) → each_a_letter ls ≡ true → is_some (letter a) ≡ false → count_next ls k p a ≡ None
no_letter ls k p a h e =
    let not_end : eqb a end ≡ false = ne_eqb a end (λ is. both_ways (is_some (letter a)) e (ap (λ (x : ℕ). is_some (letter x)) is)) in
    let not_among : among a ls ≡ false = ⊎_elim (λ t. absurd (both_ways (is_some (letter a)) e (among_letters a ls h t))) (λ f. f) (cases_Bool (among a ls)) in
    grind (arith, nat_tests)

stays : (ls : List ℕ) (k p a q : ℕ) → leb p k ≡ true → count_next ls k p a ≡ Some q → leb q k ≡ true
stays ls k p a q h e = grind (arith, nat_tests)

shorter : (ls : List ℕ) (k p a q : ℕ) → leb p k ≡ true → (a ≡ end → ⊥) → count_next ls k p a ≡ Some q → cond (leb q k) q 0 < cond (leb p k) p 0
shorter ls k p a q h apart e = grind (arith, nat_tests)

dead : (ls : List ℕ) (k p : ℕ) → leb p k ≡ false → Dead (counted ls k) p
dead ls k p h = record {
  no_next = λ a. cond-false _ _ _ h;
  no_owed = refl;
  no_span = cond-false _ _ _ h;
  no_lead = refl;
}

pub count_lawful : (ls : List ℕ) (k : ℕ) → each_a_letter ls ≡ true → k ≤ most_number → Lawful (counted ls k)
count_lawful ls k letters small = record {
  meant = record {
    starts = le-leb k k (omega arith);
    within = λ p h. omega (arith, leb-true p k h);
    dead = dead ls k;
    led = λ p. refl;
    lettered = λ p a e. no_letter ls k p a letters e;
  };
  laws = record {
    stays = stays ls k;
    ends = λ p h. ap is_some (cond-true _ _ _ h);
    at_most = λ p h. omega arith;
    leads = λ p h pos. absurd (omega arith);
    slow = λ p a q h i e. omega arith;
    shorter = shorter ls k;
    bounded = λ p h. grind (arith, nat_tests);
    few = omega arith;
  };
}
