-- Marks: one more, a pass over all places, and that a closed and sound marking is exact.
use Rattle.std.proofs.Common.{◌≡◌, ℕ, zero, suc, ◌+◌, ◌<◌, ◌≤◌, Bool, true, false, ◌⊎◌, List, [], ◌∷◌, length, get_or, is_some, sym, set, replicate, Some, refl, ap, ◌∙◌, inl, inr, arith, length-set, get_or-set_other, get_or-set_same, below_more}
use Rattle.std.proofs.lemmas.Grind.{common_steps}
use Rattle.std.specs.List.{list_any}
use lib.ListN.{length-replicate, get_or-replicate}
use Rattle.std.proofs.lemmas.Bool.{cases_eq, true≢false}
use Rattle.rules.specs.Lists.{follow_by}
use Rattle.places.specs.Loops.{Loop, Fair}
use Rattle.letters.specs.Alphabets.{among}
use Rattle.synthesis.proofs.Letters.{among_at}
use Rattle.synthesis.specs.Marks.{Marked, zeros, onward, Into, Marking, Exact}
use Rattle.synthesis.specs.Table.{AllAre}
use Rattle.synthesis.proofs.Paths.{some_same, first_step, live_before, onward_lost}

pub zeros_set : (m : List ℕ) (p v : ℕ) → p < length m → get_or m p 0 ≡ 0 → 0 < v → zeros (set m p v) + 1 ≡ zeros m
unfolding zeros
zeros_set [] p v h e g = absurd (omega arith)
zeros_set (zero ∷ m) zero zero h e g = absurd (omega arith)
zeros_set (zero ∷ m) zero (suc v) h e g = omega arith
zeros_set (suc x ∷ m) zero v h e g = absurd (omega arith)
zeros_set (zero ∷ m) (suc p) v h e g = let i = zeros_set m p v (omega arith) e g in omega arith
zeros_set (suc x ∷ m) (suc p) v h e g = zeros_set m p v (omega arith) e g

-- a mark is within the list
pub marked_within : (m : List ℕ) (p : ℕ) → Marked m p → p < length m
marked_within [] p h = absurd (omega arith)
marked_within (x ∷ m) zero h = omega arith
marked_within (x ∷ m) (suc p) h = let i = marked_within m p h in omega arith

pub all_filled : (m : List ℕ) (n v : ℕ) → m ≡ replicate n v → AllAre v m
all_filled m n v e k h = rw e (get_or-replicate n k v 0 (let l = ap length e ∙ length-replicate {A = ℕ} n v in omega arith))

any_none : (test : ℕ → Bool) (ls : List ℕ) (j : ℕ) → list_any test ls ≡ false → j < length ls → test (get_or ls j 0) ≡ false
any_none test [] j e h = absurd (omega arith)
any_none test (l ∷ ls) zero e h = grind (arith, common_steps)
any_none test (l ∷ ls) (suc j) e h = any_none test ls j (grind (arith, common_steps)) (omega arith)

-- where no letter of the list leads to a marked place, none does
pub into_none : (r : Loop) (ls m : List ℕ) (p l q : ℕ) → list_any (λ k. is_some (onward r m p k)) ls ≡ false → among l ls ≡ true → r.next p l ≡ Some q → Marked m q → ⊥
into_none r ls m p l q e a =
    let j = among_at l ls a in
    onward_lost r m p l (ap (λ k. is_some (onward r m p k)) (sym j.2) ∙ any_none (λ k. is_some (onward r m p k)) ls j.0 e j.1) q

-- marks after a further mark
pub marked_set : (m : List ℕ) (p v q : ℕ) → Marked (set m p v) q → (q ≡ p) ⊎ Marked m q
marked_set m p v q h = elim (cases_eq q p) [ inl e ↦ inl e | inr n ↦ inr (rw (get_or-set_other m p q v 0 n) at h) ]

pub set_marked : (m : List ℕ) (p v q : ℕ) → p < length m → 0 < v → Marked m q → Marked (set m p v) q
set_marked m p v q h g k = elim (cases_eq q p) [ inl e ↦ rw (e, get_or-set_same m p v 0 h) g | inr n ↦ rw (get_or-set_other m p q v 0 n) k ]

module _ (r : Loop) (m : List ℕ) (marking : Marking r m) where
  pub marking_more : (p : ℕ) → p < r.size → Into r m p → Marking r (set m p 1)
  marking_more p h i = record {
    long = length-set m p 1 ∙ marking.long;
    sound = λ q k. elim (marked_set m p 1 q k) [ inl e ↦ rw e (live_before r p i.0 i.1 i.2 (marking.sound i.1 i.3)) | inr n ↦ marking.sound q n ];
    start = set_marked m p 1 r.boundary (omega (arith, marking.long)) (omega arith) marking.start;
  }

  complete : (letters : List ℕ) → Fair r letters → ((p : ℕ) → p < r.size → Into r m p → Marked m p) → (u : List ℕ) (p : ℕ) → p < r.size → follow_by r.next p u ≡ Some r.boundary → Marked m p
  complete letters fair closed [] p h e = rw (some_same p r.boundary e) marking.start
  complete letters fair closed (l ∷ u) p h e =
      let s = first_step r.next p l u r.boundary e in
      closed p h (l, s.0, s.1, complete letters fair closed u s.0 (fair.stays p l s.0 h s.1) s.2)

  pub exact : (letters : List ℕ) → Fair r letters → ((p : ℕ) → p < r.size → Into r m p → Marked m p) → Exact r m
  exact letters fair closed = record { long = marking.long; sound = marking.sound; complete = λ p h v. complete letters fair closed v.0 p h v.1 }

-- the boundary alone
pub first_mark : (r : Loop) (m : List ℕ) → length m ≡ r.size → r.boundary < r.size → AllAre 0 m → Marking r (set m r.boundary 1)
first_mark r m long h none_marked = record {
  long = length-set m r.boundary 1 ∙ long;
  sound = λ p k. elim (marked_set m r.boundary 1 p k) [ inl e ↦ rw e ([], refl) | inr n ↦ absurd (omega (arith, none_marked p (marked_within m p n))) ];
  start = rw (get_or-set_same m r.boundary 1 0 (omega (arith, long))) (omega arith);
}

-- a pass that has come to the place i
pub record Passing (r : Loop) (old m : List ℕ) (added : Bool) (i : ℕ) : Type 0 where
  pub marking : Marking r m
  pub fewer : zeros m ≤ zeros old
  pub less : added ≡ true → zeros m < zeros old
  pub closed : added ≡ false → (p : ℕ) → p < i → Into r m p → Marked m p

pub passing_skip : (r : Loop) (old m : List ℕ) (added : Bool) (i : ℕ) → Passing r old m added i → (Into r m i → Marked m i) → Passing r old m added (i + 1)
passing_skip r old m added i a here = record { marking = a.marking; fewer = a.fewer; less = a.less; closed = λ e. below_more _ _ (a.closed e) here }

pub passing_mark : (r : Loop) (old m : List ℕ) (added : Bool) (i : ℕ) → Passing r old m added i → i < r.size → get_or m i 0 ≡ 0 → Into r m i → Passing r old (set m i 1) true (i + 1)
passing_mark r old m added i a h e into =
    let z = zeros_set m i 1 (omega (arith, a.marking.long)) e (omega arith) in
    record { marking = marking_more r m a.marking i h into; fewer = omega (arith, a.fewer); less = λ t. omega (arith, a.fewer); closed = λ t. absurd (true≢false t) }
