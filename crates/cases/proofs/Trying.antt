-- Tests of letters and places, one after the other, and what they tell.
use Rattle.std.proofs.Common.{◌≡◌, ℕ, zero, suc, ◌<◌, ◌≤◌, min, max, Bool, true, false, cond, not, ◌&&◌, ◌||◌, ◌⊎◌, eqb, List, [], ◌∷◌, Some, None, Option, refl, sym, ap, ◌∙◌, subst, inl, inr, arith}
use Rattle.std.proofs.lemmas.Bool.{false≢true, cases_lt, and_parts, or_cases, not_from_true, eqb-true}
use Rattle.letters.specs.Alphabets.{among}
use Rattle.rules.proofs.Follows.{none_some}
use Rattle.synthesis.proofs.Paths.{some_same}

-- some letter passes
abbrev pub some_letter : (ℕ → Bool) → List ℕ → Bool
some_letter test [] = false
some_letter test (l ∷ ls) = test l || some_letter test ls

-- each letter passes
abbrev pub each_letter : (ℕ → Bool) → List ℕ → Bool
each_letter test [] = true
each_letter test (l ∷ ls) = test l && each_letter test ls

-- each of the first n places passes
abbrev pub each_place : (ℕ → Bool) → ℕ → Bool
each_place test zero = true
each_place test (suc n) = test n && each_place test n

-- there is a following place, and it passes
abbrev pub leads_to : (ℕ → Bool) → Option ℕ → Bool
leads_to test None = false
leads_to test (Some q) = test q

pub some_in : (test : ℕ → Bool) (ls : List ℕ) → some_letter test ls ≡ true → (l : ℕ) × (test l ≡ true)
some_in test [] e = absurd (false≢true e)
some_in test (l ∷ ls) e = elim (or_cases (test l) (some_letter test ls) e) [ inl h ↦ (l, h) | inr h ↦ some_in test ls h ]

pub each_at : (test : ℕ → Bool) (ls : List ℕ) (l : ℕ) → each_letter test ls ≡ true → among l ls ≡ true → test l ≡ true
each_at test [] l e a = absurd (false≢true a)
each_at test (k ∷ ls) l e a =
    let parts = and_parts (test k) (each_letter test ls) e in
    elim (or_cases (eqb k l) (among l ls) a) [
      | inl h ↦ subst (λ x. test x ≡ true) (eqb-true k l h) parts.0
      | inr h ↦ each_at test ls l parts.1 h
    ]

pub place_at : (test : ℕ → Bool) (n p : ℕ) → each_place test n ≡ true → p < n → test p ≡ true
place_at test zero p e h = absurd (omega arith)
place_at test (suc n) p e h =
    let parts = and_parts (test n) (each_place test n) e in
    elim (cases_lt p n) [
      | inl k ↦ place_at test n p parts.1 k
      | inr k ↦ let same : n ≡ p = omega arith in subst (λ x. test x ≡ true) same parts.0
    ]

pub leads_in : (test : ℕ → Bool) (o : Option ℕ) → leads_to test o ≡ true → (q : ℕ) × (o ≡ Some q) × (test q ≡ true)
leads_in test None e = absurd (false≢true e)
leads_in test (Some q) e = (q, refl, e)

pub leads_of : (test : ℕ → Bool) (o : Option ℕ) (q : ℕ) → o ≡ Some q → test q ≡ true → leads_to test o ≡ true
leads_of test o q e h = ap (leads_to test) e ∙ h

pub implied : (x y : Bool) → (not x || y) ≡ true → x ≡ true → y ≡ true
implied x y e h = elim (or_cases (not x) y e) [ inl n ↦ absurd (false≢true (sym (not_from_true x h) ∙ n)) | inr k ↦ k ]

-- the lesser of two numbers, where there are two
abbrev pub lesser : Option ℕ → Option ℕ → Option ℕ
lesser None o = o
lesser (Some a) None = Some a
lesser (Some a) (Some b) = Some (min a b)

-- the least that a letter gives
abbrev pub least_by : (ℕ → Option ℕ) → List ℕ → Option ℕ
least_by f [] = None
least_by f (l ∷ ls) = lesser (f l) (least_by f ls)

-- the most that a letter gives
abbrev pub most_by : (ℕ → ℕ) → List ℕ → ℕ
most_by f [] = 0
most_by f (l ∷ ls) = max (f l) (most_by f ls)

abbrev pub one_more : Option ℕ → Option ℕ
one_more None = None
one_more (Some k) = Some (suc k)

-- o gives k or less
abbrev pub AtMost : Option ℕ → ℕ → Type 0
AtMost o k = (j : ℕ) × (o ≡ Some j) × (j ≤ k)

lesser_is : (a b : Option ℕ) (k : ℕ) → lesser a b ≡ Some k → (a ≡ Some k) ⊎ (b ≡ Some k)
lesser_is None b k e = inr e
lesser_is (Some a) None k e = inl e
lesser_is (Some a) (Some b) k e =
    let m : min a b ≡ k = some_same _ _ e in
    elim (cases_lt a b) [
      | inl h ↦ let s : a ≡ k = omega arith in inl (ap Some s)
      | inr h ↦ let s : b ≡ k = omega arith in inr (ap Some s)
    ]

lesser_first : (a b : Option ℕ) (k : ℕ) → a ≡ Some k → AtMost (lesser a b) k
lesser_first None b k e = absurd (none_some e)
lesser_first (Some a) None k e = let s : a ≡ k = some_same _ _ e in (a, refl, omega arith)
lesser_first (Some a) (Some b) k e = let s : a ≡ k = some_same _ _ e in (min a b, refl, omega arith)

lesser_second : (a b : Option ℕ) (k : ℕ) → AtMost b k → AtMost (lesser a b) k
lesser_second None b k x = x
lesser_second (Some a) None k x = absurd (none_some x.1)
lesser_second (Some a) (Some b) k x = let s : b ≡ x.0 = some_same _ _ x.1 in (min a b, refl, omega (arith, x.2))

pub least_in : (f : ℕ → Option ℕ) (ls : List ℕ) (k : ℕ) → least_by f ls ≡ Some k → (l : ℕ) × (f l ≡ Some k)
least_in f [] k e = absurd (none_some e)
least_in f (l ∷ ls) k e = elim (lesser_is (f l) (least_by f ls) k e) [ inl h ↦ (l, h) | inr h ↦ least_in f ls k h ]

pub least_at : (f : ℕ → Option ℕ) (ls : List ℕ) (l k : ℕ) → among l ls ≡ true → f l ≡ Some k → AtMost (least_by f ls) k
least_at f [] l k a e = absurd (false≢true a)
least_at f (x ∷ ls) l k a e = elim (or_cases (eqb x l) (among l ls) a) [
  | inl h ↦ lesser_first (f x) (least_by f ls) k (ap f (eqb-true x l h) ∙ e)
  | inr h ↦ lesser_second (f x) (least_by f ls) k (least_at f ls l k h e)
]

pub most_in : (f : ℕ → ℕ) (ls : List ℕ) → 0 < most_by f ls → (l : ℕ) × (f l ≡ most_by f ls)
most_in f [] h = absurd (omega arith)
most_in f (l ∷ ls) h = elim (cases_lt (most_by f ls) (f l)) [
  | inl k ↦ (l, omega arith)
  | inr k ↦ let x = most_in f ls (omega arith) in (x.0, omega (arith, x.1))
]

pub most_at : (f : ℕ → ℕ) (ls : List ℕ) (l : ℕ) → among l ls ≡ true → f l ≤ most_by f ls
most_at f [] l a = absurd (false≢true a)
most_at f (x ∷ ls) l a = elim (or_cases (eqb x l) (among l ls) a) [
  | inl h ↦ omega (arith, ap f (eqb-true x l h))
  | inr h ↦ omega (arith, most_at f ls l h)
]

pub more_in : (o : Option ℕ) (k : ℕ) → one_more o ≡ Some k → (j : ℕ) × (o ≡ Some j) × (k ≡ suc j)
more_in None k e = absurd (none_some e)
more_in (Some j) k e = (j, refl, sym (some_same _ _ e))
