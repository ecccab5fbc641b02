-- The best of what a function gives of the items of a list, as the least or the greatest.
use Rattle.std.proofs.Common.{◌≡◌, ℕ, zero, suc, ◌<◌, ◌≤◌, ◌⊎◌, min, max, fold, List, [], ◌∷◌, length, get_or, MatchOption, Some, None, Option, sym, refl, ap, ◌∙◌, subst, inl, inr, arith}
use Rattle.std.specs.List.{filter_map, cons_option, reduce}
use Rattle.std.proofs.lemmas.Bool.{cases_lt}
use Rattle.rules.proofs.Follows.{none_some}
use Rattle.synthesis.proofs.Paths.{some_same}

-- some item gives v, and no item a better one; or no item gives any
abbrev pub Best : (ℕ → ℕ → Type 0) → (ℕ → Option ℕ) → List ℕ → Option ℕ → Type 0
Best R h xs o =
    MatchOption o
    ((i : ℕ) → i < length xs → h (get_or xs i 0) ≡ None)
    (λ v. ((i : ℕ) × (i < length xs) × (h (get_or xs i 0) ≡ Some v)) × ((i w : ℕ) → i < length xs → h (get_or xs i 0) ≡ Some w → R v w))

-- f answers the better of two
record Picks (f : ℕ → ℕ → ℕ) (R : ℕ → ℕ → Type 0) : Type 0 where
  pub itself : (a : ℕ) → R a a
  pub trans : (a b c : ℕ) → R a b → R b c → R a c
  pub first : (a b : ℕ) → R (f a b) a
  pub second : (a b : ℕ) → R (f a b) b
  pub either : (a b : ℕ) → (f a b ≡ a) ⊎ (f a b ≡ b)

module _ (f : ℕ → ℕ → ℕ) (R : ℕ → ℕ → Type 0) (p : Picks f R) (h : ℕ → Option ℕ) where
  -- the best of x and what the items give
  record Picked (x : ℕ) (xs : List ℕ) (v : ℕ) : Type 0 where
    pub from : (v ≡ x) ⊎ ((i : ℕ) × (i < length xs) × (h (get_or xs i 0) ≡ Some v))
    pub first : R v x
    pub all : (i w : ℕ) → i < length xs → h (get_or xs i 0) ≡ Some w → R v w

  none_more : (x y : ℕ) (xs : List ℕ) (v : ℕ) → h y ≡ None → Picked x xs v → Picked x (y ∷ xs) v
  none_more x y xs v e a = record {
    from = elim a.from [ inl s ↦ inl s | inr s ↦ inr (suc s.0, omega (arith, s.1), s.2) ];
    first = a.first;
    all = all;
  }
    where
      all : (i w : ℕ) → i < length (y ∷ xs) → h (get_or (y ∷ xs) i 0) ≡ Some w → R v w
      all zero w k g = absurd (none_some (sym e ∙ g))
      all (suc i) w k g = a.all i w (omega arith) g

  one_more : (x y z : ℕ) (xs : List ℕ) (v : ℕ) → h y ≡ Some z → Picked (f x z) xs v → Picked x (y ∷ xs) v
  one_more x y z xs v e a = record {
    from = elim a.from [
      | inl s ↦ elim (p.either x z) [ inl t ↦ inl (s ∙ t) | inr t ↦ inr (0, omega arith, e ∙ ap Some (sym (s ∙ t))) ]
      | inr s ↦ inr (suc s.0, omega (arith, s.1), s.2)
    ];
    first = p.trans v (f x z) x a.first (p.first x z);
    all = all;
  }
    where
      all : (i w : ℕ) → i < length (y ∷ xs) → h (get_or (y ∷ xs) i 0) ≡ Some w → R v w
      all zero w k g = subst (R v) (some_same z w (sym e ∙ g)) (p.trans v (f x z) z a.first (p.second x z))
      all (suc i) w k g = a.all i w (omega arith) g

  picked_on : (x y : ℕ) (xs : List ℕ) (o : Option ℕ) → h y ≡ o → ((z : ℕ) → Picked z xs (fold f z (filter_map h xs))) → Picked x (y ∷ xs) (fold f x (cons_option o (filter_map h xs)))
  picked_on x y xs None e rest = none_more x y xs _ e (rest x)
  picked_on x y xs (Some z) e rest = one_more x y z xs _ e (rest (f x z))

  picked : (xs : List ℕ) (x : ℕ) → Picked x xs (fold f x (filter_map h xs))
  picked [] x = record { from = inl refl; first = p.itself x; all = λ i w k g. absurd (omega arith) }
  picked (y ∷ xs) x = picked_on x y xs (h y) refl (picked xs)

  skipped : (y : ℕ) (xs : List ℕ) (o : Option ℕ) → h y ≡ None → Best R h xs o → Best R h (y ∷ xs) o
  skipped y xs None e none = each
    where
      each : (i : ℕ) → i < length (y ∷ xs) → h (get_or (y ∷ xs) i 0) ≡ None
      each zero k = e
      each (suc i) k = none i (omega arith)
  skipped y xs (Some v) e b = ((suc b.0.0, omega (arith, b.0.1), b.0.2), each)
    where
      each : (i w : ℕ) → i < length (y ∷ xs) → h (get_or (y ∷ xs) i 0) ≡ Some w → R v w
      each zero w k g = absurd (none_some (sym e ∙ g))
      each (suc i) w k g = b.1 i w (omega arith) g

  found : (y z : ℕ) (xs : List ℕ) (v : ℕ) → h y ≡ Some z → Picked z xs v → Best R h (y ∷ xs) (Some v)
  found y z xs v e a = (elim a.from [ inl s ↦ (0, omega arith, e ∙ ap Some (sym s)) | inr s ↦ (suc s.0, omega (arith, s.1), s.2) ], each)
    where
      each : (i w : ℕ) → i < length (y ∷ xs) → h (get_or (y ∷ xs) i 0) ≡ Some w → R v w
      each zero w k g = subst (R v) (some_same z w (sym e ∙ g)) a.first
      each (suc i) w k g = a.all i w (omega arith) g

  best_on : (y : ℕ) (xs : List ℕ) (o : Option ℕ) → h y ≡ o → Best R h xs (reduce f (filter_map h xs)) → Best R h (y ∷ xs) (reduce f (cons_option o (filter_map h xs)))
  best_on y xs None e rest = skipped y xs (reduce f (filter_map h xs)) e rest
  best_on y xs (Some z) e rest = found y z xs (fold f z (filter_map h xs)) e (picked xs z)

  best : (xs : List ℕ) → Best R h xs (reduce f (filter_map h xs))
  best [] = λ i k. absurd (omega arith)
  best (y ∷ xs) = best_on y xs (h y) refl (best xs)

least : Picks min (λ a b. a ≤ b)
least = record {
  itself = λ a. omega arith;
  trans = λ a b c x y. omega arith;
  first = λ a b. omega arith;
  second = λ a b. omega arith;
  either = λ a b. elim (cases_lt a b) [ inl h ↦ inl (omega arith) | inr h ↦ inr (omega arith) ];
}

greatest : Picks max (λ a b. b ≤ a)
greatest = record {
  itself = λ a. omega arith;
  trans = λ a b c x y. omega arith;
  first = λ a b. omega arith;
  second = λ a b. omega arith;
  either = λ a b. elim (cases_lt a b) [ inl h ↦ inr (omega arith) | inr h ↦ inl (omega arith) ];
}

pub best_min : (h : ℕ → Option ℕ) (xs : List ℕ) (o : Option ℕ) → o ≡ reduce min (filter_map h xs) → Best (λ a b. a ≤ b) h xs o
best_min h xs o e = subst (Best (λ a b. a ≤ b) h xs) (sym e) (best min (λ a b. a ≤ b) least h xs)

pub best_max : (h : ℕ → Option ℕ) (xs : List ℕ) (o : Option ℕ) → o ≡ reduce max (filter_map h xs) → Best (λ a b. b ≤ a) h xs o
best_max h xs o e = subst (Best (λ a b. b ≤ a) h xs) (sym e) (best max (λ a b. b ≤ a) greatest h xs)
