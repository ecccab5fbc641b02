-- Lists of letters that lead from place to place.
use Rattle.std.proofs.Common.{◌≡◌, ℕ, true, false, List, [], ◌∷◌, ◌++◌, slice_index, is_some as option_is_some, Some, None, Option, sym, refl, ap, ◌∙◌, subst, inl, inr, arith}
use Rattle.std.proofs.lemmas.Bool.{true≢false, cases_lt}
use Rattle.std.proofs.lemmas.Bool.Decides.{nat_tests}
use Rattle.rules.specs.Lists.{and_then, follow_by}
use Rattle.rules.proofs.Follows.{is_some, none_some, then_some, by_join}
use Rattle.places.specs.Loops.{Loop, Reached, Live}
use Rattle.synthesis.specs.Marks.{Marked, if_marked, onward}

pub some_same : (p q : ℕ) → ◌≡◌ {A = Option ℕ} (Some p) (Some q) → p ≡ q
some_same p q e = cc

module _ (f : ℕ → ℕ → Option ℕ) where
  pub first_step : (p l : ℕ) (t : List ℕ) (q : ℕ) → follow_by f p (l ∷ t) ≡ Some q → (k : ℕ) × (f p l ≡ Some k) × (follow_by f k t ≡ Some q)
  first_step p l t q e = then_some (f p l) (λ x. follow_by f x t) q e

  pub step_on : (p l k : ℕ) (t : List ℕ) → f p l ≡ Some k → follow_by f p (l ∷ t) ≡ follow_by f k t
  step_on p l k t e = ap (λ o. and_then o (λ x. follow_by f x t)) e

  -- one letter more
  pub last_step : (p : ℕ) (t : List ℕ) (q l k : ℕ) → follow_by f p t ≡ Some q → f q l ≡ Some k → follow_by f p (t ++ l ∷ []) ≡ Some k
  last_step p t q l k e g = by_join f p t (l ∷ []) q e ∙ step_on q l k [] g

  pub last_back : (p : ℕ) (t : List ℕ) (q l k : ℕ) → follow_by f p t ≡ Some q → follow_by f p (t ++ l ∷ []) ≡ Some k → f q l ≡ Some k
  last_back p t q l k e g = let s = first_step q l [] k (sym (by_join f p t (l ∷ []) q e) ∙ g) in s.1 ∙ s.2

module _ (r : Loop) where
  pub live_before : (p l q : ℕ) → r.next p l ≡ Some q → Live r q → Live r p
  live_before p l q e v = (l ∷ v.0, step_on r.next p l q v.0 e ∙ v.1)

  -- a list that leads to a live place starts at one
  pub live_back : (u : List ℕ) (p q : ℕ) → follow_by r.next p u ≡ Some q → Live r q → Live r p
  live_back u p q e v = (u ++ v.0, by_join r.next p u v.0 q e ∙ v.1)

  pub reached_after : (p l q : ℕ) → r.next p l ≡ Some q → Reached r p → Reached r q
  reached_after p l q e t = (t.0 ++ l ∷ [], last_step r.next r.boundary t.0 p l q t.1 e)

none_marked : (m : List ℕ) (q : ℕ) → slice_index m q ≡ 0 → if_marked m (Some q) ≡ None
none_marked m q z = rw z refl

marked_is : (m : List ℕ) (q : ℕ) → Marked m q → if_marked m (Some q) ≡ Some q
marked_is m q k = grind (arith, nat_tests)

pub marked_some : (m : List ℕ) (o : Option ℕ) (q : ℕ) → if_marked m o ≡ Some q → (o ≡ Some q) × Marked m q
marked_some m None q e = absurd (none_some e)
marked_some m (Some k) q e = elim (cases_lt 0 (slice_index m k)) [
  | inl h ↦ let s = some_same k q (sym (marked_is m k h) ∙ e) in (ap Some s, subst (λ x. Marked m x) s h)
  | inr h ↦ absurd (none_some (sym (none_marked m k (omega arith)) ∙ e))
]

module _ (r : Loop) (m : List ℕ) (p l : ℕ) where
  pub onward_is : (q : ℕ) → r.next p l ≡ Some q → Marked m q → onward r m p l ≡ Some q
  onward_is q e k = ap (if_marked m) e ∙ marked_is m q k

  -- the letter leads to a marked place, or to none
  pub onward_found : option_is_some (onward r m p l) ≡ true → (q : ℕ) × (r.next p l ≡ Some q) × Marked m q
  onward_found e = let x = is_some (onward r m p l) e in let y = marked_some m (r.next p l) x.0 x.1 in (x.0, y.0, y.1)

  pub onward_lost : option_is_some (onward r m p l) ≡ false → (q : ℕ) → r.next p l ≡ Some q → Marked m q → ⊥
  onward_lost f q e k = true≢false (sym (ap option_is_some (onward_is q e k)) ∙ f)
