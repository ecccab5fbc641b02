-- The walk of a Both goes through two walks at once.
use Rattle.std.proofs.Common.{◌≡◌, ℕ, suc, ◌+◌, ◌*◌, ◌/◌, ◌%◌, ◌<◌, ◌≤◌, ◌⊎◌, List, [], ◌∷◌, sym, refl, ap, ◌∙◌, ap₂, inl, inr, mul-le-mul_right, mod-lt, eq-zero-or-pos, mul-zero, arith}
use native.Mathlib.Nat.{div-add-mod}
use lib.Arith.{digits_lt, digits_div, digits_mod}
use Rattle.std.proofs.lemmas.Bool.{cases_lt}
use Rattle.places.specs.Walks.{Outcome, Dead, Done, At, Walk, run, both_walk, meet}
use Rattle.places.proofs.Falling.{Below, Falls, below_more, dead≢done, at≢done, run_dead}

meet_below : (i j k : ℕ) (o r : Outcome) → Below i o → Below j r → Below (i * k + j) (meet k o r)
meet_below i j k Dead r h g = tt
meet_below i j k Done Dead h g = tt
meet_below i j k Done Done h g = tt
meet_below i j k Done (At q) h g = tt
meet_below i j k (At p) Dead h g = tt
meet_below i j k (At p) Done h g = tt
meet_below i j k (At p) (At q) h g = let m : suc p * k ≤ i * k = mul-le-mul_right k h in omega arith

meet_starts : (i k : ℕ) (o r : Outcome) → Below i o → Below k r → Below (i * k) (meet k o r)
meet_starts i k Dead r h g = tt
meet_starts i k Done Dead h g = tt
meet_starts i k Done Done h g = tt
meet_starts i k Done (At q) h g = tt
meet_starts i k (At p) Dead h g = tt
meet_starts i k (At p) Done h g = tt
meet_starts i k (At p) (At q) h g = digits_lt h g

-- the parts of a place below i * k
pub div_below : (p i k : ℕ) → p < i * k → (p / k < i) × (p % k < k)
div_below p i k h = go (eq-zero-or-pos k)
  where
    go : (k ≡ 0) ⊎ (0 < k) → (p / k < i) × (p % k < k)
    go (inl z) = let e : i * k ≡ 0 = ap (λ x. i * x) z ∙ mul-zero i in absurd (omega arith)
    go (inr g) = elim (cases_lt (p / k) i) [ inl q ↦ (q, mod-lt p g) | inr q ↦ absurd (omega (arith, mul-le-mul_right k q, div-add-mod p k)) ]

module _ (a b : Walk) where
  step_both : (p q l : ℕ) → q < b.size → (both_walk a b).step (p * b.size + q) l ≡ meet b.size (a.step p l) (b.step q l)
  step_both p q l h = ap₂ (λ x y. meet b.size (a.step x l) (b.step y l)) (digits_div p h) (digits_mod p h)

module _ (a b : Walk) (fb : Falls b) where
  pub both_ends : (o r : Outcome) (t : List ℕ) → Below b.size r → run (both_walk a b).step (meet b.size o r) t ≡ Done → (run a.step o t ≡ Done) × (run b.step r t ≡ Done)
  both_ends Dead r t h e = absurd (dead≢done (sym (run_dead _ t) ∙ e))
  both_ends Done Dead t h e = absurd (dead≢done (sym (run_dead _ t) ∙ e))
  both_ends Done (At q) t h e = absurd (dead≢done (sym (run_dead _ t) ∙ e))
  both_ends (At p) Dead t h e = absurd (dead≢done (sym (run_dead _ t) ∙ e))
  both_ends (At p) Done t h e = absurd (dead≢done (sym (run_dead _ t) ∙ e))
  both_ends Done Done [] h e = (refl, refl)
  both_ends Done Done (l ∷ t) h e = absurd (dead≢done e)
  both_ends (At p) (At q) [] h e = absurd (at≢done _ e)
  both_ends (At p) (At q) (l ∷ t) h e = both_ends (a.step p l) (b.step q l) t (below_more q b.size _ (omega arith) (fb.falls q l h)) (ap (λ o. run (both_walk a b).step o t) (sym (step_both a b p q l h)) ∙ e)

  pub ends_both : (o r : Outcome) (t : List ℕ) → Below b.size r → run a.step o t ≡ Done → run b.step r t ≡ Done → run (both_walk a b).step (meet b.size o r) t ≡ Done
  ends_both Dead r t h e g = absurd (dead≢done (sym (run_dead _ t) ∙ e))
  ends_both Done Dead t h e g = absurd (dead≢done (sym (run_dead _ t) ∙ g))
  ends_both Done (At q) [] h e g = absurd (at≢done _ g)
  ends_both Done (At q) (l ∷ t) h e g = absurd (dead≢done e)
  ends_both (At p) Dead t h e g = absurd (dead≢done (sym (run_dead _ t) ∙ g))
  ends_both (At p) Done [] h e g = absurd (at≢done _ e)
  ends_both (At p) Done (l ∷ t) h e g = absurd (dead≢done g)
  ends_both Done Done [] h e g = refl
  ends_both Done Done (l ∷ t) h e g = absurd (dead≢done e)
  ends_both (At p) (At q) [] h e g = absurd (at≢done _ e)
  ends_both (At p) (At q) (l ∷ t) h e g = ap (λ o. run (both_walk a b).step o t) (step_both a b p q l h) ∙ ends_both (a.step p l) (b.step q l) t (below_more q b.size _ (omega arith) (fb.falls q l h)) e g

module _ (a b : Walk) (fa : Falls a) (fb : Falls b) where
  pub both_falls : Falls (both_walk a b)
  both_falls = record { starts = meet_starts a.size b.size _ _ fa.starts fb.starts; falls = go }
    where
      go : (p l : ℕ) → p < a.size * b.size → Below p ((both_walk a b).step p l)
      go p l h =
          let d = div_below p a.size b.size h in
          let r = meet_below (p / b.size) (p % b.size) b.size _ _ (fa.falls (p / b.size) l d.0) (fb.falls (p % b.size) l d.1) in
          let e : (p / b.size) * b.size + p % b.size ≡ p = omega (arith, div-add-mod p b.size) in
          below_more _ p _ (omega arith) r
