-- A walk whose every step leads to a lower place.
use Rattle.std.proofs.Common.{◌≡◌, ℕ, ◌<◌, ◌≤◌, List, [], ◌∷◌, ◌++◌, sym, refl, arith}
use Rattle.places.specs.Walks.{Outcome, Dead, Done, At, Walk, run}

abbrev pub Below : ℕ → Outcome → Type 0
Below k Dead = Unit {0}
Below k Done = Unit {0}
Below k (At p) = p < k

pub record Falls (w : Walk) : Type 0 where
  pub starts : Below w.size w.start
  pub falls : (p l : ℕ) → p < w.size → Below p (w.step p l)

pub below_more : (j k : ℕ) (o : Outcome) → j ≤ k → Below j o → Below k o
below_more j k Dead h b = tt
below_more j k Done h b = tt
below_more j k (At p) h b = omega arith

pub dead≢done : Dead ≡ Done → ⊥
dead≢done e = let z : ◌≡◌ {A = ℕ} 0 1 = cc in omega arith

pub at≢done : (p : ℕ) → At p ≡ Done → ⊥
at≢done p e = let z : ◌≡◌ {A = ℕ} 0 1 = cc in omega arith

pub run_dead : (step : ℕ → ℕ → Outcome) (t : List ℕ) → run step Dead t ≡ Dead
run_dead step [] = refl
run_dead step (l ∷ t) = refl

pub run-++ : (step : ℕ → ℕ → Outcome) (o : Outcome) (s t : List ℕ) → run step o (s ++ t) ≡ run step (run step o s) t
run-++ step o [] t = refl
run-++ step Dead (l ∷ s) t = sym (run_dead step t)
run-++ step Done (l ∷ s) t = sym (run_dead step t)
run-++ step (At p) (l ∷ s) t = run-++ step (step p l) s t
