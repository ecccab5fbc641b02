-- The traces of a node by its kind: the relation `Trace` read backwards.
use Rattle.std.proofs.Common.{◌≡◌, ℕ, ◌⊎◌, List, [], ◌∷◌, ◌++◌, sym, refl, subst, inl, inr}
use Rattle.property.specs.Nodes.{Node, Nothing, Choice, Sequence, Both, Lap, All, node, Branch}
use Rattle.property.specs.Traces.{Trace, nothing, choice, sequence, both, all, no_lap, lap}

module _ (nodes : List Node) where
  abbrev pub Means : ℕ → List ℕ → Node → Type 0
  Means n t Nothing = t ≡ []
  Means n t (Choice bs) = (l : ℕ) × (m : ℕ) × (u : List ℕ) × (t ≡ l ∷ u) × Branch bs l m × Trace nodes m u
  Means n t (Sequence a b) = (s : List ℕ) × (u : List ℕ) × (t ≡ s ++ u) × Trace nodes a s × Trace nodes b u
  Means n t (Both a b) = Trace nodes a t × Trace nodes b t
  Means n t (Lap a) = (t ≡ []) ⊎ ((s : List ℕ) × (u : List ℕ) × (t ≡ s ++ u) × Trace nodes a s × Trace nodes n u)
  Means n t (All a b) = Trace nodes a t × Trace nodes b t

  pub means : {n : ℕ} {t : List ℕ} → Trace nodes n t → (x : Node) → node nodes n ≡ x → Means n t x
  means {n} {t} h x e = subst (λ y. Means n t y) e (go h)
    where
      go : {n : ℕ} {t : List ℕ} → Trace nodes n t → Means n t (node nodes n)
      go (nothing {n} i e) = subst (λ y. Means n [] y) (sym e) refl
      go (choice {n} {l} {m} {bs} {t} e b r) = subst (λ y. Means n (l ∷ t) y) (sym e) (l, m, t, refl, b, r)
      go (sequence {n} {a} {b} {s} {t} e r q) = subst (λ y. Means n (s ++ t) y) (sym e) (s, t, refl, r, q)
      go (both {n} {a} {b} {t} e r q) = subst (λ y. Means n t y) (sym e) (r, q)
      go (all {n} {a} {b} {t} e r q) = subst (λ y. Means n t y) (sym e) (r, q)
      go (no_lap {n} e) = subst (λ y. Means n [] y) (sym e) (inl refl)
      go (lap {n} {a} {s} {t} e r q) = subst (λ y. Means n (s ++ t) y) (sym e) (inr (s, t, refl, r, q))
