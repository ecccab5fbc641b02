-- A trace of a closing node ends with the end: so inside a lap only the end leads to the boundary, and every other letter to a lower place.
use Rattle.std.proofs.Common.{◌≡◌, ℕ, ◌<◌, Bool, true, false, eqb, ◌⊎◌, List, [], ◌∷◌, ◌++◌, Some, sym, refl, ap, ◌∙◌, ap₂, inl, inr, append_assoc, arith}
use Rattle.std.proofs.lemmas.Bool.{and_parts, or_cases, eqb-true, false≢true}
use Rattle.letters.specs.Letters.{end}
use Rattle.property.specs.Closing.{each_closes, closes, closes_by}
use Rattle.property.specs.Nodes.{Node, Nothing, Choice, Sequence, Both, Lap, All, node, Branch, is_nothing}
use Rattle.property.specs.Numbered.{before}
use Rattle.property.specs.Traces.{Trace}
use Rattle.property.proofs.Families.{before_true}
use Rattle.property.proofs.Numbering.{from_earlier}
use Rattle.rules.specs.Lists.{follow_by}
use Rattle.rules.proofs.Follows.{none_some, then_some}
use Rattle.places.specs.Laps.{again}
use Rattle.places.specs.Walks.{Outcome, Dead, Done, At, Walk, run}
use Rattle.places.proofs.ByKind.{means}
use Rattle.places.proofs.Equations.{closes_is}
use Rattle.places.proofs.Falling.{Below, run-++}
use Rattle.places.proofs.Laps.{lap_next}
use Rattle.places.proofs.Traces.{Tells}

nothing_is : (x : Node) → is_nothing x ≡ true → x ≡ Nothing
nothing_is Nothing e = refl
nothing_is (Choice bs) e = cc
nothing_is (Sequence a b) e = cc
nothing_is (Both a b) e = cc
nothing_is (Lap a) e = cc
nothing_is (All a b) e = cc

-- t ends with the end
abbrev pub Ended : List ℕ → Type 0
Ended t = (s : List ℕ) × (t ≡ s ++ end ∷ [])

ended_more : (s t : List ℕ) → Ended t → Ended (s ++ t)
ended_more s t e = (s ++ e.0, ap (λ x. s ++ x) e.1 ∙ sym (append_assoc s e.0 (end ∷ [])))

module _ (nodes : List Node) where
  branch_ends : (closing : ℕ → Bool) (bs : List (ℕ × ℕ)) (l m : ℕ) → each_closes nodes closing bs ≡ true → Branch bs l m → (closing m ≡ true) ⊎ ((l ≡ end) × (node nodes m ≡ Nothing))
  unfolding each_closes
  branch_ends closing [] l m e b = absurd b
  branch_ends closing (c ∷ bs) l m e (inl b) = elim (or_cases (closing c.1) _ (and_parts _ _ e).0) [
    | inl h ↦ inl (ap closing (sym b.1) ∙ h)
    | inr h ↦
        let both = and_parts (eqb c.0 end) (is_nothing (node nodes c.1)) h in
        inr (sym b.0 ∙ eqb-true c.0 end both.0, ap (λ x. node nodes x) (sym b.1) ∙ nothing_is _ both.1)
  ]
  branch_ends closing (c ∷ bs) l m e (inr b) = branch_ends closing bs l m (and_parts _ _ e).1 b

  ends_by : (closing : ℕ → Bool) → ((m : ℕ) (u : List ℕ) → closing m ≡ true → Trace nodes m u → Ended u)
      → (n : ℕ) (x : Node) → node nodes n ≡ x → closes_by nodes closing x ≡ true → (t : List ℕ) → Trace nodes n t → Ended t
  ends_by closing each n Nothing q c t h = absurd (false≢true c)
  ends_by closing each n (Choice bs) q c t h =
      let r = means nodes h (Choice bs) q in
      elim (branch_ends closing bs r.0 r.1 c r.4) [
        | inl g ↦ let k = each r.1 r.2 g r.5 in (r.0 ∷ k.0, r.3 ∙ ap {B = List ℕ} (λ x. r.0 ∷ x) k.1)
        | inr g ↦ ([], r.3 ∙ ap₂ {C = List ℕ} (λ x y. x ∷ y) g.0 (means nodes r.5 Nothing g.1))
      ]
  ends_by closing each n (Sequence a b) q c t h = let r = means nodes h (Sequence a b) q in let k = ended_more r.0 r.1 (each b r.1 c r.4) in (k.0, r.2 ∙ k.1)
  ends_by closing each n (Both a b) q c t h = let r = means nodes h (Both a b) q in elim (or_cases (closing a) (closing b) c) [ inl g ↦ each a t g r.0 | inr g ↦ each b t g r.1 ]
  ends_by closing each n (Lap a) q c t h = absurd (false≢true c)
  ends_by closing each n (All a b) q c t h = absurd (false≢true c)

  pub closing_ends : (n : ℕ) → closes nodes n ≡ true → (t : List ℕ) → Trace nodes n t → Ended t
  closing_ends = from_earlier (λ n. closes nodes n ≡ true → (t : List ℕ) → Trace nodes n t → Ended t) step
    where
      step : (n : ℕ) → ((m : ℕ) → m < n → closes nodes m ≡ true → (t : List ℕ) → Trace nodes m t → Ended t) → closes nodes n ≡ true → (t : List ℕ) → Trace nodes n t → Ended t
      step n ih c =
          ends_by (before false n (λ m. closes nodes m)) (λ m u g r. let b = before_true n (λ m. closes nodes m) m g in ih m b.0 b.1 u r)
          n (node nodes n) refl (sym (closes_is nodes n) ∙ c)

last_same : (s u : List ℕ) (k l : ℕ) → s ++ k ∷ [] ≡ u ++ l ∷ [] → k ≡ l
last_same [] [] k l e = cc
last_same [] (y ∷ []) k l e = cc
last_same [] (y ∷ z ∷ u) k l e = cc
last_same (x ∷ []) [] k l e = cc
last_same (x ∷ y ∷ s) [] k l e = cc
last_same (x ∷ s) (y ∷ u) k l e = let h : s ++ k ∷ [] ≡ u ++ l ∷ [] = cc in last_same s u k l h

module _ (nodes : List Node) (w : Walk) (a : ℕ) (tells : Tells nodes w a) (closing : closes nodes a ≡ true) (s : ℕ) (at_s : w.start ≡ At s) where
  -- a place of the lap: some list leads to it from s, inside the lap
  abbrev pub Inside : ℕ → Type 0
  Inside p = (u : List ℕ) × (run w.step (At s) u ≡ At p)

  only_end_ends : (p l : ℕ) → Inside p → w.step p l ≡ Done → l ≡ end
  only_end_ends p l i e =
      let r : run w.step w.start (i.0 ++ l ∷ []) ≡ Done = ap (λ o. run w.step o (i.0 ++ l ∷ [])) at_s ∙ run-++ w.step (At s) i.0 (l ∷ []) ∙ ap (λ o. run w.step o (l ∷ [])) i.1 ∙ e in
      let g = closing_ends nodes a closing _ (tells.trace _ r) in
      last_same i.0 g.0 l end g.1

  inside_step : (p l q : ℕ) → Inside p → (o : Outcome) → w.step p l ≡ o → again s o ≡ Some q → Inside q
  inside_step p l q i Dead e g = absurd (none_some g)
  inside_step p l q i Done e g = let z : s ≡ q = cc in ([], ap At z)
  inside_step p l q i (At r) e g = let z : r ≡ q = cc in (i.0 ++ l ∷ [], run-++ w.step (At s) i.0 (l ∷ []) ∙ ap (λ o. run w.step o (l ∷ [])) i.1 ∙ e ∙ ap At z)

  pub stays_inside : (t : List ℕ) (p : ℕ) → Inside p → (q : ℕ) → follow_by (lap_next w s) p t ≡ Some q → Inside q
  stays_inside [] p i q e = let z : p ≡ q = cc in rw z at i
  stays_inside (l ∷ t) p i q e =
      let k = then_some (lap_next w s p l) (λ x. follow_by (lap_next w s) x t) q e in
      stays_inside t k.0 (inside_step p l k.0 i (w.step p l) refl k.1) q k.2

  -- any other letter than the end leads to a lower place
  pub lower : (p l q : ℕ) → p < w.size → Inside p → (l ≡ end → ⊥) → (o : Outcome) → w.step p l ≡ o → again s o ≡ Some q → q < p
  lower p l q h i n Dead e g = absurd (none_some g)
  lower p l q h i n Done e g = absurd (n (only_end_ends p l i e))
  lower p l q h i n (At r) e g = let b : Below p (At r) = rw e at (tells.falling.falls p l h) in let z : r ≡ q = cc in omega arith
