-- The walk of a Sequence goes through the first's places, then the second's.
use Rattle.std.proofs.Common.{◌≡◌, ℕ, ◌+◌, ◌-◌, ◌<◌, ◌≤◌, ltb, ◌⊎◌, List, [], ◌∷◌, ◌++◌, sym, refl, ap, ◌∙◌, subst, inl, inr, arith}
use Rattle.std.proofs.lemmas.Bool.{cases_lt, cond-true, cond-false, lt-ltb, le-ltb}
use Rattle.places.specs.Walks.{Outcome, Dead, Done, At, Walk, run, sequence_walk, then_second}
use Rattle.places.proofs.Falling.{Below, Falls, below_more, dead≢done, at≢done, run_dead}

-- t is a trace of the first walk, from o, joined to one of the second
abbrev pub Split : Walk → Walk → Outcome → List ℕ → Type 0
Split a b o t = (s : List ℕ) × (u : List ℕ) × (t ≡ s ++ u) × (run a.step o s ≡ Done) × (run b.step b.start u ≡ Done)

module _ (a b : Walk) where
  step_second : (p l : ℕ) → p < b.size → (sequence_walk a b).step p l ≡ b.step p l
  step_second p l h = cond-true (ltb p b.size) _ _ (lt-ltb p b.size h)

  step_first : (p l : ℕ) → (sequence_walk a b).step (b.size + p) l ≡ then_second b (a.step p l)
  step_first p l = cond-false (ltb (b.size + p) b.size) _ _ (le-ltb (b.size + p) b.size (omega arith)) ∙ ap (λ q. then_second b (a.step q l)) (omega arith)

module _ (a b : Walk) (fb : Falls b) where
  in_second : (o : Outcome) (t : List ℕ) → Below b.size o → run (sequence_walk a b).step o t ≡ run b.step o t
  in_second o [] h = refl
  in_second Dead (l ∷ t) h = refl
  in_second Done (l ∷ t) h = refl
  in_second (At p) (l ∷ t) h = ap (λ o. run (sequence_walk a b).step o t) (step_second a b p l h) ∙ in_second (b.step p l) t (below_more p b.size _ (omega arith) (fb.falls p l h))

  pub split : (o : Outcome) (t : List ℕ) → run (sequence_walk a b).step (then_second b o) t ≡ Done → Split a b o t
  split Dead t e = absurd (dead≢done (sym (run_dead _ t) ∙ e))
  split Done t e = ([], t, refl, refl, sym (in_second b.start t fb.starts) ∙ e)
  split (At p) [] e = absurd (at≢done _ e)
  split (At p) (l ∷ t) e =
      let r = split (a.step p l) t (ap (λ o. run (sequence_walk a b).step o t) (sym (step_first a b p l)) ∙ e) in
      (l ∷ r.0, r.1, ap {B = List ℕ} (λ x. l ∷ x) r.2, r.3, r.4)

  pub join : (o : Outcome) (s u : List ℕ) → run a.step o s ≡ Done → run b.step b.start u ≡ Done → run (sequence_walk a b).step (then_second b o) (s ++ u) ≡ Done
  join Dead s u e h = absurd (dead≢done (sym (run_dead _ s) ∙ e))
  join Done [] u e h = in_second b.start u fb.starts ∙ h
  join Done (l ∷ s) u e h = absurd (dead≢done e)
  join (At p) [] u e h = absurd (at≢done _ e)
  join (At p) (l ∷ s) u e h = ap (λ o. run (sequence_walk a b).step o (s ++ u)) (step_first a b p l) ∙ join (a.step p l) s u e h

then_second_below : (b : Walk) (k : ℕ) (o : Outcome) → Falls b → Below k o → Below (b.size + k) (then_second b o)
then_second_below b k Dead fb h = tt
then_second_below b k Done fb h = below_more b.size _ b.start (omega arith) fb.starts
then_second_below b k (At p) fb h = omega arith

module _ (a b : Walk) (fa : Falls a) (fb : Falls b) where
  sequence_step_falls : (p l : ℕ) → p < a.size + b.size → (p < b.size) ⊎ (b.size ≤ p) → Below p ((sequence_walk a b).step p l)
  sequence_step_falls p l h (inl k) = rw (step_second a b p l k) (fb.falls p l k)
  sequence_step_falls p l h (inr k) =
      let q : b.size + (p - b.size) ≡ p = omega arith in
      let r : Below (b.size + (p - b.size)) ((sequence_walk a b).step (b.size + (p - b.size)) l) = rw (step_first a b (p - b.size) l) (then_second_below b (p - b.size) _ fb (fa.falls (p - b.size) l (omega arith))) in
      subst (λ x. Below x ((sequence_walk a b).step x l)) q r

  pub sequence_falls : Falls (sequence_walk a b)
  sequence_falls = record {
    starts = below_more (b.size + a.size) (a.size + b.size) _ (omega arith) (then_second_below b a.size a.start fb fa.starts);
    falls = λ p l h. sequence_step_falls p l h (cases_lt p b.size);
  }
