-- What places owe and their spans, one letter on.
use Rattle.std.proofs.Common.{◌≡◌, ℕ, suc, ◌+◌, ◌≤◌, true, List, [], ◌∷◌, ◌++◌, length, Some, ◌∙◌, arith}
use Rattle.letters.specs.Letters.{end, insertable}
use Rattle.rules.specs.Lists.{follow_by, Endless}
use Rattle.places.specs.Loops.{Loop, Reached, Live, Fair}
use Rattle.places.specs.Owing.{LoopWay, LoopOwed}
use Rattle.synthesis.proofs.Paths.{first_step, step_on, live_back, reached_after}

module _ (r : Loop) where
  pub way_live : (p : ℕ) (u : List ℕ) → LoopWay r p u → Live r p
  way_live p u w = live_back r (u ++ end ∷ []) p w.last w.leads w.live

  pub owed_live : (p k : ℕ) → LoopOwed r p k → Live r p
  owed_live p k o = way_live p o.way.0 o.way.2

  -- nothing before the end is a way where the end leads to a live place
  pub way_none : (p q : ℕ) → r.next p end ≡ Some q → Live r q → LoopWay r p []
  way_none p q e v = record { inserts = tt; last = q; leads = step_on r.next p end q [] e; live = v }

  pub way_end : (p : ℕ) (w : LoopWay r p []) → r.next p end ≡ Some w.last
  way_end p w = let s = first_step r.next p end [] w.last w.leads in s.1 ∙ s.2

  -- an insertable letter before a way
  pub way_more : (p l q : ℕ) (u : List ℕ) → insertable l ≡ true → r.next p l ≡ Some q → LoopWay r q u → LoopWay r p (l ∷ u)
  way_more p l q u i e w = record { inserts = (i, w.inserts); last = w.last; leads = step_on r.next p l q (u ++ end ∷ []) e ∙ w.leads; live = w.live }

  pub way_less : (p l : ℕ) (u : List ℕ) → LoopWay r p (l ∷ u) → (q : ℕ) × (r.next p l ≡ Some q) × LoopWay r q u
  way_less p l u w =
      let g = first_step r.next p l (u ++ end ∷ []) w.last w.leads in
      (g.0, g.1, record { inserts = w.inserts.1; last = w.last; leads = g.2; live = w.live })

  pub owed_same : (p a b : ℕ) → LoopOwed r p a → LoopOwed r p b → a ≡ b
  owed_same p a b x y = omega (arith, x.way.1, y.way.1, x.least y.way.0 y.way.2, y.least x.way.0 x.way.2)

  -- an insertable letter never lowers owed by more than one
  pub owed_slow : (p l q k j : ℕ) → insertable l ≡ true → r.next p l ≡ Some q → LoopOwed r p k → LoopOwed r q j → k ≤ j + 1
  owed_slow p l q k j i e a b =
      let w = b.way in
      let h = a.least (l ∷ w.0) (way_more p l q w.0 i e w.2) in
      omega (arith, w.1)

  -- where something is owed, some insertable letter leads to owed one smaller
  pub lead_exists : (p k : ℕ) → LoopOwed r p (suc k) → (l : ℕ) × (q : ℕ) × (insertable l ≡ true) × (r.next p l ≡ Some q) × LoopOwed r q k
  lead_exists p k o = go o.way.0 o.way.1 o.way.2
    where
      go : (u : List ℕ) → length u ≡ suc k → LoopWay r p u → (l : ℕ) × (q : ℕ) × (insertable l ≡ true) × (r.next p l ≡ Some q) × LoopOwed r q k
      go [] e w = absurd (omega arith)
      go (l ∷ u) e w =
          let g = way_less p l u w in
          (l, g.0, w.inserts.0, g.1, record { way = (u, omega arith, g.2); least = λ v x. let h = o.least (l ∷ v) (way_more p l g.0 v w.inserts.0 g.1 x) in omega arith })

  -- a list without an end is no longer than the number of the place that it starts at
  pub endless_below : (letters : List ℕ) → Fair r letters → (u : List ℕ) (p q : ℕ) → Reached r p → Endless u → follow_by r.next p u ≡ Some q → length u ≤ p
  endless_below letters fair [] p q t f e = omega arith
  endless_below letters fair (l ∷ u) p q t f e =
      let s = first_step r.next p l u q e in
      let lower = fair.falls p l s.0 t f.0 s.1 in
      let rest = endless_below letters fair u s.0 q (reached_after r p l s.0 s.1 t) f.1 s.2 in
      omega arith
