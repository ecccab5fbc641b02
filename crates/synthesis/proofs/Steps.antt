-- One letter in a table is one letter in the loop that it was filled from.
use Rattle.std.proofs.Common.{◌≡◌, ℕ, suc, ◌+◌, ◌-◌, ◌<◌, true, List, [], ◌∷◌, ◌++◌, Some, Option, sym, ◌∙◌, subst, arith}
use Rattle.letters.specs.Letters.{insertable}
use Rattle.places.specs.Loops.{Loop, Reached, Live}
use Rattle.places.specs.Owing.{LoopOwed}
use Rattle.synthesis.specs.Rows.{row_owed, row_lead, next_row}
use Rattle.synthesis.specs.Table.{Tells}
use Rattle.synthesis.proofs.Paths.{some_same, last_step, last_back}
use Rattle.synthesis.proofs.Ways.{owed_live, owed_same}

module _ (r : Loop) (letters table : List ℕ) (count : ℕ) (a : Tells r letters table count) where
  abbrev f : ℕ → ℕ → Option ℕ
  f = next_row letters table

  abbrev place : ℕ → ℕ
  place = a.place

  abbrev owed : ℕ → ℕ
  owed = row_owed letters table

  pub row_live : (i : ℕ) → i < count → Live r (place i)
  row_live i h = owed_live r (place i) (owed i) (a.owed i h)

  pub row_reached : (i : ℕ) → i < count → Reached r (place i)
  row_reached i h = let t = a.reached i h in (t.0, (a.same_place t.0 i t.1).1)

  pub step : (i l k : ℕ) → i < count → f i l ≡ Some k → (k < count) × (r.next (place i) l ≡ Some (place k))
  step i l k h e =
      let t = a.reached i h in
      let there = a.same_place t.0 i t.1 in
      let x = a.same_place (t.0 ++ l ∷ []) k (last_step f 0 t.0 i l k t.1 e) in
      (x.0, last_back r.next r.boundary t.0 (place i) l (place k) there.1 x.1)

  pub back : (i l q : ℕ) → i < count → r.next (place i) l ≡ Some q → Live r q → (k : ℕ) × (f i l ≡ Some k) × (place k ≡ q) × (k < count)
  back i l q h e v =
      let t = a.reached i h in
      let there = a.same_place t.0 i t.1 in
      let on = last_step r.next r.boundary t.0 (place i) l q there.1 e in
      let k = (a.admitted (t.0 ++ l ∷ [])).1 (q, on, v) in
      let x = a.same_place (t.0 ++ l ∷ []) k.0 k.1 in
      (k.0, last_back f 0 t.0 i l k.0 t.1 k.1, some_same (place k.0) q (sym x.1 ∙ on), x.0)

  -- where something is owed, the lead leads to a row where one less is owed
  pub leads : (i : ℕ) → i < count → 0 < owed i → (k : ℕ) × (insertable (row_lead letters table i) ≡ true) × (f i (row_lead letters table i) ≡ Some k) × (owed k + 1 ≡ owed i)
  leads i h d =
      let z : owed i ≡ suc (owed i - 1) = omega arith in
      let x = (a.lead i h).lowers (owed i - 1) (subst (λ (n : ℕ). LoopOwed r (place i) n) z (a.owed i h)) in
      let b = back i (row_lead letters table i) x.0 h x.2 (owed_live r x.0 (owed i - 1) x.3) in
      let same = owed_same r x.0 (owed i - 1) (owed b.0) x.3 (subst (λ (p : ℕ). LoopOwed r p (owed b.0)) b.2 (a.owed b.0 b.3)) in
      (b.0, x.1, b.1, omega arith)
