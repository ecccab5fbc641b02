-- The rows of a filled table keep the laws.
use Rattle.std.proofs.Common.{◌≡◌, ℕ, ◌+◌, ◌<◌, ◌≤◌, true, eqb, List, [], ◌∷◌, length, is_some, Some, None, Option, sym, refl, ap, ◌∙◌, arith}
use Rattle.std.proofs.lemmas.Bool.{eq-eqb, ne_eqb}
use Rattle.letters.specs.Letters.{end, insertable}
use Rattle.letters.specs.Alphabets.{position}
use Rattle.rules.specs.Meaning.{most_span}
use Rattle.rules.specs.Tabled.{row_named}
use Rattle.rules.proofs.Follows.{then_some, none_some}
use Rattle.places.specs.Loops.{Loop}
use Rattle.places.specs.Owing.{LoopWay}
use Rattle.synthesis.specs.Fillable.{Fillable}
use Rattle.synthesis.specs.Laws.{RowLeads, RowLaws, RowsAreLawful}
use Rattle.synthesis.specs.Rows.{column, row_owed, row_span, row_lead, next_row}
use Rattle.synthesis.specs.Table.{Tells}
use Rattle.synthesis.proofs.Letters.{some_among}
use Rattle.synthesis.proofs.Paths.{step_on}
use Rattle.synthesis.proofs.Ways.{way_none, way_end, owed_slow, endless_below}
use Rattle.synthesis.proofs.Steps.{row_live, row_reached, step, back, leads}

module _ (r : Loop) (letters table : List ℕ) (count : ℕ) (fillable : Fillable r letters) (a : Tells r letters table count) where
  abbrev f : ℕ → ℕ → Option ℕ
  f = next_row letters table

  abbrev place : ℕ → ℕ
  place = a.place

  abbrev owed : ℕ → ℕ
  owed = row_owed letters table

  abbrev span : ℕ → ℕ
  span = row_span letters table

  abbrev lead : ℕ → ℕ
  lead = row_lead letters table

  closes : (i : ℕ) → i < count → owed i ≡ 0 → (k : ℕ) × (f i end ≡ Some k)
  closes i h e = go o.0 o.1 o.2
    where
      o : (u : List ℕ) × (length u ≡ owed i) × LoopWay r (place i) u
      o = (a.owed i h).way

      go : (u : List ℕ) → length u ≡ owed i → LoopWay r (place i) u → (k : ℕ) × (f i end ≡ Some k)
      go [] z w = let x = back r letters table count a i end w.last h (way_end r (place i) w) w.live in (x.0, x.1)
      go (l ∷ u) z w = absurd (omega arith)

  closed : (i k : ℕ) → i < count → f i end ≡ Some k → owed i ≡ 0
  closed i k h e =
      let s = step r letters table count a i end k h e in
      let z = (a.owed i h).least [] (way_none r (place i) (place k) s.1 (row_live r letters table count a k s.0)) in
      omega arith

  ends : (i : ℕ) → i < count → is_some (f i end) ≡ eqb (owed i) 0
  ends i h = go (f i end) refl
    where
      go : (o : Option ℕ) → f i end ≡ o → is_some (f i end) ≡ eqb (owed i) 0
      go None e = ap is_some e ∙ sym (ne_eqb (owed i) 0 (λ z. none_some (sym e ∙ (closes i h z).1)))
      go (Some k) e = ap is_some e ∙ sym (eq-eqb (owed i) 0 (closed i k h e))

  law_leads : (i : ℕ) → i < count → 0 < owed i → (k : ℕ) × RowLeads letters table i k
  law_leads i h d =
      let x = leads r letters table count a i h d in
      let o = then_some (position letters (lead i)) (λ j. row_named (column letters table i j)) x.0 x.2 in
      (x.0, record { can = x.1; lettered = some_among letters (lead i) o.0 o.1; goes = x.2; less = x.3 })

  slow : (i l k : ℕ) → i < count → insertable l ≡ true → f i l ≡ Some k → owed i ≤ owed k + 1
  slow i l k h can e =
      let s = step r letters table count a i l k h e in
      owed_slow r (place i) l (place k) (owed i) (owed k) can s.1 (a.owed i h) (a.owed k s.0)

  shorter : (i l k : ℕ) → i < count → (l ≡ end → ⊥) → f i l ≡ Some k → span k < span i
  shorter i l k h d e =
      let s = step r letters table count a i l k h e in
      let u = (a.span k s.0).longest in
      let z = (a.span i h).most (l ∷ u.0) u.3.0 (d, u.2) (step_on r.next (place i) l (place k) u.0 s.1 ∙ u.3.1) u.3.2 in
      omega (arith, u.1)

  bounded : (i : ℕ) → i < count → span i ≤ most_span
  bounded i h =
      let u = (a.span i h).longest in
      let b = endless_below r letters fillable.fair u.0 (place i) u.3.0 (row_reached r letters table count a i h) u.2 u.3.1 in
      omega (arith, u.1, a.inside i h, fillable.small)

  pub row_laws : RowLaws letters table count
  row_laws = record {
    stays = λ i l k h e. (step r letters table count a i l k h e).0;
    ends = ends;
    leads = law_leads;
    slow = slow;
    shorter = shorter;
    bounded = bounded;
  }

pub rows_are_lawful : RowsAreLawful
rows_are_lawful r letters table count fillable a = row_laws r letters table count fillable a
