-- The table that was written tells what it should.
use Rattle.std.proofs.Common.{◌≡◌, ℕ, ◌+◌, ◌-◌, ◌*◌, ◌<◌, ◌≤◌, eqb, List, [], ◌∷◌, length, get_or, Some, None, sym, refl, ap, ◌∙◌, inl, inr, mul-le-mul_right, arith}
use Rattle.std.proofs.lemmas.Bool.{cases_Bool, eqb-false, ne_eqb, cond-true, cond-false}
use Rattle.letters.specs.Alphabets.{position}
use Rattle.rules.specs.Lists.{and_then, follow_by}
use Rattle.rules.specs.Tabled.{no_row, width, row_named}
use Rattle.rules.proofs.Follows.{none_some, then_some}
use Rattle.places.specs.Loops.{Loop, Live, LeadsToLive}
use Rattle.synthesis.specs.Fillable.{Fillable}
use Rattle.synthesis.specs.Marks.{Marked}
use Rattle.synthesis.specs.Numbers.{Rows}
use Rattle.synthesis.specs.Rows.{column, next_row}
use Rattle.synthesis.specs.Table.{Entry, RowsWritten, Tells}
use Rattle.synthesis.proofs.Letters.{position_at, position_some}
use Rattle.synthesis.proofs.Paths.{some_same, first_step, step_on, live_back}
use Rattle.synthesis.proofs.Marking.{marked_within}

named_some : (v k : ℕ) → row_named v ≡ Some k → (v ≡ no_row → ⊥) × (v ≡ k)
named_some v k e = elim (cases_Bool (eqb v no_row)) [
  | inl t ↦ absurd (none_some (sym (cond-true (eqb v no_row) None (Some v) t) ∙ e))
  | inr f ↦ (eqb-false v no_row f, some_same v k (sym (cond-false (eqb v no_row) None (Some v) f) ∙ e))
]

module _ (r : Loop) (letters rows order : List ℕ) (count : ℕ) (fair : Fillable r letters) (rs : Rows r rows order count) (table : List ℕ)
    (room : r.size * (width letters) ≤ length table)
    (written : RowsWritten r letters rows order table count) where
  abbrev place : ℕ → ℕ
  place i = get_or order i 0

  has_row : (i : ℕ) → i < count → Marked rows (place i)
  has_row i h = omega (arith, rs.placed i h)

  place_inside : (i : ℕ) → i < count → place i < r.size
  place_inside i h = omega (arith, marked_within rows (place i) (has_row i h), rs.rowed.long)

  entry_at : (i j : ℕ) → i < count → j < width letters → Entry r letters rows (place i) j (column letters table i j)
  entry_at i j h k = written i h j k

  step_place : (i l k : ℕ) → i < count → next_row letters table i l ≡ Some k → (k < count) × (r.next (place i) l ≡ Some (place k))
  step_place i l k h e =
      let o = then_some (position letters l) (λ j. row_named (column letters table i j)) k e in
      let j = o.0 in
      let x = position_at letters l j o.1 in
      let v = column letters table i j in
      let y = named_some v k o.2 in
      let cell = (entry_at i j h (omega (arith, x.0))).cell x.0 in
      let q = cell.leads y.0 in
      let z = cell.led q.0 q.1 q.2 in
      let z₁ : get_or rows q.0 0 - 1 ≡ k = omega (arith, y.1) in
      let there : place k ≡ q.0 = ap (λ (n : ℕ). get_or order n 0) (sym z₁) ∙ rs.back q.0 q.2 in
      (omega (arith, rs.within q.0 q.2, y.1), ap (λ (a : ℕ). r.next (place i) a) (sym x.1) ∙ q.1 ∙ ap Some (sym there))

  step_row : (i l q : ℕ) → i < count → r.next (place i) l ≡ Some q → Live r q → (k : ℕ) × (next_row letters table i l ≡ Some k) × (place k ≡ q) × (k < count)
  step_row i l q h e v =
      let m = rs.rowed.closed (place i) l q (has_row i h) e v in
      let f = position_some letters l (fair.fair.lettered (place i) l q (place_inside i h) e) in
      let j = f.0 in
      let x = position_at letters l j f.1 in
      let cell = (entry_at i j h (omega (arith, x.0))).cell x.0 in
      let z = cell.led q (ap (λ (b : ℕ). r.next (place i) b) x.1 ∙ e) m in
      let k = column letters table i j in
      let d : k ≡ no_row → ⊥ = λ s. omega (arith, rs.within q m, rs.few, fair.small) in
      let z₁ : k ≡ get_or rows q 0 - 1 = omega arith in
      let goes = ap (λ o. and_then o (λ n. row_named (column letters table i n))) f.1 ∙ cond-false (eqb k no_row) None (Some k) (ne_eqb k no_row d) in
      (k, goes, ap (λ (n : ℕ). get_or order n 0) z₁ ∙ rs.back q m, omega (arith, rs.within q m))

  list_place : (t : List ℕ) (i k : ℕ) → i < count → follow_by (next_row letters table) i t ≡ Some k → (k < count) × (follow_by r.next (place i) t ≡ Some (place k))
  list_place [] i k h e = let z = some_same i k e in (omega arith, ap (λ (n : ℕ). Some (place n)) z)
  list_place (l ∷ t) i k h e =
      let s = first_step (next_row letters table) i l t k e in
      let a = step_place i l s.0 h s.1 in
      let b = list_place t s.0 k a.0 s.2 in
      (b.0, step_on r.next (place i) l (place s.0) t a.1 ∙ b.1)

  list_row : (t : List ℕ) (i q : ℕ) → i < count → follow_by r.next (place i) t ≡ Some q → Live r q → (k : ℕ) × (follow_by (next_row letters table) i t ≡ Some k) × (place k ≡ q) × (k < count)
  list_row [] i q h e v = (i, refl, some_same (place i) q e, h)
  list_row (l ∷ t) i q h e v =
      let s = first_step r.next (place i) l t q e in
      let a = step_row i l s.0 h s.1 (live_back r t s.0 q s.2 v) in
      let e₁ : follow_by r.next (place a.0) t ≡ Some q = ap (λ (p : ℕ). follow_by r.next p t) a.2 ∙ s.2 in
      let b = list_row t a.0 q a.3 e₁ v in
      (b.0, step_on (next_row letters table) i l a.0 t a.1 ∙ b.1, b.2, b.3)

  from_start : (t : List ℕ) (q : ℕ) → follow_by r.next r.boundary t ≡ Some q → follow_by r.next (place 0) t ≡ Some q
  from_start t q e = ap (λ (p : ℕ). follow_by r.next p t) rs.start ∙ e

  to_start : (t : List ℕ) (q : ℕ) → follow_by r.next (place 0) t ≡ Some q → follow_by r.next r.boundary t ≡ Some q
  to_start t q e = ap (λ (p : ℕ). follow_by r.next p t) (sym rs.start) ∙ e

  row_reached : (i : ℕ) → i < count → (t : List ℕ) × (follow_by (next_row letters table) 0 t ≡ Some i)
  row_reached i h =
      let x = rs.rowed.reached (place i) (has_row i h) in
      let a = list_row x.0 0 (place i) rs.some_row (from_start x.0 (place i) x.1) (rs.rowed.live (place i) (has_row i h)) in
      let y : get_or rows (place a.0) 0 ≡ get_or rows (place i) 0 = ap (λ (p : ℕ). get_or rows p 0) a.2 in
      let z : a.0 ≡ i = omega (arith, rs.placed a.0 a.3, rs.placed i h) in
      (x.0, a.1 ∙ ap Some z)

  admitted_live : (t : List ℕ) → ((i : ℕ) × (follow_by (next_row letters table) 0 t ≡ Some i)) → LeadsToLive r t
  admitted_live t x = let a = list_place t 0 x.0 rs.some_row x.1 in (place x.0, to_start t (place x.0) a.1, rs.rowed.live (place x.0) (has_row x.0 a.0))

  live_admitted : (t : List ℕ) → LeadsToLive r t → ((i : ℕ) × (follow_by (next_row letters table) 0 t ≡ Some i))
  live_admitted t x = let a = list_row t 0 x.0 rs.some_row (from_start t x.0 x.1) x.2 in (a.0, a.1)

  pub tells : ((k : ℕ) → count * width letters ≤ k → k < length table → get_or table k 0 ≡ no_row) → Tells r letters table count
  tells rest = record {
    some_row = rs.some_row;
    few = rs.few;
    room = let fits : count * width letters ≤ r.size * width letters = mul-le-mul_right (width letters) rs.few in omega arith;
    place = place;
    inside = place_inside;
    start = rs.start;
    admitted = λ t. (admitted_live t, live_admitted t);
    same_place = λ t i e. let a = list_place t 0 i rs.some_row e in (a.0, to_start t (place i) a.1);
    reached = row_reached;
    owed = λ i h. (entry_at i (length letters) h (omega arith)).owed refl;
    span = λ i h. (entry_at i (length letters + 1) h (omega arith)).span refl;
    lead = λ i h. (entry_at i (length letters + 2) h (omega arith)).lead refl;
    rest = rest;
  }
