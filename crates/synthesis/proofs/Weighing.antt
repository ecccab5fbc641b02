-- What a place owes, its span and its lead, from those of the places that its letters lead to.
use Rattle.std.proofs.Common.{◌≡◌, ℕ, suc, ◌+◌, ◌-◌, ◌<◌, ◌≤◌, true, eqb, ◌≢◌, List, [], ◌∷◌, length, get_or, set, unwrap_or, option_map, Some, None, Option, sym, refl, ap, ◌∙◌, subst, inl, inr, arith, length-set, get_or-set_other, get_or-set_same, below_more}
use Rattle.std.proofs.lemmas.Bool.{cases_Bool, cases_eq, cases_lt, cond-true, cond-false, eqb-false, ne_eqb}
use Rattle.letters.specs.Letters.{end, insertable}
use Rattle.rules.specs.Lists.{follow_by, Endless}
use Rattle.rules.specs.Tabled.{no_row}
use Rattle.places.specs.Loops.{Loop, Live}
use Rattle.places.specs.Owing.{LoopWay, LoopOwed, LoopSpan}
use Rattle.synthesis.specs.Fillable.{Fillable}
use Rattle.synthesis.specs.Marks.{Marked, onward}
use Rattle.synthesis.specs.Numbers.{Rowed}
use Rattle.synthesis.specs.Weights.{Owes, Spans, Inserts, GoesOn, OwedAt, Lead, beyond, owed_by, span_by}
use Rattle.synthesis.proofs.Best.{Best}
use Rattle.rules.proofs.Follows.{not_end}
use Rattle.synthesis.proofs.Letters.{among_at, ascends}
use Rattle.synthesis.proofs.Paths.{some_same, first_step, step_on, live_back, marked_some, onward_is}
use Rattle.synthesis.proofs.Ways.{way_live, owed_live, way_none, way_end, way_more, way_less, owed_same, lead_exists}
use Rattle.rules.proofs.Follows.{none_some}
use Rattle.synthesis.proofs.Marking.{marked_within}

-- the number of a place, and one
map_some : (f : ℕ → ℕ) (o : Option ℕ) (v : ℕ) → option_map f o ≡ Some v → (q : ℕ) × (o ≡ Some q) × (v ≡ f q)
map_some f None v e = absurd (none_some e)
map_some f (Some q) v e = (q, refl, sym (some_same (f q) v e))

module _ (r : Loop) (rows numbers : List ℕ) (p l : ℕ) where
  beyond_some : (v : ℕ) → beyond r rows numbers p l ≡ Some v → (q : ℕ) × (r.next p l ≡ Some q) × Marked rows q × (v ≡ get_or numbers q 0 + 1)
  beyond_some v e =
      let x = map_some (λ q. get_or numbers q 0 + 1) (onward r rows p l) v e in
      let y = marked_some rows (r.next p l) x.0 x.1 in
      (x.0, y.0, y.1, x.2)

  beyond_is : (q : ℕ) → r.next p l ≡ Some q → Marked rows q → beyond r rows numbers p l ≡ Some (get_or numbers q 0 + 1)
  beyond_is q e k = ap (option_map (λ q. get_or numbers q 0 + 1)) (onward_is r rows p l q e k)

  owed_by_some : (v : ℕ) → owed_by r rows numbers p l ≡ Some v → (q : ℕ) × Inserts r rows p l q × (v ≡ get_or numbers q 0 + 1)
  owed_by_some v e = elim (cases_Bool (insertable l)) [
    | inl t ↦ let x = beyond_some v (sym (cond-true (insertable l) (beyond r rows numbers p l) None t) ∙ e) in (x.0, (t, x.1, x.2), x.3)
    | inr f ↦ absurd (none_some (sym (cond-false (insertable l) (beyond r rows numbers p l) None f) ∙ e))
  ]

  owed_by_is : (q : ℕ) → Inserts r rows p l q → owed_by r rows numbers p l ≡ Some (get_or numbers q 0 + 1)
  owed_by_is q i = cond-true (insertable l) (beyond r rows numbers p l) None i.0 ∙ beyond_is q i.1 i.2

  span_by_some : (v : ℕ) → span_by r rows numbers p l ≡ Some v → (q : ℕ) × GoesOn r rows p l q × (v ≡ get_or numbers q 0 + 1)
  span_by_some v e = elim (cases_Bool (eqb l end)) [
    | inl t ↦ absurd (none_some (sym (cond-true (eqb l end) None (beyond r rows numbers p l) t) ∙ e))
    | inr f ↦ let x = beyond_some v (sym (cond-false (eqb l end) None (beyond r rows numbers p l) f) ∙ e) in (x.0, (eqb-false l end f, x.1, x.2), x.3)
  ]

  span_by_is : (q : ℕ) → GoesOn r rows p l q → span_by r rows numbers p l ≡ Some (get_or numbers q 0 + 1)
  span_by_is q g = cond-false (eqb l end) None (beyond r rows numbers p l) (ne_eqb l end g.0) ∙ beyond_is q g.1 g.2

module _ (r : Loop) (letters rows : List ℕ) (fair : Fillable r letters) (rs : Rowed r rows) (p : ℕ) (m : Marked rows p) where
  pub inside : p < r.size
  inside = omega (arith, marked_within rows p m, rs.long)

  -- where a letter stands that leads on
  letter_at : (l q : ℕ) → r.next p l ≡ Some q → (j : ℕ) × (j < length letters) × (get_or letters j 0 ≡ l)
  letter_at l q e = among_at l letters (fair.fair.lettered p l q inside e)

  pub lower : (l q : ℕ) → (l ≡ end → ⊥) → r.next p l ≡ Some q → q < p
  lower l q d e = fair.fair.falls p l q (rs.reached p m) d e

  -- where the end is admitted nothing is owed
  pub owed_none : (q : ℕ) → r.next p end ≡ Some q → Marked rows q → LoopOwed r p 0
  owed_none q e k = record { way = ([], refl, way_none r p q e (rs.live q k)); least = λ u w. omega arith }

  module _ (owed : List ℕ) (wd : Owes r rows owed p) where
    insert_lower : (l q : ℕ) → Inserts r rows p l q → q < p
    insert_lower l q i = lower l q (not_end l i.0) i.1

    -- what is owed where an insertable letter leads fits
    pub owed_small : (l q : ℕ) → Inserts r rows p l q → get_or owed q 0 < no_row
    owed_small l q i = omega (arith, wd.low q (insert_lower l q i) i.2, insert_lower l q i, inside, fair.small)

    module _ (no_end : (q : ℕ) → r.next p end ≡ Some q → Marked rows q → ⊥) where
      -- the first letter of a way leads to a lower place with a row, and gives no more than the way has letters
      first_letter : (u : List ℕ) → LoopWay r p u
          → (j : ℕ) × (j < length letters) × (v : ℕ) × (owed_by r rows owed p (get_or letters j 0) ≡ Some v) × (v ≤ length u)
      first_letter [] w = absurd (no_end w.last (way_end r p w) (rs.closed p end w.last m (way_end r p w) w.live))
      first_letter (l ∷ u) w =
          let g = way_less r p l u w in
          let q = g.0 in
          let k = rs.closed p l q m g.1 (way_live r q u g.2) in
          let j = letter_at l q g.1 in
          let ins : Inserts r rows p l q = (w.inserts.0, g.1, k) in
          let e : owed_by r rows owed p (get_or letters j.0 0) ≡ Some (get_or owed q 0 + 1) = ap (owed_by r rows owed p) j.2 ∙ owed_by_is r rows owed p l q ins in
          (j.0, j.1, get_or owed q 0 + 1, e, omega (arith, (wd.owes q (insert_lower l q ins) k).least u g.2))

      pub owed_at : (o : Option ℕ) → Best (λ v w. v ≤ w) (owed_by r rows owed p) letters o → OwedAt r p o
      owed_at None none = λ u w. let s = first_letter u w in absurd (none_some (sym (none s.0 s.1) ∙ s.3))
      owed_at (Some v) best =
          let f = best.0 in
          let l = get_or letters f.0 0 in
          let x = owed_by_some r rows owed p l v f.2 in
          let q = x.0 in
          let below = insert_lower l q x.1 in
          let o = wd.owes q below x.1.2 in (
            omega (arith, wd.low q below x.1.2, x.2),
            record {
              way = (l ∷ o.way.0, omega (arith, o.way.1, x.2), way_more r p l q o.way.0 x.1.0 x.1.1 o.way.2);
              least = λ u w. let s = first_letter u w in omega (arith, s.4, best.1 s.0 s.2 s.1 s.3);
            },
          )

  module _ (span : List ℕ) (wd : Spans r rows span p) where
    pub span_small : (l q : ℕ) → GoesOn r rows p l q → get_or span q 0 < no_row
    span_small l q g = omega (arith, wd.low q (lower l q g.0 g.1) g.2, lower l q g.0 g.1, inside, fair.small)

    -- the first letter of a list without an end gives at least what the list has letters
    first_on : (l : ℕ) (u : List ℕ) (q : ℕ) → Endless (l ∷ u) → follow_by r.next p (l ∷ u) ≡ Some q → Live r q
        → (j : ℕ) × (j < length letters) × (v : ℕ) × (span_by r rows span p (get_or letters j 0) ≡ Some v) × (length (l ∷ u) ≤ v)
    first_on l u q f e x =
        let s = first_step r.next p l u q e in
        let k = rs.closed p l s.0 m s.1 (live_back r u s.0 q s.2 x) in
        let j = letter_at l s.0 s.1 in
        let on : GoesOn r rows p l s.0 = (f.0, s.1, k) in
        let e : span_by r rows span p (get_or letters j.0 0) ≡ Some (get_or span s.0 0 + 1) = ap (span_by r rows span p) j.2 ∙ span_by_is r rows span p l s.0 on in
        (j.0, j.1, get_or span s.0 0 + 1, e, omega (arith, (wd.spans s.0 (lower l s.0 f.0 s.1) k).most u q f.1 s.2 x))

    no_longer : (o : Option ℕ) → Best (λ v w. w ≤ v) (span_by r rows span p) letters o → (u : List ℕ) (q : ℕ) → Endless u → follow_by r.next p u ≡ Some q → Live r q → length u ≤ unwrap_or o 0
    no_longer o best [] q f e x = omega arith
    no_longer None none (l ∷ u) q f e x = let s = first_on l u q f e x in absurd (none_some (sym (none s.0 s.1) ∙ s.3))
    no_longer (Some v) best (l ∷ u) q f e x = let s = first_on l u q f e x in omega (arith, s.4, best.1 s.0 s.2 s.1 s.3)

    longest_list : (o : Option ℕ) → Best (λ v w. w ≤ v) (span_by r rows span p) letters o
        → (unwrap_or o 0 ≤ p) × ((u : List ℕ) × (length u ≡ unwrap_or o 0) × Endless u × ((q : ℕ) × (follow_by r.next p u ≡ Some q) × Live r q))
    longest_list None none = (omega arith, ([], omega arith, tt, (p, refl, rs.live p m)))
    longest_list (Some v) best =
        let f = best.0 in
        let l = get_or letters f.0 0 in
        let x = span_by_some r rows span p l v f.2 in
        let below = lower l x.0 x.1.0 x.1.1 in
        let o = (wd.spans x.0 below x.1.2).longest in (
          omega (arith, wd.low x.0 below x.1.2, x.2),
          (l ∷ o.0, omega (arith, o.1, x.2), (x.1.0, o.2), (o.3.0, step_on r.next p l x.0 o.0 x.1.1 ∙ o.3.1, o.3.2)),
        )

    pub span_at : (o : Option ℕ) → Best (λ v w. w ≤ v) (span_by r rows span p) letters o → (unwrap_or o 0 ≤ p) × LoopSpan r p (unwrap_or o 0)
    span_at o best = let x = longest_list o best in (x.0, record { longest = x.1; most = no_longer o best })

  -- the lead, where all is known
  module _ (owed : List ℕ) (wd : Owes r rows owed r.size) where
    owed_here : LoopOwed r p (get_or owed p 0)
    owed_here = wd.owes p inside m

    pub lead_nothing : get_or owed p 0 ≡ 0 → Lead r p no_row
    lead_nothing z = record {
      nothing = λ o. refl;
      lowers = λ k o. absurd (omega (arith, owed_same r p (suc k) (get_or owed p 0) o owed_here));
      lowest = λ l q k i e o x. absurd (omega (arith, owed_same r p (suc k) (get_or owed p 0) o owed_here));
    }

    -- a letter that lowers is found among the letters
    at_letter : (l q k : ℕ) → (insertable l ≡ true) → r.next p l ≡ Some q → LoopOwed r p (suc k) → LoopOwed r q k
        → (j : ℕ) × (j < length letters) × (get_or letters j 0 ≡ l) × Inserts r rows p (get_or letters j 0) q × (get_or owed q 0 + 1 ≡ get_or owed p 0)
    at_letter l q k i e o x =
        let v = rs.closed p l q m e (owed_live r q k x) in
        let j = letter_at l q e in
        let ins : Inserts r rows p l q = (i, e, v) in (
          j.0,
          j.1,
          j.2,
          subst (λ (y : ℕ). Inserts r rows p y q) (sym j.2) ins,
          omega (arith, owed_same r p (suc k) (get_or owed p 0) o owed_here, owed_same r q k (get_or owed q 0) x (wd.owes q (omega (arith, marked_within rows q v, rs.long)) v)),
        )

    pub lead_found : (j : ℕ) → j < length letters
        → ((i : ℕ) → i < j → (q : ℕ) → Inserts r rows p (get_or letters i 0) q → get_or owed q 0 + 1 ≡ get_or owed p 0 → ⊥)
        → (q : ℕ) → Inserts r rows p (get_or letters j 0) q → get_or owed q 0 + 1 ≡ get_or owed p 0 → Lead r p (get_or letters j 0)
    lead_found j h before q ins e = record {
      nothing = λ o. absurd (omega (arith, owed_same r p 0 (get_or owed p 0) o owed_here));
      lowers = λ k o.
          let z : get_or owed q 0 ≡ k = omega (arith, owed_same r p (suc k) (get_or owed p 0) o owed_here) in
          (q, ins.0, ins.1, subst (λ (y : ℕ). LoopOwed r q y) z (wd.owes q (omega (arith, marked_within rows q ins.2, rs.long)) ins.2));
      lowest = λ l q' k i f o x.
          let a = at_letter l q' k i f o x in
          elim (cases_lt a.0 j) [
            | inl b ↦ absurd (before a.0 b q' a.3 a.4)
            | inr b ↦ elim (cases_eq j a.0) [ inl z ↦ let y : get_or letters j 0 ≡ get_or letters a.0 0 = ap (λ (x : ℕ). get_or letters x 0) z in omega (arith, a.2) | inr z ↦ omega (arith, a.2, ascends 0 letters j a.0 fair.ascending (omega arith) a.1) ]
          ];
    }

    pub lead_absent : (get_or owed p 0 ≡ 0 → ⊥) → ((i : ℕ) → i < length letters → (q : ℕ) → Inserts r rows p (get_or letters i 0) q → get_or owed q 0 + 1 ≡ get_or owed p 0 → ⊥) → ⊥
    lead_absent d NoneFound =
        let z : get_or owed p 0 ≡ suc (get_or owed p 0 - 1) = omega arith in
        let o : LoopOwed r p (suc (get_or owed p 0 - 1)) = subst (λ (y : ℕ). LoopOwed r p y) z owed_here in
        let x = lead_exists r p (get_or owed p 0 - 1) o in
        let a = at_letter x.0 x.1 (get_or owed p 0 - 1) x.2 x.3 o x.4 in
        NoneFound a.0 a.1 x.1 a.3 a.4

-- a place more is known
module _ (r : Loop) (rows : List ℕ) where
  pub owes_skip : (owed : List ℕ) (i : ℕ) → Owes r rows owed i → get_or rows i 0 ≡ 0 → Owes r rows owed (i + 1)
  owes_skip owed i a e = record { long = a.long; owes = below_more _ _ a.owes (λ m. absurd (omega arith)); low = below_more _ _ a.low (λ m. absurd (omega arith)) }

  pub owes_more : (owed : List ℕ) (i v : ℕ) → Owes r rows owed i → i < r.size → LoopOwed r i v → v ≤ i → Owes r rows (set owed i v) (i + 1)
  owes_more owed i v a h o l =
      let here : i < length owed = omega (arith, a.long) in
      record {
        long = length-set owed i v ∙ a.long;
        owes = below_more _ _ (λ p k m. let d : p ≢ i = omega arith in rw (get_or-set_other owed i p v 0 d) (a.owes p k m)) (λ m. rw (get_or-set_same owed i v 0 here) o);
        low = below_more _ _ (λ p k m. let d : p ≢ i = omega arith in rw (get_or-set_other owed i p v 0 d) (a.low p k m)) (λ m. rw (get_or-set_same owed i v 0 here) l);
      }

  pub spans_skip : (span : List ℕ) (i : ℕ) → Spans r rows span i → get_or rows i 0 ≡ 0 → Spans r rows span (i + 1)
  spans_skip span i a e = record { long = a.long; spans = below_more _ _ a.spans (λ m. absurd (omega arith)); low = below_more _ _ a.low (λ m. absurd (omega arith)) }

  pub spans_more : (span : List ℕ) (i v : ℕ) → Spans r rows span i → i < r.size → LoopSpan r i v → v ≤ i → Spans r rows (set span i v) (i + 1)
  spans_more span i v a h o l =
      let here : i < length span = omega (arith, a.long) in
      record {
        long = length-set span i v ∙ a.long;
        spans = below_more _ _ (λ p k m. let d : p ≢ i = omega arith in rw (get_or-set_other span i p v 0 d) (a.spans p k m)) (λ m. rw (get_or-set_same span i v 0 here) o);
        low = below_more _ _ (λ p k m. let d : p ≢ i = omega arith in rw (get_or-set_other span i p v 0 d) (a.low p k m)) (λ m. rw (get_or-set_same span i v 0 here) l);
      }
