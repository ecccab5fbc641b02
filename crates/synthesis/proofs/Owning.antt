-- What stands in a table, in the table's own words.
use Rattle.std.proofs.Common.{◌≡◌, ℕ, suc, ◌<◌, List, [], ◌∷◌, ◌++◌, Some, Option, sym, ◌∙◌, subst, arith}
use Rattle.letters.specs.Letters.{end}
use Rattle.rules.specs.Lists.{follow_by}
use Rattle.rules.proofs.Follows.{by_join}
use Rattle.places.specs.Loops.{Loop, Live}
use Rattle.places.specs.Owing.{LoopOwed, LoopSpan}
use Rattle.synthesis.specs.Own.{AdmitsFrom, LeastOwed, LongestSpan, LowestLead, Own, TablesSaySo}
use Rattle.synthesis.specs.Rows.{row_owed, row_span, row_lead, next_row}
use Rattle.synthesis.specs.Table.{Tells}
use Rattle.synthesis.proofs.Steps.{step, leads}

module _ (r : Loop) (letters table : List ℕ) (count : ℕ) (a : Tells r letters table count) where
  abbrev f : ℕ → ℕ → Option ℕ
  f = next_row letters table

  abbrev place : ℕ → ℕ
  place = a.place

  abbrev owed : ℕ → ℕ
  owed = row_owed letters table

  -- a list from a row, and from its place
  to_place : (i : ℕ) → i < count → (u : List ℕ) → AdmitsFrom f i u → (q : ℕ) × (follow_by r.next (place i) u ≡ Some q) × Live r q
  to_place i h u x =
      let t = a.reached i h in
      let there = (a.same_place t.0 i t.1).1 in
      let y = (a.admitted (t.0 ++ u)).0 (x.0, by_join f 0 t.0 u i t.1 ∙ x.1) in
      (y.0, sym (by_join r.next r.boundary t.0 u (place i) there) ∙ y.1, y.2)

  to_row : (i : ℕ) → i < count → (u : List ℕ) (q : ℕ) → follow_by r.next (place i) u ≡ Some q → Live r q → AdmitsFrom f i u
  to_row i h u q e v =
      let t = a.reached i h in
      let there = (a.same_place t.0 i t.1).1 in
      let y = (a.admitted (t.0 ++ u)).1 (q, by_join r.next r.boundary t.0 u (place i) there ∙ e, v) in
      (y.0, sym (by_join f 0 t.0 u i t.1) ∙ y.1)

  least_owed : (i : ℕ) → i < count → (n : ℕ) → LoopOwed r (place i) n → LeastOwed f i n
  least_owed i h n o =
      let w = o.way in
      record {
        way = (w.0, w.1, w.2.inserts, to_row i h (w.0 ++ end ∷ []) w.2.last w.2.leads w.2.live);
        least = λ u ins x. let y = to_place i h (u ++ end ∷ []) x in o.least u (record { inserts = ins; last = y.0; leads = y.1; live = y.2 });
      }

  longest_span : (i : ℕ) → i < count → (n : ℕ) → LoopSpan r (place i) n → LongestSpan f i n
  longest_span i h n s =
      let u = s.longest in
      record {
        longest = (u.0, u.1, u.2, to_row i h u.0 u.3.0 u.3.1 u.3.2);
        most = λ v free x. let y = to_place i h v x in s.most v y.0 free y.1 y.2;
      }

  lowest_lead : (i : ℕ) → i < count → LowestLead f owed i (row_lead letters table i)
  lowest_lead i h = record {
    nothing = λ e. (a.lead i h).nothing (subst (λ (n : ℕ). LoopOwed r (place i) n) e (a.owed i h));
    lowers = λ d. let x = leads r letters table count a i h d in (x.1, (x.0, x.2, x.3));
    lowest = λ l x.
        let s = step r letters table count a i l x.1.0 h x.1.1 in
        let z : owed i ≡ suc (owed x.1.0) = omega (arith, x.1.2) in
        (a.lead i h).lowest l (place x.1.0) (owed x.1.0) x.0 s.1 (subst (λ (n : ℕ). LoopOwed r (place i) n) z (a.owed i h)) (a.owed x.1.0 s.0);
  }

  pub own : Own letters table count
  own = record {
    stays = λ i l k h e. (step r letters table count a i l k h e).0;
    reached = a.reached;
    owed = λ i h. least_owed i h (owed i) (a.owed i h);
    span = λ i h. longest_span i h (row_span letters table i) (a.span i h);
    lead = lowest_lead;
  }

pub tables_say_so : TablesSaySo
tables_say_so r letters table count a = own r letters table count a
