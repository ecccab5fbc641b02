-- Two loops that agree on their places: what is so of one is so of the other.
use Rattle.std.proofs.Common.{◌≡◌, ℕ, ◌<◌, List, [], ◌∷◌, ◌++◌, get_or, Some, None, Option, sym, refl, ap, ◌∙◌, arith}
use Rattle.letters.specs.Letters.{end}
use Rattle.rules.specs.Lists.{and_then, follow_by}
use Rattle.rules.proofs.Follows.{by_join}
use Rattle.places.specs.Loops.{Loop, Reached, Live, Fair}
use Rattle.places.specs.Owing.{LoopWay, LoopOwed, LoopSpan}
use Rattle.synthesis.specs.Fillable.{Fillable}
use Rattle.synthesis.specs.Made.{StuckAt}
use Rattle.synthesis.specs.Numbers.{Rowed, Rows}
use Rattle.synthesis.specs.declared.weighed.Weighed.{Weighed}
use Rattle.synthesis.specs.Weighed.{AllWeighed, Weighing}
use Rattle.synthesis.specs.Weights.{Stranded}
use Rattle.synthesis.proofs.Marking.{marked_within}
use Rattle.synthesis.proofs.Paths.{some_same, first_step}
use Rattle.synthesis.proofs.Ruling.{same_then}

pub record Agree (r s : Loop) : Type 0 where
  pub size : s.size ≡ r.size
  pub boundary : s.boundary ≡ r.boundary
  pub next : (p l : ℕ) → p < r.size → s.next p l ≡ r.next p l

-- a stranded place is one where a list is stuck
pub stuck : (r : Loop) → Stranded r → StuckAt r
stuck r x =
    let t = x.1.0 in
    (t, (x.0, x.1.1, x.2), λ u ins y. x.3 u (record { inserts = ins; last = y.0; leads = sym (by_join r.next r.boundary t (u ++ end ∷ []) x.0 x.1.1) ∙ y.1; live = y.2 }))

module _ (r s : Loop) (letters : List ℕ) (fair : Fair r letters) (a : Agree r s) where
  -- a list leads from a place to a place
  inside : (t : List ℕ) (p q : ℕ) → p < r.size → follow_by r.next p t ≡ Some q → q < r.size
  inside [] p q h e = let z = some_same p q e in omega arith
  inside (l ∷ t) p q h e = let g = first_step r.next p l t q e in inside t g.0 q (fair.stays p l g.0 h g.1) g.2

  -- and the same in both loops
  same : (t : List ℕ) (p : ℕ) → p < r.size → follow_by s.next p t ≡ follow_by r.next p t
  same [] p h = refl
  same (l ∷ t) p h =
      ap (λ (o : Option ℕ). and_then o (λ q. follow_by s.next q t)) (a.next p l h)
      ∙ same_then (λ q. follow_by s.next q t) (λ q. follow_by r.next q t) (r.next p l) (λ q e. same t q (fair.stays p l q h e))

  same_start : (t : List ℕ) → follow_by s.next s.boundary t ≡ follow_by r.next r.boundary t
  same_start t = ap (λ (p : ℕ). follow_by s.next p t) a.boundary ∙ same t r.boundary fair.starts

  reached : (p : ℕ) → Reached s p → Reached r p
  reached p x = (x.0, sym (same_start x.0) ∙ x.1)

  reached_inside : (p : ℕ) → Reached s p → p < r.size
  reached_inside p x = inside x.0 r.boundary p fair.starts (sym (same_start x.0) ∙ x.1)

  live : (p : ℕ) → p < r.size → Live s p → Live r p
  live p h x = (x.0, sym (same x.0 p h) ∙ x.1 ∙ ap Some a.boundary)

  live_too : (p : ℕ) → p < r.size → Live r p → Live s p
  live_too p h x = (x.0, same x.0 p h ∙ x.1 ∙ ap Some (sym a.boundary))

  fair_too : Fair s letters
  fair_too = record {
    starts = omega (arith, fair.starts, a.size, a.boundary);
    stays = λ p l q h e. let k : p < r.size = omega (arith, a.size) in omega (arith, fair.stays p l q k (sym (a.next p l k) ∙ e), a.size);
    lettered = λ p l q h e. let k : p < r.size = omega (arith, a.size) in fair.lettered p l q k (sym (a.next p l k) ∙ e);
    falls = λ p l q t d e. fair.falls p l q (reached p t) d (sym (a.next p l (reached_inside p t)) ∙ e);
  }

  way : (p : ℕ) (u : List ℕ) → p < r.size → LoopWay s p u → LoopWay r p u
  way p u h w =
      let e = sym (same (u ++ end ∷ []) p h) ∙ w.leads in
      record { inserts = w.inserts; last = w.last; leads = e; live = live w.last (inside (u ++ end ∷ []) p w.last h e) w.live }

  way_too : (p : ℕ) (u : List ℕ) → p < r.size → LoopWay r p u → LoopWay s p u
  way_too p u h w = record {
    inserts = w.inserts;
    last = w.last;
    leads = same (u ++ end ∷ []) p h ∙ w.leads;
    live = live_too w.last (inside (u ++ end ∷ []) p w.last h w.leads) w.live;
  }

  owes : (p k : ℕ) → p < r.size → LoopOwed s p k → LoopOwed r p k
  owes p k h o = record { way = (o.way.0, o.way.1, way p o.way.0 h o.way.2); least = λ u w. o.least u (way_too p u h w) }

  spans : (p k : ℕ) → p < r.size → LoopSpan s p k → LoopSpan r p k
  spans p k h o =
      let x = o.longest in
      let e = sym (same x.0 p h) ∙ x.3.1 in
      record {
        longest = (x.0, x.1, x.2, (x.3.0, e, live x.3.0 (inside x.0 p x.3.0 h e) x.3.2));
        most = λ u q free g v. o.most u q free (same u p h ∙ g) (live_too q (inside u p q h g) v);
      }

  rowed : (rows : List ℕ) → Rowed s rows → Rowed r rows
  rowed rows x = record {
    long = x.long ∙ a.size;
    reached = λ p m. reached p (x.reached p m);
    live = λ p m. live p (within p m) (x.live p m);
    closed = λ p l q m e v. x.closed p l q m (a.next p l (within p m) ∙ e) (live_too q (fair.stays p l q (within p m) e) v);
  }
    where
      within : (p : ℕ) → 0 < get_or rows p 0 → p < r.size
      within p m = omega (arith, marked_within rows p m, x.long, a.size)

  all_rows : (rows order : List ℕ) (count : ℕ) → Rows s rows order count → Rows r rows order count
  all_rows rows order count x = record {
    rowed = rowed rows x.rowed;
    order_long = x.order_long ∙ a.size;
    few = omega (arith, x.few, a.size);
    some_row = x.some_row;
    start = x.start ∙ a.boundary;
    placed = x.placed;
    within = x.within;
    back = x.back;
  }

  weighed : (w : Weighed) → AllWeighed s w → AllWeighed r w
  weighed w x = record {
    numbered = all_rows w.rows.now w.order.now w.count x.numbered;
    owes = record {
      long = x.owes.long ∙ a.size;
      owes = λ p h m. owes p (get_or w.owed.now p 0) h (x.owes.owes p (omega (arith, a.size)) m);
      low = λ p h m. x.owes.low p (omega (arith, a.size)) m;
    };
    spans = record {
      long = x.spans.long ∙ a.size;
      spans = λ p h m. spans p (get_or w.span.now p 0) h (x.spans.spans p (omega (arith, a.size)) m);
      low = λ p h m. x.spans.low p (omega (arith, a.size)) m;
    };
  }

  stranded : Stranded s → Stranded r
  stranded x =
      let h = reached_inside x.0 x.1 in
      (x.0, reached x.0 x.1, live x.0 h x.2, λ u w. x.3 u (way_too x.0 u h w))

  -- what is worked out of one loop is so of the other
  pub weighing : (o : Option Weighed) → Weighing s o → Weighing r o
  weighing None x = stranded x
  weighing (Some w) x = weighed w x

pub fillable_too : (r s : Loop) (letters : List ℕ) → Fillable r letters → Agree r s → Fillable s letters
fillable_too r s letters f a = record { fair = fair_too r s letters f.fair a; small = omega (arith, f.small, a.size); ascending = f.ascending }
