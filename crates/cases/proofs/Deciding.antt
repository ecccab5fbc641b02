-- What a loop's places owe, and their spans, found by trying each letter.
use Rattle.std.proofs.Common.{◌≡◌, ℕ, zero, suc, ◌<◌, ◌≤◌, Bool, true, false, cond, not, ◌&&◌, ◌||◌, eqb, List, [], ◌∷◌, ◌++◌, length, is_some, Some, None, Option, refl, sym, ap, ◌∙◌, inl, inr, arith}
use Rattle.std.proofs.lemmas.Bool.{false≢true, true≢false, cases_Bool, cases_lt, and_parts, or_cases, or_left, not-true, eqb-true, eqb-false, eq-eqb, ne_eqb, cond-true, cond-false}
use Rattle.letters.specs.Letters.{end, insertable}
use Rattle.rules.specs.Lists.{and_then, follow_by, Endless}
use Rattle.rules.proofs.Capping.{some_cond}
use Rattle.rules.proofs.Follows.{is_some as option_some, none_some, not_end, then_some}
use Rattle.places.specs.Loops.{Loop, Reached, Live, LeadsToLive, Fair}
use Rattle.places.specs.Owing.{LoopWay, LoopOwed, LoopSpan}
use Rattle.synthesis.proofs.Paths.{some_same, first_step, step_on, live_back, reached_after}
use Rattle.synthesis.proofs.Ways.{way_none, way_more}
use Rattle.cases.proofs.Trying.{some_letter, each_letter, each_place, leads_to, some_in, each_at, place_at, leads_in, leads_of, implied, least_by, most_by, one_more, AtMost, least_in, least_at, most_in, most_at, more_in}

module _ (r : Loop) (letters : List ℕ) where
  -- the boundary can be reached from p with n letters or fewer
  abbrev pub lives : ℕ → ℕ → Bool
  lives zero p = eqb p r.boundary
  lives (suc n) p = eqb p r.boundary || some_letter (λ l. leads_to (lives n) (r.next p l)) letters

  -- as many letters as there are places suffice
  abbrev pub live : ℕ → Bool
  live p = lives r.size p

  -- a place from which a letter leads to a live place is live
  abbrev pub settled : Bool
  settled = each_place (λ p. each_letter (λ l. not (leads_to live (r.next p l)) || live p) letters) r.size

  -- the list leads from the boundary to a live place
  abbrev pub leads_live : List ℕ → Bool
  leads_live t = leads_to live (follow_by r.next r.boundary t)

  -- what p owes, by ways with fewer than n letters
  abbrev pub owes : ℕ → ℕ → Option ℕ
  owes zero p = None
  owes (suc n) p =
      cond (leads_to live (r.next p end)) (Some 0) (least_by (λ l. cond (insertable l) (one_more (and_then (r.next p l) (owes n))) None) letters)

  -- one letter, and the span where it leads
  abbrev longer : (ℕ → ℕ) → Option ℕ → ℕ
  longer spans None = 0
  longer spans (Some q) = cond (live q) (suc (spans q)) 0

  -- the span of p, by lists of no more than n letters
  abbrev pub spans : ℕ → ℕ → ℕ
  spans zero p = 0
  spans (suc n) p = most_by (λ l. cond (eqb l end) 0 (longer (spans n) (r.next p l))) letters

  -- fewer than n letters lead from p to a live place without an insertable way to an end
  abbrev pub strands : ℕ → ℕ → Bool
  strands zero p = false
  strands (suc n) p = (live p && not (is_some (owes r.size p))) || some_letter (λ l. leads_to (strands n) (r.next p l)) letters

  -- from each live place there is an insertable way to an end
  abbrev pub free : Bool
  free = each_place (λ p. not (live p) || is_some (owes r.size p)) r.size

  lives_sound : (n p : ℕ) → lives n p ≡ true → Live r p
  lives_sound zero p e = ([], ap Some (eqb-true p r.boundary e))
  lives_sound (suc n) p e = elim (or_cases (eqb p r.boundary) _ e) [
    | inl h ↦ ([], ap Some (eqb-true p r.boundary h))
    | inr h ↦
        let l = some_in (λ l. leads_to (lives n) (r.next p l)) letters h in
        let g = leads_in (lives n) (r.next p l.0) l.1 in
        let v = lives_sound n g.0 g.2 in
        (l.0 ∷ v.0, step_on r.next p l.0 g.0 v.0 g.1 ∙ v.1)
  ]

  lives_here : (n p : ℕ) → p ≡ r.boundary → lives n p ≡ true
  lives_here zero p e = eq-eqb p r.boundary e
  lives_here (suc n) p e = or_left (eqb p r.boundary) _ (eq-eqb p r.boundary e)

  pub live_sound : (p : ℕ) → live p ≡ true → Live r p
  live_sound p e = lives_sound r.size p e

  module _ (fair : Fair r letters) (ok : settled ≡ true) where
    complete : (u : List ℕ) (p : ℕ) → p < r.size → follow_by r.next p u ≡ Some r.boundary → live p ≡ true
    complete [] p h e = lives_here r.size p (some_same _ _ e)
    complete (l ∷ u) p h e =
        let s = first_step r.next p l u r.boundary e in
        let later = complete u s.0 (fair.stays p l s.0 h s.1) s.2 in
        let here = each_at (λ l. not (leads_to live (r.next p l)) || live p) letters l (place_at _ r.size p ok h) (fair.lettered p l s.0 h s.1) in
        implied (leads_to live (r.next p l)) (live p) here (leads_of live (r.next p l) s.0 s.1 later)

    pub live_complete : (p : ℕ) → p < r.size → Live r p → live p ≡ true
    live_complete p h v = complete v.0 p h v.1

    pub stays_in : (t : List ℕ) (p q : ℕ) → p < r.size → follow_by r.next p t ≡ Some q → q < r.size
    stays_in [] p q h e = let s : p ≡ q = some_same _ _ e in omega arith
    stays_in (l ∷ t) p q h e =
        let s = first_step r.next p l t q e in
        stays_in t s.0 q (fair.stays p l s.0 h s.1) s.2

    pub leads_live_complete : (t : List ℕ) → LeadsToLive r t → leads_live t ≡ true
    leads_live_complete t v =
        leads_of live (follow_by r.next r.boundary t) v.0 v.1 (live_complete v.0 (stays_in t r.boundary v.0 fair.starts v.1) v.2)

    -- the ways that begin with a letter
    abbrev way_by : ℕ → ℕ → ℕ → Option ℕ
    way_by n p l = cond (insertable l) (one_more (and_then (r.next p l) (owes n))) None

    owes_sound : (n p k : ℕ) → owes n p ≡ Some k → (u : List ℕ) × (length u ≡ k) × LoopWay r p u
    owes_sound zero p k e = absurd (none_some e)
    owes_sound (suc n) p k e = elim (cases_Bool (leads_to live (r.next p end))) [
      | inl t ↦
          let g = leads_in live (r.next p end) t in
          let z : 0 ≡ k = some_same _ _ (sym (cond-true _ _ _ t) ∙ e) in
          ([], z, way_none r p g.0 g.1 (live_sound g.0 g.2))
      | inr f ↦
          let l = least_in (way_by n p) letters k (sym (cond-false _ _ _ f) ∙ e) in
          let c = some_cond (insertable l.0) _ k l.1 in
          let m = more_in (and_then (r.next p l.0) (owes n)) k c.1 in
          let g = then_some (r.next p l.0) (owes n) m.0 m.1 in
          let w = owes_sound n g.0 m.0 g.2 in
          (l.0 ∷ w.0, omega (arith, w.1, m.2), way_more r p l.0 g.0 w.0 c.0 g.1 w.2)
    ]

    -- what p owes by ways of n letters, from what the lower places owe
    owes_step : (n p : ℕ) → ((q : ℕ) (u : List ℕ) → q < p → q < r.size → Reached r q → LoopWay r q u → AtMost (owes n q) (length u))
        → (u : List ℕ) → p < r.size → Reached r p → LoopWay r p u → leads_to live (r.next p end) ≡ false → AtMost (owes (suc n) p) (length u)
    owes_step n p lower [] i t w f =
        let s = first_step r.next p end [] w.last w.leads in
        let v = live_complete s.0 (fair.stays p end s.0 i s.1) (live_back r [] s.0 w.last s.2 w.live) in
        absurd (true≢false (sym (leads_of live (r.next p end) s.0 s.1 v) ∙ f))
    owes_step n p lower (l ∷ u) i t w f =
        let s = first_step r.next p l (u ++ end ∷ []) w.last w.leads in
        let q = s.0 in
        let rest : LoopWay r q u = record { inserts = w.inserts.1; last = w.last; leads = s.2; live = w.live } in
        let later = lower q u (fair.falls p l q t (not_end l w.inserts.0) s.1) (fair.stays p l q i s.1) (reached_after r p l q s.1 t) rest in
        let here : way_by n p l ≡ Some (suc later.0) = cond-true _ _ _ w.inserts.0 ∙ ap (λ o. one_more (and_then o (owes n))) s.1 ∙ ap one_more later.1 in
        let least = least_at (way_by n p) letters l (suc later.0) (fair.lettered p l q i s.1) here in
        (least.0, cond-false _ _ _ f ∙ least.1, omega (arith, least.2, later.2))

    owes_least : (n p : ℕ) (u : List ℕ) → p < n → p < r.size → Reached r p → LoopWay r p u → AtMost (owes n p) (length u)
    owes_least zero p u h i t w = absurd (omega arith)
    owes_least (suc n) p u h i t w = elim (cases_Bool (leads_to live (r.next p end))) [
      | inl b ↦ (0, cond-true _ _ _ b, omega arith)
      | inr f ↦ owes_step n p (λ q v k j x y. owes_least n q v (omega arith) j x y) u i t w f
    ]

    pub owed_is : (p k : ℕ) → p < r.size → Reached r p → owes r.size p ≡ Some k → LoopOwed r p k
    owed_is p k h t e = record {
      way = owes_sound r.size p k e;
      least = λ u w. let x = owes_least r.size p u h h t w in let s : x.0 ≡ k = some_same _ _ (sym x.1 ∙ e) in omega (arith, x.2);
    }

    -- the lists that begin with a letter
    abbrev step_by : ℕ → ℕ → ℕ → ℕ
    step_by n p l = cond (eqb l end) 0 (longer (spans n) (r.next p l))

    longer_in : (n : ℕ) (o : Option ℕ) → 0 < longer (spans n) o → (q : ℕ) × (o ≡ Some q) × (live q ≡ true) × (longer (spans n) o ≡ suc (spans n q))
    longer_in n None h = absurd (omega arith)
    longer_in n (Some q) h = elim (cases_Bool (live q)) [
      | inl t ↦ (q, refl, t, cond-true _ _ _ t)
      | inr f ↦ let z : cond (live q) (suc (spans n q)) 0 ≡ 0 = cond-false _ _ _ f in absurd (omega arith)
    ]

    spans_sound : (n p : ℕ) → Live r p → (u : List ℕ) × (length u ≡ spans n p) × Endless u × ((q : ℕ) × (follow_by r.next p u ≡ Some q) × Live r q)
    spans_sound zero p v = ([], refl, tt, (p, refl, v))
    spans_sound (suc n) p v = elim (cases_lt 0 (spans (suc n) p)) [
      | inl h ↦
          let l = most_in (step_by n p) letters h in
          elim (cases_Bool (eqb l.0 end)) [
            | inl b ↦ let z : step_by n p l.0 ≡ 0 = cond-true _ _ _ b in absurd (omega (arith, l.1))
            | inr b ↦
                let z : step_by n p l.0 ≡ longer (spans n) (r.next p l.0) = cond-false _ _ _ b in
                let g = longer_in n (r.next p l.0) (omega (arith, l.1)) in
                let w = spans_sound n g.0 (live_sound g.0 g.2) in (
                  l.0 ∷ w.0,
                  omega (arith, w.1, g.3, l.1),
                  (eqb-false l.0 end b, w.2),
                  (w.3.0, step_on r.next p l.0 g.0 w.0 g.1 ∙ w.3.1, w.3.2),
                )
          ]
      | inr h ↦ ([], omega arith, tt, (p, refl, v))
    ]

    spans_most : (n p : ℕ) (u : List ℕ) (q : ℕ) → p < n → p < r.size → Reached r p → Endless u → follow_by r.next p u ≡ Some q → Live r q → length u ≤ spans n p
    spans_most zero p u q h i t f e v = absurd (omega arith)
    spans_most (suc n) p [] q h i t f e v = omega arith
    spans_most (suc n) p (l ∷ u) q h i t f e v =
        let s = first_step r.next p l u q e in
        let lower = fair.falls p l s.0 t f.0 s.1 in
        let inside = fair.stays p l s.0 i s.1 in
        let later = spans_most n s.0 u q (omega arith) inside (reached_after r p l s.0 s.1 t) f.1 s.2 v in
        let here : step_by n p l ≡ suc (spans n s.0) = cond-false _ _ _ (ne_eqb l end f.0) ∙ ap (longer (spans n)) s.1 ∙ cond-true _ _ _ (live_complete s.0 inside (live_back r u s.0 q s.2 v)) in
        omega (arith, most_at (step_by n p) letters l (fair.lettered p l s.0 i s.1))

    pub span_is : (p : ℕ) → p < r.size → Reached r p → Live r p → LoopSpan r p (spans r.size p)
    span_is p h t v = record {
      longest = spans_sound r.size p v;
      most = λ u q f e w. spans_most r.size p u q h h t f e w;
    }

    -- a live place without an insertable way to an end
    abbrev pub Stuck : ℕ → Type 0
    Stuck p = Live r p × ((u : List ℕ) → LoopWay r p u → ⊥)

    pub strands_sound : (n p : ℕ) → p < r.size → Reached r p → strands n p ≡ true → (t : List ℕ) × (q : ℕ) × (follow_by r.next p t ≡ Some q) × Stuck q
    strands_sound zero p h t e = absurd (false≢true e)
    strands_sound (suc n) p h t e = elim (or_cases (live p && not (is_some (owes r.size p))) _ e) [
      | inl b ↦
          let parts = and_parts (live p) (not (is_some (owes r.size p))) b in
          ([], p, refl, (live_sound p parts.0, λ u w. let x = owes_least r.size p u h h t w in true≢false (sym (ap is_some x.1) ∙ not-true _ parts.1)))
      | inr b ↦
          let l = some_in (λ l. leads_to (strands n) (r.next p l)) letters b in
          let g = leads_in (strands n) (r.next p l.0) l.1 in
          let w = strands_sound n g.0 (fair.stays p l.0 g.0 h g.1) (reached_after r p l.0 g.0 g.1 t) g.2 in
          (l.0 ∷ w.0, w.1, step_on r.next p l.0 g.0 w.0 g.1 ∙ w.2, w.3)
    ]

    pub free_sound : free ≡ true → (p : ℕ) → p < r.size → Live r p → (u : List ℕ) × LoopWay r p u
    free_sound e p h v =
        let x = implied (live p) (is_some (owes r.size p)) (place_at _ r.size p e h) (live_complete p h v) in
        let k = option_some (owes r.size p) x in
        let w = owes_sound r.size p k.0 k.1 in
        (w.0, w.2)
