-- A cap over a lawful rule is lawful, and a cut that keeps every place's number changes nothing.
use Rattle.std.proofs.Common.{◌≡◌, ℕ, ◌+◌, ◌-◌, ◌*◌, ◌/◌, ◌%◌, ◌<◌, ◌≤◌, min, Bool, true, false, cond, ◌&&◌, eqb, ltb, leb, ◌⊎◌, is_some, Some, None, Option, sym, refl, ap, ◌∙◌, subst, inl, inr, ⊎_elim, mod-lt, div-add-mod', arith}
use lib.Arith.{digits_lt, digits_div, digits_mod}
use Rattle.std.proofs.lemmas.Bool.{leb-true, le-leb, ltb-true, lt-ltb, eqb-true, ne_eqb, and_parts, and_from, cond-true, cond-false}
use Rattle.letters.specs.Letters.{end, insertable}
use Rattle.rules.specs.Meaning.{Meaning, Dead, Leads, Meant, Laws, Lawful, most_places}
use Rattle.rules.specs.Capped.{cap_live, cap_act, cap_end, cap_next, capped_with, capped, Same}
use Rattle.rules.proofs.Follows.{none_some, not_end}

pub some_cond : (b : Bool) (x : Option ℕ) (r : ℕ) → cond b x None ≡ Some r → (b ≡ true) × (x ≡ Some r)
some_cond true x r h = (refl, h)
some_cond false x r h = absurd (none_some h)

pub split : (b : Bool) (x y : Option ℕ) (r : ℕ) → cond b x y ≡ Some r → ((b ≡ true) × (x ≡ Some r)) ⊎ ((b ≡ false) × (y ≡ Some r))
split true x y r h = inl (refl, h)
split false x y r h = inr (refl, h)

some_end : (place : ℕ → ℕ → ℕ) (k : ℕ) (o : Option ℕ) (r : ℕ) → cap_end place k o ≡ Some r → (n : ℕ) × (o ≡ Some n) × (r ≡ place n k)
some_end place k None r h = absurd (none_some h)
some_end place k (Some n) r h = (n, refl, cc)

some_act : (place : ℕ → ℕ → ℕ) (m : Meaning) (l : ℕ) (o : Option ℕ) (r : ℕ) → cap_act place m l o ≡ Some r
    → (n : ℕ) × (o ≡ Some n) × (0 < l) × (m.owed n ≤ l - 1) × (r ≡ place n (l - 1))
some_act place m l None r h = absurd (none_some h)
some_act place m l (Some n) r h =
    let p = some_cond (ltb 0 l && leb (m.owed n) (l - 1)) (Some (place n (l - 1))) r h in
    let t = and_parts (ltb 0 l) (leb (m.owed n) (l - 1)) p.0 in
    (n, refl, ltb-true 0 l t.0, leb-true (m.owed n) (l - 1) t.1, let e = p.1 in cc)

end_some : (place : ℕ → ℕ → ℕ) (k : ℕ) (o : Option ℕ) → is_some (cap_end place k o) ≡ is_some o
end_some place k None = refl
end_some place k (Some n) = refl

act_on : (place : ℕ → ℕ → ℕ) (m : Meaning) (l n : ℕ) (o : Option ℕ) → o ≡ Some n → m.owed n < l → cap_act place m l o ≡ Some (place n (l - 1))
act_on place m l n o e h =
    ap (cap_act place m l) e
    ∙ cond-true _ _ _ (and_from (ltb 0 l) (leb (m.owed n) (l - 1)) (lt-ltb 0 l (omega arith)) (le-leb (m.owed n) (l - 1) (omega arith)))

-- a lead is given where owed is above 0, and neither at a place that is not live
led_cond : (b : Bool) (o : Option ℕ) (n : ℕ) → is_some o ≡ ltb 0 n → is_some (cond b o None) ≡ ltb 0 (cond b n 0)
led_cond true o n h = h
led_cond false o n h = refl

none_next : (b ends : Bool) (place : ℕ → ℕ → ℕ) (m : Meaning) (k l : ℕ) (o : Option ℕ) → o ≡ None → cond b (cond ends (cap_end place k o) (cap_act place m l o)) None ≡ None
none_next true true place m k l o e = ap (cap_end place k) e
none_next true false place m k l o e = ap (cap_act place m l) e
none_next false ends place m k l o e = refl

-- a step of the cap, in the words of the rule below: from q with l left to n with l' left
record Step (place : ℕ → ℕ → ℕ) (m : Meaning) (k q l a r n l' : ℕ) : Type 0 where
  pub live : m.live q ≡ true
  pub room : m.owed q ≤ l
  pub goes : m.next q a ≡ Some n
  pub there : r ≡ place n l'
  pub fits : l' ≤ k
  pub enough : m.owed n ≤ l'
  pub fewer : (a ≡ end → ⊥) → l' < l

module _ (cut : ℕ → ℕ) (keeps : (n : ℕ) → n ≤ most_places → cut n ≡ n) (m : Meaning) (k : ℕ) (lawful : Lawful m) (under : m.most ≤ k) (small : m.count * (k + 1) ≤ most_places) where
  abbrev place : ℕ → ℕ → ℕ
  place q left = cut (q * (k + 1) + left)

  meant : Meant m
  meant = lawful.meant

  laws : Laws m
  laws = lawful.laws

  live_parts : (q l : ℕ) → cap_live m q l ≡ true → (m.live q ≡ true) × (m.owed q ≤ l)
  live_parts q l h = let p = and_parts (m.live q) (leb (m.owed q) l) h in (p.0, leb-true (m.owed q) l p.1)

  rest : (p : ℕ) → p % (k + 1) ≤ k
  rest p = let h : p % (k + 1) < k + 1 = mod-lt p (omega arith) in omega arith

  -- a live place below and at most k letters make a place that is not cut
  exact : (n l : ℕ) → m.live n ≡ true → l ≤ k → place n l ≡ n * (k + 1) + l
  exact n l live h =
      let inside : n * (k + 1) + l < m.count * (k + 1) = digits_lt (meant.within n live) (omega arith) in
      keeps (n * (k + 1) + l) (omega arith)

  over : (n l : ℕ) → m.live n ≡ true → l ≤ k → place n l / (k + 1) ≡ n
  over n l live h = ap (λ p. p / (k + 1)) (exact n l live h) ∙ digits_div n (omega arith)

  left : (n l : ℕ) → m.live n ≡ true → l ≤ k → place n l % (k + 1) ≡ l
  left n l live h = ap (λ p. p % (k + 1)) (exact n l live h) ∙ digits_mod n (omega arith)

  at : (P : ℕ → ℕ → Type 0) (n l : ℕ) → m.live n ≡ true → l ≤ k → P n l → P (place n l / (k + 1)) (place n l % (k + 1))
  at P n l live h x = subst (λ y. P (place n l / (k + 1)) y) (sym (left n l live h)) (subst (λ y. P y l) (sym (over n l live h)) x)

  step : (q l a r : ℕ) → l ≤ k → cap_next place m k q l a ≡ Some r → (n : ℕ) × (l' : ℕ) × Step place m k q l a r n l'
  step q l a r lk h =
      let p = some_cond (cap_live m q l) _ r h in
      let here = live_parts q l p.0 in
      ⊎_elim
      (λ e. let s = some_end place k (m.next q a) r e.1 in
      let live' = laws.stays q a s.0 here.0 s.1 in
      let less = laws.at_most s.0 live' in
      let is = eqb-true a end e.0 in
      (s.0, k, record { live = here.0; room = here.1; goes = s.1; there = s.2; fits = omega arith; enough = omega (arith, less); fewer = λ apart. absurd (apart is) }))
      (λ e. let s = some_act place m l (m.next q a) r e.1 in
      let one = s.2 in
      let less = s.3 in
      (s.0, l - 1, record { live = here.0; room = here.1; goes = s.1; there = s.4; fits = omega arith; enough = less; fewer = λ apart. omega (arith, one) }))
      (split (eqb a end) _ _ r p.1)

  C : Meaning
  C = capped_with cut m k

  owed_is : (p : ℕ) → C.live p ≡ true → C.owed p ≡ m.owed (p / (k + 1))
  unfolding C
  owed_is p h = cond-true _ _ _ h

  span_is : (p : ℕ) → C.live p ≡ true → C.span p ≡ min (m.span (p / (k + 1))) (p % (k + 1))
  unfolding C
  span_is p h = cond-true _ _ _ h

  lead_is : (p : ℕ) → C.live p ≡ true → C.lead p ≡ m.lead (p / (k + 1))
  unfolding C
  lead_is p h = cond-true _ _ _ h

  live_at : (n l : ℕ) → m.live n ≡ true → l ≤ k → m.owed n ≤ l → C.live (place n l) ≡ true
  unfolding C
  live_at n l live h e = at (λ x y. cap_live m x y ≡ true) n l live h (and_from (m.live n) (leb (m.owed n) l) live (le-leb (m.owed n) l e))

  owed_at : (n l : ℕ) → m.live n ≡ true → l ≤ k → m.owed n ≤ l → C.owed (place n l) ≡ m.owed n
  owed_at n l live h e = owed_is (place n l) (live_at n l live h e) ∙ ap m.owed (over n l live h)

  span_at : (n l : ℕ) → m.live n ≡ true → l ≤ k → m.owed n ≤ l → C.span (place n l) ≡ min (m.span n) l
  span_at n l live h e =
      span_is (place n l) (live_at n l live h e)
      ∙ ap (λ x. min (m.span x) (place n l % (k + 1))) (over n l live h)
      ∙ ap (min (m.span n)) (left n l live h)

  -- a step of the cap from p
  stepped : (p a r : ℕ) → C.next p a ≡ Some r → (n : ℕ) × (l' : ℕ) × Step place m k (p / (k + 1)) (p % (k + 1)) a r n l'
  unfolding C
  stepped p a r h = step (p / (k + 1)) (p % (k + 1)) a r (rest p) h

  live_of : (p : ℕ) → C.live p ≡ true → m.live (p / (k + 1)) ≡ true
  unfolding C
  live_of p h = (live_parts _ _ h).0

  room_of : (p : ℕ) → C.live p ≡ true → m.owed (p / (k + 1)) ≤ p % (k + 1)
  unfolding C
  room_of p h = (live_parts _ _ h).1

  -- end is admitted as below
  end_as : (p : ℕ) → C.live p ≡ true → is_some (C.next p end) ≡ is_some (m.next (p / (k + 1)) end)
  unfolding C
  end_as p h = ap is_some (cond-true _ _ _ h) ∙ end_some place k _

  act_as : (p a n : ℕ) → C.live p ≡ true → (a ≡ end → ⊥) → m.next (p / (k + 1)) a ≡ Some n → m.owed n < p % (k + 1) → C.next p a ≡ Some (place n (p % (k + 1) - 1))
  unfolding C
  act_as p a n live apart e h =
      let o : Option ℕ = m.next (p / (k + 1)) a in
      cond-true (C.live p) (cond (eqb a end) (cap_end place k o) (cap_act place m (p % (k + 1)) o)) None live
      ∙ cond-false (eqb a end) (cap_end place k o) (cap_act place m (p % (k + 1)) o) (ne_eqb a end apart)
      ∙ act_on place m (p % (k + 1)) n o e h

  dead' : (p : ℕ) → C.live p ≡ false → Dead C p
  unfolding C
  dead' p h = record {
    no_next = λ a. cond-false _ _ _ h;
    no_owed = cond-false _ _ _ h;
    no_span = cond-false _ _ _ h;
    no_lead = cond-false _ _ _ h;
  }

  within' : (p : ℕ) → C.live p ≡ true → p < C.count
  unfolding C
  within' p h =
      let parts = live_parts _ _ h in
      let inside : p / (k + 1) * (k + 1) + p % (k + 1) < m.count * (k + 1) = digits_lt (meant.within _ parts.0) (mod-lt p (omega arith)) in
      omega (arith, div-add-mod' p (k + 1), keeps (m.count * (k + 1)) small)

  -- what a step leads to is live below
  live_then : (p a r : ℕ) (e : C.next p a ≡ Some r) → m.live (stepped p a r e).0 ≡ true
  live_then p a r e = let t = (stepped p a r e).2 in laws.stays _ a _ t.live t.goes

  stays' : (p a r : ℕ) → C.live p ≡ true → C.next p a ≡ Some r → C.live r ≡ true
  stays' p a r h e =
      let s = stepped p a r e in
      let t = s.2 in
      subst (λ x. C.live x ≡ true) (sym t.there) (live_at s.0 s.1 (live_then p a r e) t.fits t.enough)

  -- owed after a step
  owed_then : (p a r : ℕ) (e : C.next p a ≡ Some r) → C.owed r ≡ m.owed (stepped p a r e).0
  owed_then p a r e =
      let s = stepped p a r e in
      let t = s.2 in
      ap C.owed t.there ∙ owed_at s.0 s.1 (live_then p a r e) t.fits t.enough

  leads' : (p : ℕ) → C.live p ≡ true → 0 < C.owed p → (a : ℕ) × (q : ℕ) × Leads C p a q
  leads' p h pos =
      let same = owed_is p h in
      let w = laws.leads (p / (k + 1)) (live_of p h) (omega (arith, same)) in
      let a = w.0 in
      let n = w.1 in
      let law = w.2 in
      let live' = laws.stays _ a n (live_of p h) law.goes in
      let less : m.owed n < p % (k + 1) = omega (arith, law.less, room_of p h) in
      let fits : p % (k + 1) - 1 ≤ k = omega (arith, rest p) in (
        a,
        place n (p % (k + 1) - 1),
        record {
          is_lead = lead_is p h ∙ law.is_lead;
          can = law.can;
          goes = act_as p a n h (not_end a law.can) law.goes less;
          less = ap (λ x. x + 1) (owed_at n (p % (k + 1) - 1) live' fits (omega arith)) ∙ law.less ∙ sym same;
        },
      )

  slow' : (p a r : ℕ) → C.live p ≡ true → insertable a ≡ true → C.next p a ≡ Some r → C.owed p ≤ C.owed r + 1
  slow' p a r h i e =
      let t = (stepped p a r e).2 in
      omega (arith, owed_is p h, owed_then p a r e, laws.slow _ a _ (live_of p h) i t.goes)

  shorter' : (p a r : ℕ) → C.live p ≡ true → (a ≡ end → ⊥) → C.next p a ≡ Some r → C.span r < C.span p
  shorter' p a r h apart e =
      let s = stepped p a r e in
      let t = s.2 in
      let then : C.span r ≡ min (m.span s.0) s.1 = ap C.span t.there ∙ span_at s.0 s.1 (live_then p a r e) t.fits t.enough in
      omega (arith, then, span_is p h, laws.shorter _ a _ (live_of p h) apart t.goes, t.fewer apart)

  starts' : C.live C.start ≡ true
  unfolding C
  starts' = live_at m.start k meant.starts (omega arith) (omega (arith, laws.at_most _ meant.starts))

  cap_meant : Meant (capped_with cut m k)
  unfolding C
  cap_meant = record {
    starts = starts';
    within = within';
    dead = dead';
    led = λ p. led_cond (C.live p) _ _ (meant.led (p / (k + 1)));
    lettered = λ p a e. none_next (C.live p) (eqb a end) place m k (p % (k + 1)) _ (meant.lettered (p / (k + 1)) a e);
  }

  cap_laws : Laws (capped_with cut m k)
  unfolding C
  cap_laws = record {
    stays = stays';
    ends = λ p h. end_as p h ∙ laws.ends _ (live_of p h) ∙ ap (λ n. eqb n 0) (sym (owed_is p h));
    at_most = λ p h. omega (arith, owed_is p h, laws.at_most _ (live_of p h));
    leads = leads';
    slow = slow';
    shorter = shorter';
    bounded = λ p h. omega (arith, span_is p h, laws.bounded _ (live_of p h));
    few = omega (arith, keeps (m.count * (k + 1)) small);
  }

  pub cap_lawful : Lawful (capped_with cut m k)
  cap_lawful = record { meant = cap_meant; laws = cap_laws }

  -- the same place, cut and whole, after a letter
  after_same : (q l a : ℕ) (o : Option ℕ) → l ≤ k → m.live q ≡ true → m.next q a ≡ o
      → cond (eqb a end) (cap_end place k o) (cap_act place m l o) ≡ cond (eqb a end) (cap_end (λ x y. x * (k + 1) + y) k o) (cap_act (λ x y. x * (k + 1) + y) m l o)
  after_same q l a None h live e = refl
  after_same q l a (Some n) h live e =
      let live' = laws.stays q a n live e in
      let act : ℕ → Option ℕ = λ x. cond (ltb 0 l && leb (m.owed n) (l - 1)) (Some x) None in
      ap (λ x. cond (eqb a end) (Some x) (act (place n (l - 1)))) (exact n k live' (omega arith))
      ∙ ap (λ x. cond (eqb a end) (Some (n * (k + 1) + k)) (act x)) (exact n (l - 1) live' (omega arith))

  cond_same : (b : Bool) (x y : Option ℕ) → (b ≡ true → x ≡ y) → cond b x None ≡ cond b y None
  cond_same true x y h = h refl
  cond_same false x y h = refl

  pub cap_same : Same (capped_with cut m k) (capped m k)
  cap_same = record {
    count = keeps (m.count * (k + 1)) small;
    start = exact m.start k meant.starts (omega arith);
    most = refl;
    live = λ p. refl;
    next = λ p a. cond_same (cap_live m (p / (k + 1)) (p % (k + 1))) _ _ (λ h. after_same (p / (k + 1)) (p % (k + 1)) a _ (rest p) (live_parts _ _ h).0 refl);
    owed = λ p. refl;
    span = λ p. refl;
    lead = λ p. refl;
  }
