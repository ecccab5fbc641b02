-- The leads from a place: they are one list only, an insertable way, and no insertable way is shorter.
use Rattle.std.proofs.Common.{◌≡◌, ℕ, zero, suc, ◌<◌, ◌≤◌, true, List, [], ◌∷◌, ◌++◌, length, is_some as option_is_some, Some, sym, refl, ap, ◌∙◌, subst, arith}
use Rattle.letters.specs.Letters.{end, insertable}
use Rattle.rules.specs.Meaning.{Meaning, Laws, Leads}
use Rattle.rules.specs.Lists.{and_then, follow, Insertable, Way, Led, done, more, LeadsGiveAShortestWay}
use Rattle.rules.proofs.Follows.{is_some, then_some, follow_join, one_follow, follow_one, follow_live, closes, closed}

some_inj : {x y : ℕ} → Some x ≡ Some y → x ≡ y
some_inj h = cc

-- the leads lead to the place, and nothing is owed there
pub led_follow : (m : Meaning) {p : ℕ} {xs : List ℕ} {r : ℕ} → Led m p xs r → follow m p xs ≡ Some r
led_follow m (done e) = refl
led_follow m (more {q = q} {xs = xs} pos lead goes led) = ap (λ o. and_then o (λ x. follow m x xs)) goes ∙ led_follow m led

pub led_clear : (m : Meaning) {p : ℕ} {xs : List ℕ} {r : ℕ} → Led m p xs r → m.owed r ≡ 0
led_clear m (done e) = e
led_clear m (more pos lead goes led) = led_clear m led

-- there is one list of leads only
pub led_one : (m : Meaning) {p : ℕ} {xs ys : List ℕ} {r s : ℕ} → Led m p xs r → Led m p ys s → (xs ≡ ys) × (r ≡ s)
led_one m (done e) (done f) = (refl, refl)
led_one m (done e) (more pos lead goes led) = absurd (omega arith)
led_one m (more pos lead goes led) (done e) = absurd (omega arith)
led_one m {p} (more {a = a} {q = q} pos lead goes led) (more {a = b} {q = t} {r = s} {xs = ys} pos' lead' goes' led') =
    let same : a ≡ b = some_inj (sym lead ∙ lead') in
    let there : t ≡ q = some_inj (sym goes' ∙ ap (m.next p) (sym same) ∙ goes) in
    let rest = led_one m led (subst (λ x. Led m x ys s) there led') in
    (cc rest.0, rest.1)

module _ (m : Meaning) (laws : Laws m) where
  pub led_inserts : {p : ℕ} {xs : List ℕ} {r : ℕ} → m.live p ≡ true → Led m p xs r → Insertable xs
  led_inserts live (done e) = tt
  led_inserts {p} live (more {a = a} {q = q} pos lead goes led) =
      let law = laws.leads p live pos in
      let same : law.0 ≡ a = some_inj (sym law.2.is_lead ∙ lead) in
      (ap insertable (sym same) ∙ law.2.can, led_inserts (laws.stays p a q live goes) led)

  pub led_long : {p : ℕ} {xs : List ℕ} {r : ℕ} → m.live p ≡ true → Led m p xs r → length xs ≡ m.owed p
  led_long live (done e) = sym e
  led_long {p} live (more {a = a} {q = q} pos lead goes led) =
      let law = laws.leads p live pos in
      let same : law.0 ≡ a = some_inj (sym law.2.is_lead ∙ lead) in
      let there : law.1 ≡ q = some_inj (sym law.2.goes ∙ ap (m.next p) same ∙ goes) in
      omega (arith, led_long (laws.stays p a q live goes) led, ap m.owed there, law.2.less)

  led_on : (p a q : ℕ) → 0 < m.owed p → Leads m p a q → (xs : List ℕ) (r : ℕ) → Led m q xs r → (ys : List ℕ) × (s : ℕ) × Led m p ys s
  led_on p a q pos law xs r led = (a ∷ xs, r, more pos law.is_lead law.goes led)

  -- the leads from a place where n letters are owed
  pub leads_from : (n p : ℕ) → m.live p ≡ true → m.owed p ≡ n → (xs : List ℕ) × (r : ℕ) × Led m p xs r
  leads_from zero p live e = ([], p, done e)
  leads_from (suc n) p live e =
      let pos : 0 < m.owed p = omega arith in
      let law = laws.leads p live pos in
      let q = law.1 in
      let later = leads_from n q (laws.stays p law.0 q live law.2.goes) (omega (arith, law.2.less)) in
      led_on p law.0 q pos law.2 later.0 later.1 later.2

  -- the end is admitted after the leads
  pub led_way : {p : ℕ} {xs : List ℕ} {r : ℕ} → m.live p ≡ true → Led m p xs r → m.live r ≡ true → Way m p xs
  led_way {p} {xs} {r} live led last =
      let t = is_some (m.next r end) (closes m laws r last (led_clear m led)) in
      record {
        inserts = led_inserts live led;
        ends = ap option_is_some (follow_join m p xs (end ∷ []) r (led_follow m led) ∙ follow_one m r end t.0 t.1);
      }

  least_from : (p : ℕ) (ys : List ℕ) (r : ℕ) → m.live p ≡ true → Insertable ys → follow m p (ys ++ end ∷ []) ≡ Some r → m.owed p ≤ length ys
  least_from p [] r live i h = omega (arith, closed m laws p live (ap option_is_some (one_follow m p end r h)))
  least_from p (a ∷ ys) r live i h =
      let t = then_some (m.next p a) (λ x. follow m x (ys ++ end ∷ [])) r h in
      let q = t.0 in
      omega (arith, laws.slow p a q live i.0 t.1, least_from q ys r (laws.stays p a q live t.1) i.1 t.2)

  -- an insertable way has at least as many letters as are owed
  pub way_least : (p : ℕ) (ys : List ℕ) → m.live p ≡ true → Way m p ys → m.owed p ≤ length ys
  way_least p ys live way =
      let t = is_some (follow m p (ys ++ end ∷ [])) way.ends in
      least_from p ys t.0 live way.inserts t.1

pub leads_shortest : LeadsGiveAShortestWay
leads_shortest m lawful p live =
    let laws = lawful.laws in
    let w = leads_from m laws (m.owed p) p live refl in
    let xs = w.0 in
    let led = w.2 in
    let long : length xs ≡ m.owed p = led_long m laws live led in
    record {
      way = xs;
      last = w.1;
      led = led;
      is_way = led_way m laws live led (follow_live m laws p xs w.1 live (led_follow m led));
      long = long;
      least = λ ys y. omega (arith, long, way_least m laws p ys live y);
    }
