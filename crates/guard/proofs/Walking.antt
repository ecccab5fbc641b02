-- The leads that a close writes: as many as are owed, one after another, and then the end.
use Rattle.std.proofs.Common.{◌≡◌, ℕ, zero, suc, ◌+◌, ◌<◌, true, [], ◌∷◌, ◌++◌, length, Some, unwrap_or, sym, refl, ap, ◌∙◌, ap₂, subst₂, add-one, arith, length-append}
use Rattle.letters.specs.Letters.{end}
use Rattle.rules.specs.Meaning.{Meaning, Laws, Lawful}
use Rattle.rules.specs.Lists.{follow, Led, done, more}
use Rattle.rules.proofs.Follows.{is_some, follow_join, follow_one, follow_live, closes}
use Rattle.rules.proofs.Leads.{led_follow, led_clear}
use Rattle.guard.specs.declared.calls.Running.{Running}
use Rattle.guard.specs.Calls.{resting, lead_of, next_of, place_after, leads, closed, close_place, close_writes, ByLeads}

pub length_leads : (m : Meaning) (p n : ℕ) → length (leads m p n) ≡ n
length_leads m p zero = refl
length_leads m p (suc n) = length-append (leads m p n) _ ∙ ap (λ k. k + 1) (length_leads m p n) ∙ add-one n

-- the place that the lead leads to
abbrev after_lead : Meaning → ℕ → ℕ
after_lead m p = next_of m p (lead_of m p)

-- one lead more is one lead and then the others
place_first : (m : Meaning) (p n : ℕ) → place_after m p (suc n) ≡ place_after m (after_lead m p) n
place_first m p zero = refl
place_first m p (suc n) = ap (after_lead m) (place_first m p n)

leads_first : (m : Meaning) (p n : ℕ) → leads m p (suc n) ≡ lead_of m p ∷ leads m (after_lead m p) n
leads_first m p zero = refl
leads_first m p (suc n) = ap₂ (λ l x. l ++ lead_of m x ∷ []) (leads_first m p n) (place_first m p n)

module _ (m : Meaning) (laws : Laws m) where
  -- from a live place, as many leads as are owed are all of them
  pub leads_led : (n p : ℕ) → m.live p ≡ true → m.owed p ≡ n → Led m p (leads m p n) (place_after m p n)
  leads_led zero p live e = done e
  leads_led (suc n) p live e =
      let pos : 0 < m.owed p = omega arith in
      let law = laws.leads p live pos in
      let a = law.0 in
      let q = law.1 in
      let lead_is : lead_of m p ≡ a = ap (λ o. unwrap_or o end) law.2.is_lead in
      let next_is : after_lead m p ≡ q = ap (next_of m p) lead_is ∙ ap (λ o. unwrap_or o p) law.2.goes in
      let later = leads_led n q (laws.stays p a q live law.2.goes) (omega (arith, law.2.less)) in
      let list_is : a ∷ leads m q n ≡ leads m p (suc n) = sym (leads_first m p n ∙ ap₂ (λ x y. x ∷ leads m y n) lead_is next_is) in
      let place_is : place_after m q n ≡ place_after m p (suc n) = sym (place_first m p n ∙ ap (λ x. place_after m x n) next_is) in
      subst₂ (Led m p) list_is place_is (more pos law.2.is_lead law.2.goes later)

  -- after them the end leads on
  end_leads : (g : Running) → m.live g.place ≡ true → m.next (place_after m g.place (m.owed g.place)) end ≡ Some (close_place m g)
  end_leads g live =
      let p = g.place in
      let q = place_after m p (m.owed p) in
      let led = leads_led (m.owed p) p live refl in
      let t = is_some (m.next q end) (closes m laws q (follow_live m laws p (leads m p (m.owed p)) q live (led_follow m led)) (led_clear m led)) in
      t.1 ∙ ap Some (sym (ap (λ o. unwrap_or o q) t.1))

  -- what a close writes is admitted, and leads to the place after it
  pub close_follows : (g : Running) → m.live g.place ≡ true → follow m g.place (close_writes m g closed) ≡ Some (close_place m g)
  close_follows g live =
      let p = g.place in
      let n = m.owed p in
      let q = place_after m p n in
      follow_join m p (leads m p n) (end ∷ []) q (led_follow m (leads_led n p live refl)) ∙ follow_one m q end (close_place m g) (end_leads g live)

pub close_led : (m : Meaning) → Lawful m → (g : Running) → m.live g.place ≡ true → ByLeads m g (resting (close_place m g), m.owed g.place + 1) (close_writes m g closed)
close_led m lawful g live =
    let p = g.place in
    let n = m.owed p in
    record {
      way = leads m p n;
      last = place_after m p n;
      led = leads_led m lawful.laws n p live refl;
      ends = end_leads m lawful.laws g live;
      writes = refl;
      number = sym (length-append (leads m p n) (end ∷ []) ∙ ap (λ k. k + 1) (length_leads m p n));
    }
