-- The tests of the rows pass exactly where the table is lawful.
use Rattle.std.proofs.Common.{◌≡◌, ℕ, ◌+◌, ◌<◌, ◌≤◌, Bool, true, false, cond, not, ◌&&◌, ◌||◌, eqb, ltb, leb, List, length, get_or, is_some as option_is_some, Some, None, Option, sym, refl, ap, ◌∙◌, ⊎_elim, arith}
use Rattle.std.proofs.lemmas.Bool.{both_ways, leb-true, le-leb, ltb-true, lt-ltb, eqb-true, eqb-false, eq-eqb, ne_eqb, and_parts, and_from, or_cases, or_left, or_right, not-true, not_from_false, cases_Bool, false≢true, cond-true, cond-false}
use Rattle.letters.specs.Letters.{letter, end, insertable}
use Rattle.letters.specs.Alphabets.{position, each_a_letter, ascending_from}
use Rattle.rules.specs.Lists.{and_then}
use Rattle.rules.specs.Meaning.{Meaning, Dead, Leads, Laws, Lawful, most_places, most_span}
use Rattle.rules.specs.Tabled.{entry, cell, cell_at, row_after, row_owed, row_lead, held_letter, tabled_with, tabled}
use Rattle.rules.specs.Rows.{keeps_after, one_less, leads_on, keeps_end, keeps_cell, keeps_cells, keeps_row, all_below}
use Rattle.rules.proofs.Below.{all_decides, largest_over}
use Rattle.rules.proofs.Capping.{some_cond}
use Rattle.rules.proofs.Follows.{is_some, then_some}
use Rattle.rules.proofs.Positions.{position_at, position_of, letter_at}

-- what the test of the end tells of it
end_tells : (b : Bool) (n : ℕ) (l : Bool) → cond b (eqb n 0) (ltb 0 n && l) ≡ true → b ≡ eqb n 0
end_tells true n l h = sym h
end_tells false n l h =
    let pos = ltb-true 0 n (and_parts (ltb 0 n) l h).0 in
    sym (ne_eqb n 0 (λ e. omega arith))

lead_tells : (b : Bool) (n : ℕ) (l : Bool) → cond b (eqb n 0) (ltb 0 n && l) ≡ true → 0 < n → l ≡ true
lead_tells true n l h pos = let e = eqb-true n 0 h in absurd (omega arith)
lead_tells false n l h pos = (and_parts (ltb 0 n) l h).1

end_told : (b : Bool) (n : ℕ) (l : Bool) → b ≡ eqb n 0 → (0 < n → l ≡ true) → cond b (eqb n 0) (ltb 0 n && l) ≡ true
end_told true n l e h = sym e
end_told false n l e h =
    let apart = eqb-false n 0 (sym e) in
    let pos : 0 < n = omega arith in
    and_from (ltb 0 n) l (lt-ltb 0 n pos) (h pos)

one_tells : (m : Meaning) (p : ℕ) (o : Option ℕ) → one_less m p o ≡ true → (q : ℕ) × (o ≡ Some q) × (m.owed q + 1 ≡ m.owed p)
one_tells m p None h = absurd (false≢true h)
one_tells m p (Some q) h = (q, refl, eqb-true _ _ h)

leads_tell : (m : Meaning) (p : ℕ) (o : Option ℕ) → m.lead p ≡ o → leads_on m p o ≡ true → (a : ℕ) × (q : ℕ) × Leads m p a q
leads_tell m p None e h = absurd (false≢true h)
leads_tell m p (Some a) e h =
    let t = and_parts (insertable a) (one_less m p (m.next p a)) h in
    let s = one_tells m p (m.next p a) t.1 in
    (a, s.0, record { is_lead = e; can = t.0; goes = s.1; less = s.2 })

leads_told : (m : Meaning) (p a q : ℕ) → Leads m p a q → leads_on m p (m.lead p) ≡ true
leads_told m p a q law =
    ap (leads_on m p) law.is_lead
    ∙ and_from (insertable a) (one_less m p (m.next p a)) law.can (ap (one_less m p) law.goes ∙ eq-eqb _ _ law.less)

-- a lawful letter passes its test
after_told : (m : Meaning) → Laws m → (p a : ℕ) (o : Option ℕ) → m.live p ≡ true → m.next p a ≡ o → keeps_after m p a o ≡ true
after_told m laws p a None live e = refl
after_told m laws p a (Some q) live e =
    let spans = ltb (m.span q) (m.span p) in
    let owes = leb (m.owed p) (m.owed q + 1) in
    and_from (m.live q) _ (laws.stays p a q live e)
    (and_from (eqb a end || spans) _
    (⊎_elim
    (λ is. or_left (eqb a end) spans is)
    (λ apart. or_right (eqb a end) spans (lt-ltb _ _ (laws.shorter p a q live (eqb-false a end apart) e)))
    (cases_Bool (eqb a end)))
    (⊎_elim
    (λ can. or_right (not (insertable a)) owes (le-leb _ _ (laws.slow p a q live can e)))
    (λ cannot. or_left (not (insertable a)) owes (not_from_false (insertable a) cannot))
    (cases_Bool (insertable a))))

none_of : (o : Option ℕ) → option_is_some o ≡ false → o ≡ None
none_of None h = refl
none_of (Some q) h = absurd (false≢true (sym h))

pub start : (j : ℕ) → 0 + j ≡ j
start j = omega arith

-- a lead is given where owed is above 0
given : (t : Bool) (x : Option ℕ) → (t ≡ true → option_is_some x ≡ true) → option_is_some (cond t x None) ≡ t
given true x h = h refl
given false x h = refl

given_live : (b : Bool) (n : ℕ) (x : Option ℕ) → (b ≡ true → 0 < n → option_is_some x ≡ true) → option_is_some (cond b (cond (ltb 0 n) x None) None) ≡ ltb 0 (cond b n 0)
given_live true n x h = given (ltb 0 n) x (λ e. h refl (ltb-true 0 n e))
given_live false n x h = refl

module _ (letters memory : List ℕ) (rows most : ℕ) where
  abbrev M : Meaning
  M = tabled_with letters memory rows most

  -- an admitted letter stands in a column, whose cell names what follows
  column_of : (p a q : ℕ) → M.next p a ≡ Some q → (j : ℕ) × (j < length letters) × (get_or letters j 0 ≡ a) × (cell letters memory p j ≡ Some q)
  column_of p a q h =
      let t = some_cond (ltb p rows) (row_after letters memory p a) q h in
      let s = then_some (position letters a) (cell letters memory p) q t.1 in
      let u = position_at letters 0 a s.0 s.1 in
      let e = u.1 in
      let same : s.0 ≡ u.0 = omega (arith, e) in
      (u.0, u.2, u.3, ap (cell letters memory p) (sym same) ∙ s.2)

  module _ (each : each_a_letter letters ≡ true) (keeps : (p : ℕ) → p < rows → keeps_row M letters memory rows p ≡ true) where
    row_of : (p : ℕ) → M.live p ≡ true → (leb (M.span p) most_span ≡ true) × (keeps_end M p ≡ true) × (keeps_cells M letters memory rows p ≡ true)
    row_of p live =
        let t = and_parts (leb (M.span p) most_span) _ (keeps p (ltb-true p rows live)) in
        let s = and_parts (keeps_end M p) (keeps_cells M letters memory rows p) t.1 in
        (t.0, s.0, s.1)

    after : (p a q : ℕ) → M.live p ≡ true → M.next p a ≡ Some q → keeps_after M p a (Some q) ≡ true
    after p a q live e =
        let c = column_of p a q e in
        let test = (all_decides (keeps_cell M letters memory rows p) (length letters)).0 (row_of p live).2 c.0 c.1 in
        let names : cell_at letters memory rows p c.0 ≡ Some q = cond-true _ _ _ live ∙ c.3 in
        ap (λ x. keeps_after M p x (Some q)) (sym c.2) ∙ ap (keeps_after M p (get_or letters c.0 0)) (sym names) ∙ test

    after_parts : (p a q : ℕ) → M.live p ≡ true → M.next p a ≡ Some q
        → (M.live q ≡ true) × ((eqb a end || ltb (M.span q) (M.span p)) ≡ true) × ((not (insertable a) || leb (M.owed p) (M.owed q + 1)) ≡ true)
    after_parts p a q live e =
        let t = and_parts (M.live q) _ (after p a q live e) in
        let s = and_parts (eqb a end || ltb (M.span q) (M.span p)) _ t.1 in
        (t.0, s.0, s.1)

    leads' : (p : ℕ) → M.live p ≡ true → 0 < M.owed p → (a : ℕ) × (q : ℕ) × Leads M p a q
    leads' p live pos = leads_tell M p (M.lead p) refl (lead_tells _ (M.owed p) _ (row_of p live).1 pos)

    lead_there : (p : ℕ) → M.live p ≡ true → 0 < row_owed letters memory p → option_is_some (and_then (entry letters memory p (length letters + 2)) held_letter) ≡ true
    lead_there p live pos =
        let owes : M.owed p ≡ row_owed letters memory p = cond-true _ _ _ live in
        let w = leads' p live (omega (arith, owes)) in
        let lead : M.lead p ≡ and_then (entry letters memory p (length letters + 2)) held_letter = cond-true (ltb p rows) (row_lead letters memory p) None live ∙ cond-true _ _ _ (lt-ltb 0 (row_owed letters memory p) pos) in
        ap option_is_some (sym lead ∙ w.2.is_lead)

    shorter' : (p a q : ℕ) → M.live p ≡ true → (a ≡ end → ⊥) → M.next p a ≡ Some q → M.span q < M.span p
    shorter' p a q live apart e =
        ⊎_elim
        (λ is. absurd (apart (eqb-true a end is)))
        (λ less. ltb-true _ _ less)
        (or_cases (eqb a end) _ (after_parts p a q live e).1)

    slow' : (p a q : ℕ) → M.live p ≡ true → insertable a ≡ true → M.next p a ≡ Some q → M.owed p ≤ M.owed q + 1
    slow' p a q live can e =
        ⊎_elim
        (λ cannot. absurd (both_ways (insertable a) (not-true (insertable a) cannot) can))
        (λ fine. leb-true _ _ fine)
        (or_cases (not (insertable a)) _ (after_parts p a q live e).2)

    no_letter : (p a : ℕ) → option_is_some (letter a) ≡ false → M.next p a ≡ None
    no_letter p a h =
        ⊎_elim
        (λ t. let s = is_some (M.next p a) t in
        let c = column_of p a s.0 s.1 in
        absurd (both_ways (option_is_some (letter a)) h (ap (λ (x : ℕ). option_is_some (letter x)) (sym c.2) ∙ letter_at letters c.0 each c.1)))
        (λ f. none_of (M.next p a) f)
        (cases_Bool (option_is_some (M.next p a)))

    dead' : (p : ℕ) → M.live p ≡ false → Dead M p
    dead' p h = record {
      no_next = λ a. cond-false _ _ _ h;
      no_owed = cond-false _ _ _ h;
      no_span = cond-false _ _ _ h;
      no_lead = cond-false _ _ _ h;
    }

    sound : 0 < rows → rows ≤ most_places → ((p : ℕ) → p < rows → row_owed letters memory p ≤ most) → Lawful M
    sound one few over = record {
      meant = record {
        starts = lt-ltb 0 rows one;
        within = λ p live. ltb-true p rows live;
        dead = dead';
        led = λ p. given_live (ltb p rows) (row_owed letters memory p) _ (lead_there p);
        lettered = no_letter;
      };
      laws = record {
        stays = λ p a q live e. (after_parts p a q live e).0;
        ends = λ p live. end_tells _ (M.owed p) _ (row_of p live).1;
        at_most = λ p live. let owes : M.owed p ≡ row_owed letters memory p = cond-true _ _ _ live in omega (arith, owes, over p (ltb-true p rows live));
        leads = leads';
        slow = slow';
        shorter = shorter';
        bounded = λ p live. leb-true _ _ (row_of p live).0;
        few = few;
      };
    }

  complete : ascending_from 0 letters ≡ true → Lawful M → (p : ℕ) → p < rows → keeps_row M letters memory rows p ≡ true
  complete ascends lawful p inside =
      let laws = lawful.laws in
      let live : M.live p ≡ true = lt-ltb p rows inside in
      and_from (leb (M.span p) most_span) _ (le-leb _ _ (laws.bounded p live))
      (and_from (keeps_end M p) (keeps_cells M letters memory rows p)
      (end_told (option_is_some (M.next p end)) (M.owed p) (leads_on M p (M.lead p)) (laws.ends p live) (λ pos. let w = laws.leads p live pos in leads_told M p w.0 w.1 w.2))
      ((all_decides (keeps_cell M letters memory rows p) (length letters)).1
      (λ j below. after_told M laws p (get_or letters j 0) (cell_at letters memory rows p j) live
      (ap (λ o. cond (ltb p rows) (and_then o (cell letters memory p)) None) (position_of letters 0 0 j ascends below ∙ ap Some (start j))))))

-- the tests of all rows, whatever `most` is said to be
abbrev pub tests : List ℕ → List ℕ → ℕ → ℕ → Bool
tests letters memory rows most = all_below (keeps_row (tabled_with letters memory rows most) letters memory rows) rows

-- rows that pass the tests, whose answer is r, are lawful with their largest owed
pub rows_lawful : (letters memory : List ℕ) (rows most : ℕ) (r : Bool) → each_a_letter letters ≡ true → 0 < rows → rows ≤ most_places
    → r ≡ tests letters memory rows most → r ≡ true → Lawful (tabled letters memory rows)
rows_lawful letters memory rows most r each one few e t =
    sound letters memory rows _ each ((all_decides _ rows).0 (sym e ∙ t)) one few (λ p inside. largest_over (row_owed letters memory) rows p inside)

-- rows that fail them are not
pub rows_unlawful : (letters memory : List ℕ) (rows most : ℕ) (r : Bool) → ascending_from 0 letters ≡ true
    → r ≡ tests letters memory rows most → r ≡ false → Lawful (tabled letters memory rows) → ⊥
rows_unlawful letters memory rows most r ascends e t lawful =
    both_ways (tests letters memory rows most) (sym e ∙ t) ((all_decides _ rows).1 (complete letters memory rows _ ascends lawful))
