-- The line of cycles that are closed as soon as they are begun.
use Rattle.std.proofs.Common.{◌≡◌, ℕ, zero, suc, ◌+◌, ◌<◌, ◌≤◌, Bool, true, false, cond, not, ◌&&◌, ◌||◌, ◌↔◌, eqb, List, [], ◌∷◌, ◌++◌, length, is_some as option_is_some, Some, refl, sym, ap, ◌∙◌, subst, inl, inr, arith, length-append, append_assoc}
use Rattle.std.proofs.lemmas.Bool.{false≢true, true≢false, cases_Bool, cases_lt, and_parts, or_cases, not-true, not_from_true, eqb-true, and_from, lt-leb, cond-true, cond-false}
use Rattle.letters.specs.Letters.{end, insertable}
use Rattle.rules.specs.Lists.{follow_by, Admitted, Led, done, more}
use Rattle.rules.specs.Meaning.{Meaning, Lawful}
use Rattle.rules.proofs.Follows.{is_some, follow_live, closes, closed}
use Rattle.rules.proofs.Leads.{led_follow, led_long}
use Rattle.places.specs.Loops.{Loop, Live, Fair}
use Rattle.guard.specs.declared.runs.Call.TheVariants.{Close}
use Rattle.guard.specs.declared.runs.Guard.TheVariants.{AtRest}
use Rattle.guard.specs.Calls as C
use Rattle.guard.specs.Calls.{Closing, resting, running, closing, close_place, ByLeads}
use Rattle.guard.specs.Histories.{event, close_step, events}
use Rattle.guard.specs.Runs.{line}
use Rattle.guard.proofs.Walking.{close_led}
use Rattle.synthesis.proofs.Paths.{some_same, first_step, step_on}
use Rattle.cases.specs.Claims as K
use Rattle.cases.proofs.Trying.{each_letter, leads_to, each_at, leads_in, leads_of}
use Rattle.cases.proofs.Deciding.{live, settled, live_sound, live_complete}

-- where nothing is owed there are no leads
led_done : (m : Meaning) {p : ℕ} {xs : List ℕ} {r : ℕ} → Led m p xs r → m.owed p ≡ 0 → (xs ≡ []) × (r ≡ p)
led_done m (done e) z = (refl, refl)
led_done m (more pos lead goes led) z = absurd (omega arith)

-- where something is owed there is a first lead
led_more : (m : Meaning) {p : ℕ} {xs : List ℕ} {r : ℕ} → Led m p xs r → 0 < m.owed p
    → (a : ℕ) × (q : ℕ) × (ys : List ℕ) × (xs ≡ a ∷ ys) × (m.lead p ≡ Some a) × (m.next p a ≡ Some q) × Led m q ys r
led_more m (done e) h = absurd (omega arith)
led_more m (more {a = a} {q = q} {xs = ys} pos lead goes led) h = (a, q, ys, refl, lead, goes, led)

line_done : (a : ℕ) (rest way : List ℕ) → a ≡ end → way ≡ [] → a ∷ rest ≡ way ++ end ∷ rest
line_done a rest way e f = ap (λ b. b ∷ rest) e ∙ ap (λ ys. ys ++ end ∷ rest) (sym f)

line_more : (a d : ℕ) (rest later way after : List ℕ) → d ≡ a → rest ≡ later ++ end ∷ after → way ≡ d ∷ later → a ∷ rest ≡ way ++ end ∷ after
line_more a d rest later way after e f g = ap (λ b. b ∷ rest) (sym e) ∙ ap (λ ys. d ∷ ys) f ∙ ap (λ ys. ys ++ end ∷ after) (sym g)

module _ (r : Loop) (letters : List ℕ) where
  -- no other insertable letter leads from p to a live place
  abbrev only : ℕ → ℕ → Bool
  only p a = each_letter (λ l. eqb l a || not (insertable l && leads_to (live r letters) (r.next p l))) letters

  -- the only line of n cycles from p that are closed as soon as they are begun
  abbrev pub spells : ℕ → ℕ → List ℕ → Bool
  spells zero p [] = true
  spells zero p (a ∷ rest) = false
  spells (suc n) p [] = false
  spells (suc n) p (a ∷ rest) =
      cond (leads_to (live r letters) (r.next p end))
      (eqb a end && leads_to (λ q. spells n q rest) (r.next p end))
      (only p a && leads_to (λ q. spells (suc n) q rest) (r.next p a))

  module _ (m : Meaning) (lawful : Lawful m) (fair : Fair r letters) (ok : settled r letters ≡ true) where
    -- the rule admits from i the lists that lead from p to a live place
    abbrev pub Same : ℕ → ℕ → Type 0
    Same i p = (u : List ℕ) → Admitted m i u ↔ ((q : ℕ) × (follow_by r.next p u ≡ Some q) × Live r q)

    same_on : (i p a j q : ℕ) → Same i p → m.next i a ≡ Some j → r.next p a ≡ Some q → Same j q
    same_on i p a j q s e f u = (
      λ h.
          let x = (s (a ∷ u)).0 (ap option_is_some (step_on m.next i a j u e) ∙ h) in
          (x.0, sym (step_on r.next p a q u f) ∙ x.1, x.2),
      λ x. ap option_is_some (sym (step_on m.next i a j u e)) ∙ (s (a ∷ u)).1 (x.0, step_on r.next p a q u f ∙ x.1, x.2),
    )

    -- a letter is admitted at i exactly where it leads from p to a live place
    letter_on : (i p a q : ℕ) → Same i p → r.next p a ≡ Some q → Live r q → (j : ℕ) × (m.next i a ≡ Some j)
    letter_on i p a q s e v =
        let x = is_some (follow_by m.next i (a ∷ [])) ((s (a ∷ [])).1 (q, step_on r.next p a q [] e, v)) in
        let y = first_step m.next i a [] x.0 x.1 in
        (y.0, y.1)

    letter_back : (i p a j : ℕ) → Same i p → m.next i a ≡ Some j → (q : ℕ) × (r.next p a ≡ Some q) × Live r q
    letter_back i p a j s e =
        let x = (s (a ∷ [])).0 (ap option_is_some (step_on m.next i a j [] e)) in
        let y = first_step r.next p a [] x.0 x.1 in
        (y.0, y.1, subst (Live r) (sym (some_same _ _ y.2)) x.2)

    -- where the end leads to no live place something is owed
    owes_some : (i p : ℕ) → p < r.size → m.live i ≡ true → Same i p → leads_to (live r letters) (r.next p end) ≡ false → 0 < m.owed i
    owes_some i p h v s f = elim (cases_lt 0 (m.owed i)) [
      | inl k ↦ k
      | inr k ↦
          let x = is_some (m.next i end) (closes m lawful.laws i v (omega arith)) in
          let b = letter_back i p end x.0 s x.1 in
          let there = leads_of (live r letters) (r.next p end) b.0 b.1 (live_complete r letters fair ok b.0 (fair.stays p end b.0 h b.1) b.2) in
          absurd (true≢false (sym there ∙ f))
    ]

    only_one : (p a l q : ℕ) → p < r.size → only p a ≡ true → insertable l ≡ true → r.next p l ≡ Some q → leads_to (live r letters) (r.next p l) ≡ true → l ≡ a
    only_one p a l q h e i f t =
        elim (or_cases (eqb l a) _ (each_at (λ l. eqb l a || not (insertable l && leads_to (live r letters) (r.next p l))) letters l e (fair.lettered p l q h f))) [
          | inl k ↦ eqb-true l a k
          | inr k ↦ absurd (true≢false (sym (and_from (insertable l) (leads_to (live r letters) (r.next p l)) i t) ∙ not-true _ k))
        ]

    -- one cycle: the leads from i and the end, and what is left of the line
    pub record Cycle (n i last : ℕ) (way letters_left : List ℕ) : Type 0 where
      pub after : List ℕ
      pub place : ℕ
      pub row : ℕ
      pub line_is : letters_left ≡ way ++ end ∷ after
      pub ends : m.next last end ≡ Some row
      pub inside : place < r.size
      pub same : Same row place
      pub left : spells n place after ≡ true

    cycle : (rest : List ℕ) (n p i : ℕ) (way : List ℕ) (last : ℕ) → p < r.size → m.live i ≡ true → Same i p → spells (suc n) p rest ≡ true → Led m i way last
        → Cycle n i last way rest
    cycle [] n p i way last h v s e led = absurd (false≢true e)
    cycle (a ∷ rest) n p i way last h v s e led = elim (cases_Bool (leads_to (live r letters) (r.next p end))) [
      | inl t ↦
          let g = leads_in (live r letters) (r.next p end) t in
          let x = letter_on i p end g.0 s g.1 (live_sound r letters g.0 g.2) in
          let d = led_done m led (closed m lawful.laws i v (ap option_is_some x.1)) in
          let parts = and_parts (eqb a end) _ (sym (cond-true _ _ _ t) ∙ e) in
          let w = leads_in (λ q. spells n q rest) (r.next p end) parts.1 in
          record {
            after = rest;
            place = w.0;
            row = x.0;
            line_is = line_done a rest way (eqb-true a end parts.0) d.0;
            ends = ap (λ k. m.next k end) d.1 ∙ x.1;
            inside = fair.stays p end w.0 h w.1;
            same = same_on i p end x.0 w.0 s x.1 w.1;
            left = w.2;
          }
      | inr f ↦
          let parts = and_parts (only p a) _ (sym (cond-false _ _ _ f) ∙ e) in
          let w = leads_in (λ q. spells (suc n) q rest) (r.next p a) parts.1 in
          let d = led_more m led (owes_some i p h v s f) in
          let law = lawful.laws.leads i v (owes_some i p h v s f) in
          let lead : law.0 ≡ d.0 = some_same _ _ (sym law.2.is_lead ∙ d.4) in
          let b = letter_back i p d.0 d.1 s d.5 in
          let there = leads_of (live r letters) (r.next p d.0) b.0 b.1 (live_complete r letters fair ok b.0 (fair.stays p d.0 b.0 h b.1) b.2) in
          let same : d.0 ≡ a = only_one p a d.0 b.0 h parts.0 (ap insertable (sym lead) ∙ law.2.can) b.1 there in
          let goes : r.next p d.0 ≡ Some w.0 = ap (r.next p) same ∙ w.1 in
          let later = cycle rest n w.0 d.1 d.2 last (fair.stays p a w.0 h w.1) (lawful.laws.stays i d.0 d.1 v d.5) (same_on i p d.0 d.1 w.0 s d.5 goes) w.2 d.6 in
          record {
            after = later.after;
            place = later.place;
            row = later.row;
            line_is = line_more a d.0 rest d.2 way later.after same later.line_is d.3;
            ends = later.ends;
            inside = later.inside;
            same = later.same;
            left = later.left;
          }
    ]

    -- what is left of a run, at a close
    abbrev Closed : ℕ → ℕ → ℕ → Closing → List ℕ → Type 0
    Closed n i room x rest =
        line (event (Close room) (close_step m x (running i 0)) ∷ events m (close_step m x (running i 0)).guard (K.rounds room n)) ≡ rest

    pub line_of : (n : ℕ) (rest : List ℕ) (p i room : ℕ) → p < r.size → m.live i ≡ true → Same i p → spells n p rest ≡ true → length rest ≤ room
        → line (events m (AtRest (resting i)) (K.rounds room n)) ≡ rest
    unfolding line events
    line_of zero [] p i room h v s e few = refl
    line_of zero (a ∷ rest) p i room h v s e few = absurd (false≢true e)
    line_of (suc n) rest p i room h v s e few =
        let g = running i 0 in
        let b = close_led m lawful g v in
        let c = cycle rest n p i b.way b.last h v s e b.led in
        let long : length rest ≡ length b.way + suc (length c.after) = ap length c.line_is ∙ length-append b.way (end ∷ c.after) in
        let owed : length b.way ≡ m.owed i = led_long m lawful.laws v b.led in
        let row_is : c.row ≡ close_place m g = some_same _ _ (sym c.ends ∙ b.ends) in
        let later = line_of n c.after c.place c.row room c.inside (lawful.laws.stays b.last end c.row (last_live b) c.ends) c.same c.left (omega arith) in
        let there = subst (λ k. line (events m (AtRest (resting k)) (K.rounds room n)) ≡ c.after) row_is later in
        let is_closed : closing m g room ≡ C.closed = cond-false _ _ _ (not_from_true (m.live i) v) ∙ cond-false _ _ _ (lt-leb room (m.owed i) (omega arith)) in
        subst (λ x. Closed n i room x rest) (sym is_closed)
        (ap (λ ys. ys ++ line (events m (AtRest (resting (close_place m g))) (K.rounds room n))) b.writes
        ∙ ap (λ ys. (b.way ++ end ∷ []) ++ ys) there ∙ append_assoc b.way (end ∷ []) c.after ∙ sym c.line_is)
      where
        last_live : (b : ByLeads m (running i 0) (resting (close_place m (running i 0)), m.owed i + 1) (C.close_writes m (running i 0) C.closed)) → m.live b.last ≡ true
        last_live b = follow_live m lawful.laws i b.way b.last v (led_follow m b.led)
