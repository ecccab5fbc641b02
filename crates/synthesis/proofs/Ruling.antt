-- A filled table is a lawful rule: inside its rows the rule reads what stands in the memory.
use Rattle.std.proofs.Common.{◌≡◌, ℕ, ◌+◌, ◌*◌, ◌<◌, ◌≤◌, Bool, true, false, cond, eqb, ltb, ◌↔◌, List, [], ◌∷◌, length, is_some as option_is_some, Some, None, Option, unwrap_or, sym, refl, ap, ◌∙◌, inl, inr, arith}
use Rattle.std.proofs.lemmas.Nat.{mul-add-lt}
use Rattle.std.proofs.lemmas.Bool.{both_ways, cases_Bool, ltb-true, lt-ltb, cond-true, cond-false}
use Rattle.std.proofs.lemmas.Bool.Decides.{nat_tests}
use Rattle.letters.specs.Letters.{letter, letter_bound, end, insertable}
use Rattle.letters.specs.Alphabets.{position, each_a_letter}
use Rattle.rules.specs.Meaning.{Meaning, Dead, Leads, Meant, Laws, most_places}
use Rattle.rules.specs.Lists.{and_then, follow_by, Admits}
use Rattle.rules.specs.Tabled as T
use Rattle.rules.specs.Tabled.{width, entry, row_named, held_letter, tabled}
use Rattle.rules.proofs.Below.{largest_over}
use Rattle.rules.proofs.Follows.{is_some}
use Rattle.rules.proofs.Positions.{letter_at}
use Rattle.places.specs.Loops.{LeadsToLive}
use Rattle.synthesis.specs.Laws.{RowLaws}
use Rattle.synthesis.specs.Rows.{column, row_owed, row_span, row_lead, next_row}
use Rattle.synthesis.specs.Ruled.{FilledTablesAreRules}
use Rattle.synthesis.proofs.Laws.{rows_are_lawful}
use Rattle.synthesis.proofs.Letters.{position_at}

-- an insertable letter is a letter, which its type holds
insertable_held : (a : ℕ) → insertable a ≡ true → a < letter_bound
insertable_held a can = grind (arith, nat_tests)

pub same_then : (f g : ℕ → Option ℕ) (o : Option ℕ) → ((q : ℕ) → o ≡ Some q → f q ≡ g q) → and_then o f ≡ and_then o g
same_then f g None h = refl
same_then f g (Some q) h = h q refl

none_either : (b : Bool) → cond {A = Option ℕ} b None None ≡ None
none_either true = refl
none_either false = refl

module _ (letters table : List ℕ) (count : ℕ) (room : count * width letters ≤ length table) where
  abbrev M : Meaning
  M = tabled letters table count

  -- the rule at a row, which lies in the memory
  live_at : (i : ℕ) → i < count → ltb i count ≡ true
  live_at i h = lt-ltb i count h

  entry_is : (i j : ℕ) → i < count → j < width letters → entry letters table i j ≡ Some (column letters table i j)
  unfolding entry
  entry_is i j h k =
      let fits : i * width letters + j < length table = omega (arith, mul-add-lt i (width letters) j count h k) in
      cond-true _ _ _ (lt-ltb _ _ fits)

  amount_is : (i j : ℕ) → i < count → j < width letters → T.amount letters table i j ≡ column letters table i j
  amount_is i j h k = ap (λ (o : Option ℕ). unwrap_or o 0) (entry_is i j h k)

  next_is : (i a : ℕ) → i < count → M.next i a ≡ next_row letters table i a
  next_is i a h =
      cond-true _ _ _ (live_at i h)
      ∙ same_then (T.cell letters table i) (λ j. row_named (column letters table i j)) (position letters a)
      (λ j e. ap (λ (o : Option ℕ). and_then o row_named) (entry_is i j h (omega (arith, (position_at letters a j e).0))))

  owed_is : (i : ℕ) → i < count → M.owed i ≡ row_owed letters table i
  owed_is i h = cond-true _ _ _ (live_at i h) ∙ amount_is i (length letters) h (omega arith)

  span_is : (i : ℕ) → i < count → M.span i ≡ row_span letters table i
  span_is i h = cond-true _ _ _ (live_at i h) ∙ amount_is i (length letters + 1) h (omega arith)

  lead_is : (i : ℕ) → i < count → 0 < row_owed letters table i → row_lead letters table i < letter_bound → M.lead i ≡ Some (row_lead letters table i)
  lead_is i h d small =
      let owes : T.row_owed letters table i ≡ row_owed letters table i = amount_is i (length letters) h (omega arith) in
      let due : 0 < T.row_owed letters table i = omega arith in
      cond-true _ _ _ (live_at i h)
      ∙ cond-true _ _ _ (lt-ltb 0 (T.row_owed letters table i) due)
      ∙ ap (λ (o : Option ℕ). and_then o held_letter) (entry_is i (length letters + 2) h (omega arith))
      ∙ cond-true _ _ _ (lt-ltb (row_lead letters table i) letter_bound small)

  -- past the rows
  dead : (p : ℕ) → M.live p ≡ false → Dead M p
  dead p h = record {
    no_next = λ a. cond-false _ _ _ h;
    no_owed = cond-false _ _ _ h;
    no_span = cond-false _ _ _ h;
    no_lead = cond-false _ _ _ h;
  }

  lettered : each_a_letter letters ≡ true → (p a : ℕ) → option_is_some (letter a) ≡ false → M.next p a ≡ None
  lettered each p a h =
      ap (λ (o : Option ℕ). cond (ltb p count) o None) (same_then (T.cell letters table p) (λ j. None) (position letters a) stands ∙ nowhere (position letters a))
      ∙ none_either (ltb p count)
    where
      stands : (j : ℕ) → position letters a ≡ Some j → T.cell letters table p j ≡ None
      stands j e =
          let x = position_at letters a j e in
          absurd (both_ways (option_is_some (letter a)) h (ap (λ (l : ℕ). option_is_some (letter l)) (sym x.1) ∙ letter_at letters j each x.0))

      nowhere : (o : Option ℕ) → and_then o (λ j. None) ≡ None
      nowhere None = refl
      nowhere (Some j) = refl

  module _ (laws : RowLaws letters table count) where
    leads_at : (p : ℕ) → p < count → 0 < row_owed letters table p → (a : ℕ) × (q : ℕ) × Leads M p a q
    leads_at p h d =
        let x = laws.leads p h d in
        let k = laws.stays p (row_lead letters table p) x.0 h x.1.goes in (
          row_lead letters table p,
          x.0,
          record {
            is_lead = lead_is p h d (insertable_held (row_lead letters table p) x.1.can);
            can = x.1.can;
            goes = next_is p (row_lead letters table p) h ∙ x.1.goes;
            less = omega (arith, owed_is p h, owed_is x.0 k, x.1.less);
          },
        )

    led : (p : ℕ) → option_is_some (M.lead p) ≡ ltb 0 (M.owed p)
    led p = elim (cases_Bool (ltb p count)) [
      | inl t ↦ led_inside p (ltb-true p count t)
      | inr f ↦ ap option_is_some (dead p f).no_lead ∙ ap (ltb 0) (sym (dead p f).no_owed)
    ]
      where
        led_inside : (p : ℕ) → p < count → option_is_some (M.lead p) ≡ ltb 0 (M.owed p)
        led_inside p h = elim (cases_Bool (ltb 0 (T.row_owed letters table p))) [
          | inl t ↦
              let owes : T.row_owed letters table p ≡ row_owed letters table p = amount_is p (length letters) h (omega arith) in
              let x = leads_at p h (omega (arith, ltb-true 0 (T.row_owed letters table p) t)) in
              ap option_is_some x.2.is_lead ∙ sym t ∙ ap (ltb 0) (sym (cond-true _ _ _ (live_at p h)))
          | inr f ↦
              ap option_is_some (cond-true _ _ _ (live_at p h) ∙ cond-false _ _ _ f) ∙ sym f ∙ ap (ltb 0) (sym (cond-true _ _ _ (live_at p h)))
        ]

    meant : 0 < count → each_a_letter letters ≡ true → Meant M
    meant one each = record {
      starts = lt-ltb 0 count one;
      within = λ p live. ltb-true p count live;
      dead = dead;
      led = led;
      lettered = lettered each;
    }

    after : (p a q : ℕ) → p < count → M.next p a ≡ Some q → (next_row letters table p a ≡ Some q) × (q < count)
    after p a q h e =
        let g = sym (next_is p a h) ∙ e in
        (g, laws.stays p a q h g)

    slow : (p a q : ℕ) → p < count → insertable a ≡ true → M.next p a ≡ Some q → M.owed p ≤ M.owed q + 1
    slow p a q h can e =
        let x = after p a q h e in
        omega (arith, owed_is p h, owed_is q x.1, laws.slow p a q h can x.0)

    shorter : (p a q : ℕ) → p < count → (a ≡ end → ⊥) → M.next p a ≡ Some q → M.span q < M.span p
    shorter p a q h apart e =
        let x = after p a q h e in
        omega (arith, span_is p h, span_is q x.1, laws.shorter p a q h apart x.0)

    at_most : (p : ℕ) → p < count → M.owed p ≤ M.most
    at_most p h =
        let owes : M.owed p ≡ T.row_owed letters table p = cond-true _ _ _ (live_at p h) in
        omega (arith, largest_over (T.row_owed letters table) count p h)

    lawful_laws : count ≤ most_places → Laws M
    lawful_laws few = record {
      stays = λ p a q live e. lt-ltb q count (after p a q (ltb-true p count live) e).1;
      ends = λ p live. let h = ltb-true p count live in ap option_is_some (next_is p end h) ∙ laws.ends p h ∙ ap (λ (n : ℕ). eqb n 0) (sym (owed_is p h));
      at_most = λ p live. at_most p (ltb-true p count live);
      leads = λ p live d. let h = ltb-true p count live in leads_at p h (omega (arith, owed_is p h));
      slow = λ p a q live. slow p a q (ltb-true p count live);
      shorter = λ p a q live. shorter p a q (ltb-true p count live);
      bounded = λ p live. let h = ltb-true p count live in omega (arith, span_is p h, laws.bounded p h);
      few = few;
    }

    -- the rule follows a list as the memory does
    follow_is : (t : List ℕ) (i : ℕ) → i < count → follow_by M.next i t ≡ follow_by (next_row letters table) i t
    follow_is [] i h = refl
    follow_is (a ∷ t) i h =
        ap (λ (o : Option ℕ). and_then o (λ q. follow_by M.next q t)) (next_is i a h)
        ∙ same_then (λ q. follow_by M.next q t) (λ q. follow_by (next_row letters table) q t) (next_row letters table i a) (λ q e. follow_is t q (laws.stays i a q h e))

pub filled_tables_are_rules : FilledTablesAreRules
filled_tables_are_rules r letters table count fillable each a = record {
  lawful = record { meant = meant letters table count a.room laws a.some_row each; laws = lawful_laws letters table count a.room laws (omega (arith, a.few, fillable.small)) };
  admits = admits;
  few = a.few;
  some_row = a.some_row;
  room = a.room;
}
  where
    laws : RowLaws letters table count
    laws = rows_are_lawful r letters table count fillable a

    same : (t : List ℕ) → follow_by (tabled letters table count).next 0 t ≡ follow_by (next_row letters table) 0 t
    same t = follow_is letters table count a.room laws t 0 a.some_row

    admits : (t : List ℕ) → Admits (tabled letters table count) t ↔ LeadsToLive r t
    admits t = (
      λ h. let x = is_some (follow_by (tabled letters table count).next 0 t) h in
          (a.admitted t).0 (x.0, sym (same t) ∙ x.1),
      λ l. let x = (a.admitted t).1 l in ap option_is_some (same t ∙ x.1),
    )
