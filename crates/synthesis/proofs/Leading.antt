-- The lead of a place, from the first letter that lowers what it owes.
use Rattle.std.proofs.Common.{◌≡◌, ℕ, ◌+◌, ◌<◌, ◌≤◌, Bool, true, false, List, length, get_or, unwrap_or, MatchOption, option_map, Some, None, Option, sym, refl, ap, ◌∙◌, inl, inr, arith}
use Rattle.std.proofs.lemmas.Bool.{and_parts, and_from, cases_eq, eqb-true, eq-eqb, true≢false, false≢true}
use Rattle.letters.specs.Letters.{insertable}
use Rattle.rules.specs.Tabled.{no_row}
use Rattle.places.specs.Loops.{Loop}
use Rattle.synthesis.specs.Fillable.{Fillable}
use Rattle.synthesis.specs.Marks.{Marked, onward}
use Rattle.synthesis.specs.Weighed.{AllWeighed, owes_less, lowers}
use Rattle.synthesis.specs.Weights.{Inserts, Lead}
use Rattle.synthesis.specs.declared.weighed.Weighed.{Weighed}
use Rattle.synthesis.proofs.Paths.{marked_some, onward_is}
use Rattle.synthesis.proofs.Weighing.{lead_nothing, lead_found, lead_absent}

-- the first number below n at which a test gives true, or none
abbrev pub First : ℕ → (ℕ → Bool) → Option ℕ → Type 0
First n test o =
    MatchOption o
    ((k : ℕ) → 0 ≤ k → k < n → test k ≡ false)
    (λ j. (0 ≤ j) × (j < n) × (test j ≡ true) × ((k : ℕ) → 0 ≤ k → k < j → test k ≡ false))

module _ (r : Loop) (w : Weighed) (p l : ℕ) where
  abbrev Less : ℕ → Type 0
  Less q = get_or w.owed.now q 0 + 1 ≡ get_or w.owed.now p 0

  lowers_some : lowers r w p l ≡ true → (q : ℕ) × Inserts r w.rows.now p l q × Less q
  lowers_some e =
      let a = and_parts (insertable l) (owes_less w p (onward r w.rows.now p l)) e in
      go (onward r w.rows.now p l) refl a.0 a.1
    where
      go : (o : Option ℕ) → onward r w.rows.now p l ≡ o → insertable l ≡ true → owes_less w p o ≡ true → (q : ℕ) × Inserts r w.rows.now p l q × Less q
      go None s i f = absurd (false≢true f)
      go (Some q) s i f = let on = marked_some w.rows.now (r.next p l) q s in (q, (i, on.0, on.1), eqb-true (get_or w.owed.now q 0 + 1) (get_or w.owed.now p 0) f)

  lowers_none : lowers r w p l ≡ false → (q : ℕ) → Inserts r w.rows.now p l q → Less q → ⊥
  lowers_none f q i e =
      let s : owes_less w p (onward r w.rows.now p l) ≡ true = ap (owes_less w p) (onward_is r w.rows.now p l q i.1 i.2) ∙ eq-eqb (get_or w.owed.now q 0 + 1) (get_or w.owed.now p 0) e in
      true≢false (sym (and_from (insertable l) (owes_less w p (onward r w.rows.now p l)) i.0 s) ∙ f)

module _ (r : Loop) (letters : List ℕ) (fair : Fillable r letters) (w : Weighed) (all : AllWeighed r w) (p : ℕ) (m : Marked w.rows.now p) where
  abbrev pub test : ℕ → Bool
  test j = lowers r w p (get_or letters j 0)

  pub lead : (o : Option ℕ) → First (length letters) test o → Lead r p (unwrap_or (option_map (λ j. get_or letters j 0) o) no_row)
  lead None f = elim (cases_eq (get_or w.owed.now p 0) 0) [
    | inl z ↦ lead_nothing r letters w.rows.now fair all.numbered.rowed p m w.owed.now all.owes z
    | inr d ↦ absurd (lead_absent r letters w.rows.now fair all.numbered.rowed p m w.owed.now all.owes d (λ i h. lowers_none r w p (get_or letters i 0) (f i (omega arith) h)))
  ]
  lead (Some j) f =
      let x = lowers_some r w p (get_or letters j 0) f.2 in
      lead_found r letters w.rows.now fair all.numbered.rowed p m w.owed.now all.owes j f.1 (λ i h. lowers_none r w p (get_or letters i 0) (f.3 i (omega arith) h)) x.0 x.1 x.2
