-- Drawing the places: the columns, a line of cells, and that the loop that is drawn agrees with the one that was meant.
use Rattle.std.proofs.Common.{◌≡◌, ℕ, ◌+◌, ◌*◌, ◌<◌, true, ◌≢◌, List, length, get_or, set, replicate, Some, None, Option, sym, refl, ap, ◌∙◌, inl, inr, arith, length-set, get_or-set_other, get_or-set_same, below_more}
use lib.ListN.{length-replicate, get_or-replicate}
use Rattle.std.proofs.lemmas.List.{get_or_default, get_or_past}
use Rattle.std.proofs.lemmas.Nat.{mul-add-lt}
use Rattle.std.proofs.lemmas.Bool.{cases_eq, cases_lt}
use Rattle.letters.specs.Alphabets.{ascending_from}
use Rattle.letters.specs.Letters.{letter_bound}
use Rattle.rules.specs.Lists.{and_then}
use Rattle.rules.specs.Tabled.{no_row, row_named, width}
use Rattle.rules.proofs.Follows.{none_some}
use Rattle.places.specs.Loops.{Loop, Fair}
use Rattle.synthesis.specs.Drawn.{Line, Lines, Columned, drawing}
use Rattle.synthesis.proofs.Agreeing.{Agree}
use Rattle.synthesis.proofs.Letters.{among_at, ascends}
use Rattle.synthesis.proofs.Paths.{some_same}

-- no letter has a column
pub columned_none : (letters : List ℕ) → Columned letters (replicate letter_bound None) 0
columned_none letters = record { long = length-replicate {A = Option ℕ} letter_bound None; at = λ j h. absurd (omega arith); only = λ l j e. absurd (none_some (sym (nothing l) ∙ e)) }
  where
    nothing : (l : ℕ) → get_or (replicate {A = Option ℕ} letter_bound None) l None ≡ None
    nothing l = elim (cases_lt l letter_bound) [ inl h ↦ get_or-replicate letter_bound l None None h | inr h ↦ get_or_past (replicate letter_bound None) l None (omega (arith, length-replicate {A = Option ℕ} letter_bound None)) ]

-- one letter more has a column
pub columned_more : (letters : List ℕ) (columns : List (Option ℕ)) (j : ℕ) → ascending_from 0 letters ≡ true → j < length letters → get_or letters j 0 < letter_bound
    → Columned letters columns j → Columned letters (set columns (get_or letters j 0) (Some j)) (j + 1)
columned_more letters columns j asc h small a =
    let l = get_or letters j 0 in
    let here : l < length columns = omega (arith, a.long) in
    record {
      long = length-set columns l (Some j) ∙ a.long;
      at = below_more _ _
          (λ i k. let less = ascends 0 letters i j asc k h in
          let d : get_or letters i 0 ≢ l = λ z. omega arith in
          get_or-set_other columns l (get_or letters i 0) (Some j) None d ∙ a.at i k)
          (get_or-set_same columns l (Some j) None here);
      only = λ k i e. elim (cases_eq k l) [
        | inl z ↦
            let s : j ≡ i = some_same j i (sym (ap (λ (x : ℕ). get_or (set columns l (Some j)) x None) z ∙ get_or-set_same columns l (Some j) None here) ∙ e) in
            (omega arith, ap (λ (x : ℕ). get_or letters x 0) (sym s) ∙ sym z)
        | inr n ↦ let x = a.only k i (sym (get_or-set_other columns l k (Some j) None n) ∙ e) in (omega (arith, x.0), x.1)
      ];
    }

-- what the cell j of a line names is what the letter j leads to
pub line_next : (r : Loop) (letters line : List ℕ) (p j : ℕ) (o : Option ℕ) → Line r letters p line → j < length letters → j < length line → o ≡ row_named (get_or line j 0) → o ≡ r.next p (get_or letters j 0)
line_next r letters line p j o a h k e = e ∙ ap row_named (get_or_default line j 0 no_row k) ∙ a j h

-- one place more
pub lines_more : (r : Loop) (letters cells after line : List ℕ) (p : ℕ) → Lines r letters cells p → Line r letters p line
    → ((j : ℕ) → j < length letters → get_or after (p * width letters + j) no_row ≡ get_or line j no_row)
    → ((k : ℕ) → k < p * width letters → get_or after k no_row ≡ get_or cells k no_row) → Lines r letters after (p + 1)
lines_more r letters cells after line p a here put kept = below_more _ _
    (λ q h j k. ap row_named (kept (q * width letters + j) (omega (arith, mul-add-lt q (width letters) j p h (omega arith)))) ∙ a q h j k)
    (λ j k. ap row_named (put j k) ∙ here j k)

module _ (r : Loop) (letters : List ℕ) (fair : Fair r letters) (columns : List (Option ℕ)) (cells : List ℕ)
    (columned : Columned letters columns (length letters))
    (lines : Lines r letters cells r.size) where
  -- a letter without a column leads nowhere
  nowhere : (p l : ℕ) → p < r.size → get_or columns l None ≡ None → None ≡ r.next p l
  nowhere p l h e = go (r.next p l) refl
    where
      go : (o : Option ℕ) → r.next p l ≡ o → None ≡ r.next p l
      go None g = sym g
      go (Some q) g =
          let x = among_at l letters (fair.lettered p l q h g) in
          absurd (none_some (sym e ∙ ap (λ (k : ℕ). get_or columns k None) (sym x.2) ∙ columned.at x.0 x.1))

  next_same : (p l : ℕ) → p < r.size → and_then (get_or columns l None) (λ j. row_named (get_or cells (p * width letters + j) no_row)) ≡ r.next p l
  next_same p l h = go (get_or columns l None) refl
    where
      go : (o : Option ℕ) → get_or columns l None ≡ o → and_then o (λ j. row_named (get_or cells (p * width letters + j) no_row)) ≡ r.next p l
      go None e = nowhere p l h e
      go (Some j) e = let x = columned.only l j e in lines p h j x.0 ∙ ap (λ (k : ℕ). r.next p k) x.1

  pub agrees : (size boundary : ℕ) → size ≡ r.size → boundary ≡ r.boundary → Agree r (drawing columns cells (width letters) size boundary)
  agrees size boundary s b = record { size = s; boundary = b; next = next_same }
