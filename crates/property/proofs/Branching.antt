-- One step along the branches of a body.
use Rattle.std.specs.Option.{MatchOption, unwrap_or}
use Rattle.std.specs.Slice.Iter.{chunks_exact_rest, chunks_exact_size, chunks_exact_steps}
use Rattle.std.specs.declared.slice.ChunksExact.{ChunksExact}
use Rattle.std.proofs.lemmas.List.{drop_all, take_rest, take_all}
use Rattle.std.proofs.lemmas.Iterator.{YieldsList}
use Rattle.std.proofs.lemmas.Iterator.Splits.{YieldsList-from_shown_while}
use Rattle.std.proofs.Common.{min, Bor, drop, take, subst, inl, inr, ◌⊎◌, ◌≤◌, slice_range, ◌≡◌, ℕ, suc, ◌+◌, ◌<◌, Bool, true, false, cond, not, ◌&&◌, ◌||◌, ltb, leb, List, [], ◌∷◌, ◌++◌, length, get_or, is_some, Some, None, Option, sym, refl, ap, ◌∙◌, arith}
use Rattle.letters.specs.Alphabets.{among, ascending_from}
use Rattle.records.specs.Records.{two_bytes}
use Rattle.std.proofs.lemmas.Bool.{and_right}
use Rattle.std.proofs.lemmas.Bool.Decides.{nat_tests}
use Rattle.property.specs.Checks.{branch_letters}
use Rattle.std.specs.List.{list_all}
use Rattle.property.specs.Drafts.{out, first_out}
use Rattle.property.specs.Nodes.{Choice, branches}
use Rattle.property.proofs.Numbering.{lt_or_ge}

three : (x left : List ℕ) → length x ≡ 3 → branches (x ++ left) ≡ (get_or x 0 0, two_bytes x 1) ∷ branches left
unfolding branches
three [] left e = let z : ◌≡◌ {A = ℕ} 0 1 = omega arith in cc
three (a ∷ []) left e = let z : ◌≡◌ {A = ℕ} 0 1 = omega arith in cc
three (a ∷ b ∷ []) left e = let z : ◌≡◌ {A = ℕ} 0 1 = omega arith in cc
three (a ∷ b ∷ d ∷ []) left e = refl
three (a ∷ b ∷ d ∷ x ∷ xs) left e = let z : ◌≡◌ {A = ℕ} 0 1 = omega arith in cc

pub one_branch : (rest x left : List ℕ) → rest ≡ x ++ left → length x ≡ 3 → branches rest ≡ (get_or x 0 0, two_bytes x 1) ∷ branches left
one_branch rest x left e l = ap branches e ∙ three x left l

pub no_branch : (rest : List ℕ) → length rest < 3 → branches rest ≡ []
unfolding branches
no_branch [] h = refl
no_branch (a ∷ []) h = refl
no_branch (a ∷ b ∷ []) h = refl
no_branch (a ∷ b ∷ d ∷ rest) h = let z : ◌≡◌ {A = ℕ} 0 1 = omega arith in cc

-- a branch as its three bytes have it
abbrev pub read : Bor (List ℕ) → ℕ × ℕ
read x = (get_or x.now 0 0, two_bytes x.now 1)

-- the chunks of three bytes are the branches
pub branch_chunks : {s : ChunksExact ℕ} (body : List ℕ) → chunks_exact_rest s ≡ body → chunks_exact_size s ≡ 3 → YieldsList chunks_exact_steps read s (branches body)
branch_chunks {s} body rest size =
    let P : List ℕ → Type 0 = λ xs. YieldsList chunks_exact_steps read s (branches xs) in
    subst P rest (YieldsList-from_shown_while chunks_exact_steps read (λ s. branches (chunks_exact_rest s)) (λ s. chunks_exact_size s ≡ 3)
    (λ s t h e. ap length (no_branch (chunks_exact_rest s) (omega (arith, h, e.1.0))))
    (λ s x t h e. (e.0 ∙ h, one_branch (chunks_exact_rest s) x.now (chunks_exact_rest t) e.1.0 (e.1.1 ∙ h)))
    s size)

-- the bytes from an index on, none past the end
pub bytes_from : (file : List ℕ) (start : ℕ) (o : Option (Bor (List ℕ))) (x none : Bor (List ℕ)) → x ≡ unwrap_or o none → none.now ≡ []
    → MatchOption o ((length file < start) ⊎ (length file < length file)) (λ y. (start ≤ length file) × (length file ≤ length file) × (y.now ≡ slice_range file start (length file)) × (length y.now + start ≡ length file))
    → x.now ≡ drop start file
bytes_from file start None x none e z (inl h) = ap (λ y. y.now) e ∙ z ∙ sym (drop_all start file (omega arith))
bytes_from file start None x none e z (inr h) = absurd (omega arith)
bytes_from file start (Some y) x none e z h = ap (λ y. y.now) e ∙ h.2 ∙ take_rest file start

-- the first bytes, all where there are fewer
pub first_bytes : (rest : List ℕ) (kept count : ℕ) → kept ≡ min (length rest) count → take kept rest ≡ take count rest
first_bytes rest kept count e = elim (lt_or_ge count (length rest)) [
  | inl h ↦ let same : kept ≡ count = omega arith in ap (λ n. take n rest) same
  | inr h ↦ take_all kept rest (omega arith) ∙ sym (take_all count rest h)
]

-- one turn of a loop over the branches: x is the next, and `left` comes after it
module _ (rest x left : List ℕ) (cut : rest ≡ x ++ left) (long : length x ≡ 3) where
  out_step : (alphabet : List ℕ) (least i : ℕ)
      → first_out alphabet least i (branch_letters (Choice (branches rest))) ≡ cond (out alphabet least (get_or x 0 0)) (Some i) (first_out alphabet (suc (get_or x 0 0)) (suc i) (branch_letters (Choice (branches left))))
  unfolding first_out
  out_step alphabet least i = ap (λ bs. first_out alphabet least i (branch_letters (Choice bs))) (one_branch rest x left cut long)

  pub out_here : (alphabet : List ℕ) (least i : ℕ) → out alphabet least (get_or x 0 0) ≡ true → first_out alphabet least i (branch_letters (Choice (branches rest))) ≡ Some i
  out_here alphabet least i e =
      out_step alphabet least i ∙ ap (λ (t : Bool). cond t (Some i) (first_out alphabet (suc (get_or x 0 0)) (suc i) (branch_letters (Choice (branches left))))) e

  pub out_later : (alphabet : List ℕ) (least i j : ℕ) → out alphabet least (get_or x 0 0) ≡ false → j ≡ i + 1
      → first_out alphabet least i (branch_letters (Choice (branches rest))) ≡ first_out alphabet (get_or x 0 0 + 1) j (branch_letters (Choice (branches left)))
  out_later alphabet least i j e n =
      let above : suc (get_or x 0 0) ≡ get_or x 0 0 + 1 = omega arith in
      let next : suc i ≡ j = omega arith in
      out_step alphabet least i
      ∙ ap (λ (t : Bool). cond t (Some i) (first_out alphabet (suc (get_or x 0 0)) (suc i) (branch_letters (Choice (branches left))))) e
      ∙ ap (λ l. first_out alphabet l (suc i) (branch_letters (Choice (branches left)))) above
      ∙ ap (λ k. first_out alphabet (get_or x 0 0 + 1) k (branch_letters (Choice (branches left)))) next

-- no branch is left
module _ (rest : List ℕ) (short : length rest < 3) where
  pub out_end : (alphabet : List ℕ) (least i : ℕ) → first_out alphabet least i (branch_letters (Choice (branches rest))) ≡ None
  unfolding first_out
  out_end alphabet least i = ap (λ bs. first_out alphabet least i (branch_letters (Choice bs))) (no_branch rest short)

-- the letters are in order where none is out
above : (least l : ℕ) → leb least l ≡ not (ltb l least)
above least l = grind (arith, nat_tests)

merge : (a b d e : Bool) (i : ℕ) (o : Option ℕ) → not (is_some o) ≡ (d && e) → not (is_some (cond (a || not b) (Some i) o)) ≡ ((not a && d) && (b && e))
merge true b d e i o h = refl
merge false true d e i o h = h
merge false false d e i o h = sym (and_right d false refl)

pub in_order : (alphabet : List ℕ) (least i : ℕ) (ls : List ℕ) → not (is_some (first_out alphabet least i ls)) ≡ (ascending_from least ls && list_all (λ l. among l alphabet) ls)
unfolding first_out
in_order alphabet least i [] = refl
in_order alphabet least i (l ∷ ls) =
    merge (ltb l least) (among l alphabet) (ascending_from (suc l) ls) (list_all (λ l. among l alphabet) ls) i (first_out alphabet (suc l) (suc i) ls) (in_order alphabet (suc l) (suc i) ls)
    ∙ ap (λ (t : Bool). (t && ascending_from (suc l) ls) && (among l alphabet && list_all (λ l. among l alphabet) ls)) (sym (above least l))
