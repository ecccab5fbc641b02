-- Writing the rows of a table, each into its part of the memory.
use Rattle.std.proofs.Common.{◌≡◌, ℕ, ◌+◌, ◌-◌, ◌*◌, ◌<◌, ◌≤◌, List, ◌++◌, length, get_or, set, sym, ap, ◌∙◌, subst, arith, length-set, get_or-set_other, get_or-set_same, below_more}
use Rattle.std.proofs.lemmas.List.{get_or_append_left, get_or-append_right}
use Rattle.std.proofs.lemmas.Nat.{mul-add-lt}
use borrow.Rule.Slice.PartMut.{put_mid}
use Rattle.rules.specs.Tabled.{no_row, width}
use Rattle.places.specs.Loops.{Loop}
use Rattle.places.specs.Owing.{LoopOwed, LoopSpan}
use Rattle.synthesis.specs.Table.{AllAre, Cell, Entry, RowsWritten}
use Rattle.synthesis.specs.Weights.{Lead}
use Rattle.synthesis.proofs.Parts.{before_part, in_part}

after_cells : (cells last : List ℕ) (n j i : ℕ) → length cells ≡ n → j ≡ n + i → get_or (cells ++ last) j 0 ≡ get_or last i 0
after_cells cells last n j i long e =
    let z : j - n ≡ i = omega arith in
    get_or-append_right cells last n j 0 long (omega arith) ∙ ap (λ (m : ℕ). get_or last m 0) z

module _ (r : Loop) (letters rows : List ℕ) where
  -- the last columns after the cells of a row
  pub last_columns : (p : ℕ) (cells last : List ℕ) (owed span lead : ℕ) → length cells ≡ length letters → length last ≡ 3
      → ((k : ℕ) → k < length letters → Cell r rows p (get_or letters k 0) (get_or cells k 0)) → LoopOwed r p owed → LoopSpan r p span → Lead r p lead
      → (j : ℕ) → j < width letters → Entry r letters rows p j (get_or (cells ++ set (set (set last 0 owed) 1 span) 2 lead) j 0)
  last_columns p cells last owed span lead long three each o s l j h =
      let n = length letters in
      let a = set last 0 owed in
      let b = set a 1 span in
      let z = set b 2 lead in
      let a_long : length a ≡ 3 = length-set last 0 owed ∙ three in
      let b_long : length b ≡ 3 = length-set a 1 span ∙ a_long in
      let at : (i : ℕ) → j ≡ n + i → get_or (cells ++ z) j 0 ≡ get_or z i 0 = λ (i : ℕ) (e : j ≡ n + i). after_cells cells z n j i long e in
      record {
        cell = λ k. subst (λ v. Cell r rows p (get_or letters j 0) v) (sym (get_or_append_left cells z 0 j (omega arith))) (each j k);
        owed = λ e. subst (λ v. LoopOwed r p v) (sym (at 0 (omega arith) ∙ get_or-set_other b 2 0 lead 0 (λ q. omega arith) ∙ get_or-set_other a 1 0 span 0 (λ q. omega arith) ∙ get_or-set_same last 0 owed 0 (omega arith))) o;
        span = λ e. subst (λ v. LoopSpan r p v) (sym (at 1 e ∙ get_or-set_other b 2 1 lead 0 (λ q. omega arith) ∙ get_or-set_same a 1 span 0 (omega arith))) s;
        lead = λ e. subst (λ v. Lead r p v) (sym (at 2 e ∙ get_or-set_same b 2 lead 0 (omega arith))) l;
      }

  module _ (order table : List ℕ) (n : ℕ) (written : RowsWritten r letters rows order table n) (within : n * width letters ≤ length table) where
    -- the rows stay where something is written after them
    pub rows_kept : (after : List ℕ) (k : ℕ) → RowsWritten r letters rows order (put_mid (n * width letters) k table after) n
    rows_kept after k i h j g =
        let w = width letters in
        subst (λ v. Entry r letters rows (get_or order i 0) j v) (sym (before_part table after (n * w) k (i * w + j) 0 (omega (arith, mul-add-lt i w j n h g)) within)) (written i h j g)

    -- one row more
    pub rows_more : (row : List ℕ) (k : ℕ) → length row ≡ width letters → ((j : ℕ) → j < width letters → Entry r letters rows (get_or order n 0) j (get_or row j 0))
        → RowsWritten r letters rows order (put_mid (n * width letters) k table row) (n + 1)
    rows_more row k long here =
        let w = width letters in
        below_more _ _ (rows_kept row k) (λ j g. subst (λ v. Entry r letters rows (get_or order n 0) j v) (sym (in_part table row (n * w) k j 0 (omega arith) within)) (here j g))

    -- and nothing else
    pub rest_filled : (rest : List ℕ) (k : ℕ) → length rest + n * width letters ≡ length table → AllAre no_row rest
        → (i : ℕ) → n * width letters ≤ i → i < length table → get_or (put_mid (n * width letters) k table rest) i 0 ≡ no_row
    rest_filled rest k long all i h l =
        let a = n * width letters in
        let z : a + (i - a) ≡ i = omega arith in
        let inside : i - a < length rest = omega arith in
        ap (λ (m : ℕ). get_or (put_mid a k table rest) m 0) (sym z) ∙ in_part table rest a k (i - a) 0 inside within ∙ all (i - a) inside
