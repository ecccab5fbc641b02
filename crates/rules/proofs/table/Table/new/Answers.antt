use Rattle.std.proofs.Common.{◌≡◌, ℕ, ◌*◌, ◌<◌, List, sym, refl, ap, ◌∙◌, subst, inl, inr, arith}
use Rattle.letters.specs.Declarations.{letters_of}
use Rattle.rules.specs.Meaning.{Lawful}
use Rattle.rules.specs.Tabled.{tabled, tabled_with, width}
use Rattle.rules.proofs.Counting.{each_letter}
use Rattle.rules.proofs.Positions.{ascends}
use Rattle.rules.proofs.Tabling.{tests, rows_lawful, rows_unlawful}
use Rattle.rules.proofs.table.Table.new.Goals as goal
use Rattle.rules.proofs.table.Table.new.Goals.{then-rows-eq0-via-then-rows-eq0, then-rows-eq0-via-else-rows-eq0+then-rows-letters}

pub returns-then-rows-eq0 : goal.returns-then-rows-eq0
returns-then-rows-eq0 c =
    let wide = ap (λ (ls : List ℕ). c.args.rows * width ls) c.letters-letters.ensures in
    record {
      exact = (
        omega arith,
        elim c.then-rows-eq0.branch [
          | then-rows-eq0-via-then-rows-eq0 w ↦ inl (omega arith)
          | then-rows-eq0-via-else-rows-eq0+then-rows-letters w ↦ inr (inl (omega (arith, wide, w.if-rows-letters.true)))
        ],
      );
      lawful = tt;
    }

pub returns-then-not-keeps_rows : goal.returns-then-not-keeps_rows
returns-then-not-keeps_rows c =
    let a = c.args.alphabet.now in
    let memory = c.args.memory.now in
    let rows = c.args.rows in
    let test = subst (λ (ls : List ℕ). c.keeps_rows.result ≡ tests ls memory rows 0) c.letters-letters.ensures c.keeps_rows.ensures in
    record {
      exact = (omega arith, inr (inr (rows_unlawful (letters_of a) memory rows 0 c.keeps_rows.result (ascends (letters_of a) a.ok) test c.if-not-keeps_rows.true)));
      lawful = tt;
    }

pub returns : goal.returns
returns c =
    let a = c.args.alphabet.now in
    let memory = c.args.memory.now in
    let rows = c.args.rows in
    let same = c.letters-letters.ensures in
    let wide = ap (λ (ls : List ℕ). rows * width ls) same in
    let test = subst (λ (ls : List ℕ). c.keeps_rows.result ≡ tests ls memory rows 0) same c.keeps_rows.ensures in
    let one : 0 < rows = omega arith in
    let few = c.if-rows-gt-MOST_PLACES.false in
    let lawful' = rows_lawful (letters_of a) memory rows 0 c.keeps_rows.result (each_letter (letters_of a) a.ok) one few test c.if-not-keeps_rows.false in
    let means = ap (tabled_with c.letters-letters.result.now memory rows) c.largest_owed.ensures ∙ ap (λ (ls : List ℕ). tabled ls memory rows) same in
    record {
      exact = record {
        few = few;
        one = one;
        fit = omega (arith, wide, c.if-rows-letters.false);
        lawful = lawful';
        same_letters = same;
        same_memory = refl;
        same_rows = refl;
        means = means;
      };
      lawful = subst Lawful (sym means) lawful';
    }
