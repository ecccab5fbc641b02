use Rattle.std.proofs.Common.{◌≡◌, true, false, refl, ap, ◌∙◌, rules, arith}
use Rattle.rules.specs.Valued.{meaning}
use Rattle.rules.specs.Rows.{keeps_row}
use Rattle.rules.specs.Tables.{table_rule}
use Rattle.std.proofs.lemmas.Iterator.{cases_from_all, YieldsList-from_range}
use Rattle.std.proofs.lemmas.List.FromFn.{length-range_with_len, get_or-range_with_len}
use Rattle.std.specs.List.{range_with_len}
use borrow.Author.Tests.{tests}
use Rattle.rules.proofs.Below.{all_of}
use Rattle.rules.proofs.Tabling.{start}
use Rattle.rules.proofs.table.Table.keeps_rows.Goals as goal

pub returns : goal.returns
returns c =
    let t = c.args.self.now in
    let f = keeps_row (meaning table_rule t) t.letters.now t.memory.now t.rows in
    all_of (range_with_len 0 t.rows) t.rows f f 0 c.all.result (length-range_with_len 0 t.rows) (λ k below. ap f (get_or-range_with_len 0 t.rows k 0 below ∙ start k))
    (cases_from_all _ _ _ (λ x. f x ≡ true) (λ x. f x ≡ false) c.all.ensures.ran (YieldsList-from_range 0 t.rows t.rows refl (omega arith)) (λ x q k. search (rules, tests)) (λ x q k. search (rules, tests)))
