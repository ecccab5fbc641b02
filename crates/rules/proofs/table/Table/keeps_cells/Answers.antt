use Rattle.std.proofs.Common.{◌≡◌, ℕ, length, get_or, Bool, true, false, ap, ◌∙◌, rules}
use Rattle.rules.specs.Valued.{meaning}
use Rattle.rules.specs.Tabled.{cell_at}
use Rattle.rules.specs.Rows.{keeps_after, keeps_cell}
use Rattle.rules.specs.Tables.{table_rule}
use Rattle.std.proofs.lemmas.Iterator.{cases_from_all, YieldsList-from_slice}
use Rattle.std.proofs.lemmas.Iterator.Consumers.{YieldsList-from_enumerate}
use Rattle.std.proofs.lemmas.List.FromFn.{length-enumerate_from, get_or-enumerate_from}
use Rattle.std.specs.List.{enumerate_from}
use borrow.Author.Tests.{tests}
use Rattle.rules.proofs.Below.{all_of}
use Rattle.rules.proofs.Tabling.{start}
use Rattle.rules.proofs.table.Table.keeps_cells.Goals as goal

pub returns : goal.returns
returns c =
    let t = c.args.self.now in
    let m = meaning table_rule t in
    let ls = t.letters.now in
    let h : ℕ × ℕ → Bool = λ x. keeps_after m c.args.place x.1 (cell_at ls t.memory.now t.rows c.args.place x.0) in
    all_of (enumerate_from 0 ls) (length ls) h (keeps_cell m ls t.memory.now t.rows c.args.place) (0, 0) c.all.result (length-enumerate_from 0 ls) (λ k below. ap h (get_or-enumerate_from 0 ls k (0, 0) below ∙ ap (λ (j : ℕ). (j, get_or ls k 0)) (start k)))
    (cases_from_all _ _ _ (λ x. h x ≡ true) (λ x. h x ≡ false) c.all.ensures.ran (YieldsList-from_enumerate (YieldsList-from_slice ls (search rules)) c.enumerate.ensures.count) (λ x q k. search (rules, tests)) (λ x q k. search (rules, tests)))
