use Rattle.std.proofs.Common.{unwrap_or, sym, ap, ◌∙◌, rules, arith}
use Rattle.std.proofs.lemmas.Bool.{cond-true, lt-ltb}
use Rattle.std.proofs.lemmas.Iterator.{YieldsList-from_range, YieldsList-from_map}
use Rattle.std.proofs.lemmas.Iterator.Adapters.{option_map_id}
use Rattle.std.proofs.lemmas.Iterator.Consumers.{max_from_yields_List}
use Rattle.rules.specs.Valued.{meaning}
use Rattle.rules.specs.Tabled.{row_owed}
use Rattle.rules.specs.Tables.{table_rule}
use Rattle.rules.proofs.Below.{largest_same, largest_of}
use Rattle.rules.proofs.table.Table.largest_owed.Goals as goal

pub returns : goal.returns
returns c =
    let t = c.args.self.now in
    let f = (meaning table_rule t).owed in
    let picked = sym (option_map_id _) ∙ max_from_yields_List c.map.result _ c.max.ensures.ran (YieldsList-from_map _ f (YieldsList-from_range 0 t.rows t.rows c.map.ensures.source (omega arith)) c.map.ensures.closure (λ x r q k. search rules)) in
    c.unwrap_or.ensures ∙ ap (λ o. unwrap_or o 0) picked ∙ largest_of f t.rows ∙ largest_same f (row_owed t.letters.now t.memory.now) t.rows (λ k below. cond-true _ _ _ (lt-ltb k t.rows below))
