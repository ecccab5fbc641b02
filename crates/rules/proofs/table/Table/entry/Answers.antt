use Rattle.std.proofs.Common.{◌+◌, ◌*◌, ◌^◌, ◌<◌, ◌≤◌, ltb, length, sym, ◌∙◌, rules, arith}
use Rattle.std.proofs.lemmas.Nat.{mul-le}
use Rattle.std.proofs.lemmas.Bool.{lt-ltb, le-ltb, cond-true, cond-false}
use Rattle.rules.specs.Tabled.{entry, width}
use Rattle.rules.proofs.table.Table.entry.Goals as goal

pub overflow_add-index : goal.overflow_add-index
overflow_add-index c =
    let wide : width c.args.self.now.letters.now ≤ 2 ^ 65 = omega arith in
    let low : c.args.place ≤ 2 ^ 32 = omega arith in
    omega (arith, mul-le c.args.place (width c.args.self.now.letters.now) (2 ^ 32) (2 ^ 65) low wide)

pub returns-then-index-self : goal.returns-then-index-self
unfolding entry
returns-then-index-self c =
    let inside : c.args.place * width c.args.self.now.letters.now + c.args.column < length c.args.self.now.memory.now = omega arith in
    sym (cond-true (ltb c.args.place c.args.self.now.rows) _ _ (search rules) ∙ cond-true _ _ _ (lt-ltb _ _ inside))

pub returns-else-index-self : goal.returns-else-index-self
unfolding entry
returns-else-index-self c =
    let past : length c.args.self.now.memory.now ≤ c.args.place * width c.args.self.now.letters.now + c.args.column = omega arith in
    sym (cond-true (ltb c.args.place c.args.self.now.rows) _ _ (search rules) ∙ cond-false _ _ _ (le-ltb _ _ past))
