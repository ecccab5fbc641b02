use Rattle.std.proofs.Common.{ℕ, ◌+◌, ◌*◌, get_or, Option, sym, ap, ◌∙◌}
use Rattle.std.proofs.lemmas.List.{get_or_default, get_or_past}
use Rattle.rules.specs.Lists.{and_then}
use Rattle.rules.specs.Tabled.{no_row, row_named}
use Rattle.synthesis.proofs.drawn.Drawn.next.Goals as goal

pub returns-then-index-self : goal.returns-then-index-self
returns-then-index-self c =
    let d = c.args.self.now in
    c.named.ensures
    ∙ ap row_named (get_or_default d.cells.now (c.args.place * d.stride + c.in_ok-column.column) 0 no_row c.if-index-self.true)
    ∙ sym (ap (λ (o : Option ℕ). and_then o (λ j. row_named (get_or d.cells.now (c.args.place * d.stride + j) no_row))) c.in_ok-column.was)

pub returns-else-index-self : goal.returns-else-index-self
returns-else-index-self c =
    let d = c.args.self.now in
    sym (ap (λ (o : Option ℕ). and_then o (λ j. row_named (get_or d.cells.now (c.args.place * d.stride + j) no_row))) c.in_ok-column.was
    ∙ ap row_named (get_or_past d.cells.now (c.args.place * d.stride + c.in_ok-column.column) no_row c.if-index-self.false))
