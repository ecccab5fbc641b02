use Rattle.std.proofs.Common.{◌≡◌, Bool, true, false, not, ◌++◌, is_some, sym, ap, ◌∙◌}
use Rattle.letters.specs.Alphabets.{bare}
use Rattle.property.specs.Checks.{letters_in_order, branch_letters}
use Rattle.property.specs.Meant.{meant}
use Rattle.property.specs.Nodes.{branches, Choice}
use Rattle.property.proofs.Branching.{in_order}
use Rattle.property.proofs.listed.Listed.letters_in_order.Goals as goal

flipped : (a b : Bool) → a ≡ not b → not a ≡ b
flipped a true e = ap not e
flipped a false e = ap not e

pub returns-in-Choice : goal.returns-in-Choice
returns-in-Choice c =
    let alphabet = c.args.declared.now ++ bare in
    sym (flipped (is_some c.first_out.result) c.is_none.result c.is_none.ensures)
    ∙ ap (λ o. not (is_some o)) c.first_out.ensures
    ∙ in_order alphabet 0 0 (branch_letters (Choice (branches c.branches_at.result.now)))
    ∙ ap (λ bs. letters_in_order alphabet (Choice (branches bs))) c.branches_at.ensures
    ∙ sym (ap (λ n. letters_in_order alphabet (meant c.args.self.now.file.now n)) c.in-Choice.is)
