use Rattle.std.proofs.Common.{false, get_or, sym, ap, ◌∙◌, rules}
use Rattle.std.proofs.lemmas.Iterator.Search.{all_from_yields_List}
use Rattle.property.specs.Closing.{branch_closes, closes_by, each_closes}
use Rattle.property.specs.Meant.{meant, listed}
use Rattle.property.specs.Nodes.{branches}
use Rattle.property.proofs.Branching.{branch_chunks}
use Rattle.property.proofs.listed.Listed.closes.Goals as goal

pub returns-in-Choice : goal.returns-in-Choice
unfolding each_closes
returns-in-Choice c =
    all_from_yields_List (branch_closes (listed c.args.self.now) (λ m. get_or c.args.closing.now m false)) _ _ _ c.all.ensures.ran (branch_chunks _ c.chunks_exact.ensures.rest c.chunks_exact.ensures.size) (λ x b q k. search rules)
    ∙ ap (λ body. each_closes (listed c.args.self.now) (λ m. get_or c.args.closing.now m false) (branches body)) c.branches_at.ensures
    ∙ sym (ap (λ n. closes_by (listed c.args.self.now) (λ m. get_or c.args.closing.now m false) (meant c.args.self.now.file.now n)) c.in-Choice.is)
