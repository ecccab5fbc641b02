use Rattle.std.proofs.Common.{get_or, sym, ap, ◌∙◌}
use Rattle.places.specs.declared.outcome.Outcome.TheVariants.{Dead}
use Rattle.synthesis.proofs.Roots.{at_same, root_start}
use Rattle.synthesis.proofs.course.Course.boundary.Goals as goal

pub returns : goal.returns
returns c =
    let e = root_start c.args.self.now in
    let f = ap (λ n. get_or c.args.self.now.starts n Dead) c.root.ensures in
    at_same (sym c.in-At.is ∙ f ∙ e)
