use Rattle.std.proofs.Common.{ℕ, ap, sym, ◌∙◌}
use Rattle.property.specs.Sized.{counted, cut}
use Rattle.property.specs.Sizes.{size, weight}
use Rattle.property.proofs.SizingNodes.{weight_meant}
use Rattle.synthesis.specs.Courses.{nodes_of}
use Rattle.synthesis.proofs.course.Course.places_of.Goals as goal

pub returns : goal.returns
returns c =
    let s = c.args.self.now in
    let sizes : ℕ → ℕ = λ k. cut (size (nodes_of s) k) in
    c.weight_of.ensures ∙ (ap (counted c.node.result) c.size_at.ensures ∙ (weight_meant s.checked.file.now sizes c.args.m c.node.result ∙ ap (weight sizes c.args.m) (sym c.node.ensures)))
