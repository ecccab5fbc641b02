use Rattle.std.proofs.Common.{◌≡◌, Some, sym, ap, ◌∙◌, subst}
use Rattle.property.specs.Nodes.{branches, node}
use Rattle.property.specs.Sizes.{in_family}
use Rattle.places.specs.Walks.{enter_target, member_of, target, walk}
use Rattle.synthesis.specs.Courses.{nodes_of}
use Rattle.synthesis.specs.Members.{OfFamily}
use Rattle.synthesis.proofs.course.Course.entered_by.Goals as goal

pub returns-in-Some : goal.returns-in-Some
returns-in-Some c n small ok i =
    let e : Some c.in-Some.m ≡ target (branches c.args.body.now) c.args.letter = c.in-Some.ensures in
    let nodes = nodes_of c.args.self.now in
    c.entered.ensures n small ok (subst (λ to. OfFamily c.args.self.now n to) (sym e) i)
    ∙ ap (λ to. enter_target (λ k. in_family nodes n k) (λ k. member_of (walk nodes k) (node nodes k)) to) e
