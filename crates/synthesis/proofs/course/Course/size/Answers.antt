use Rattle.std.proofs.Common.{sym, ap, ◌∙◌, arith}
use Rattle.property.specs.Sized.{cut}
use Rattle.property.specs.Sizes.{size}
use Rattle.synthesis.specs.Courses.{nodes_of}
use Rattle.synthesis.proofs.Roots.{root_size}
use Rattle.synthesis.proofs.course.Course.size.Goals as goal

pub returns : goal.returns
returns c =
    let kept =
    c.size_at.ensures
    ∙ ap (λ n. cut (size (nodes_of c.args.self.now) n)) c.root.ensures
    ∙ ap cut (sym (root_size c.args.self.now)) in
    omega (arith, kept, c.args.self.now.checked.grounds.fillable.small)
