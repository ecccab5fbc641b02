use Rattle.std.proofs.Common.{◌<◌, length, ap, ◌+◌, ◌∙◌, arith}
use Rattle.property.specs.Sized.{cut}
use Rattle.property.proofs.SizingNodes.{choice_size, choice_within}
use Rattle.property.proofs.listed.Listed.family_size.Goals as goal

pub returns : goal.returns
returns c start count e =
    let h : length c.args.sizes.now < length c.args.self.now.nodes.now = choice_within c.args.self.now.file.now _ _ start count e in
    c.sum.ensures
    ∙ ap (λ t. cut (t + 1)) c.add_marked.ensures
    ∙ choice_size _ _ _ c.requires start count _ e (omega arith) (omega (arith, c.args.self.now.few)) (λ m l. c.mark_family.ensures m (omega arith))
