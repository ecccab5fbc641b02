use Rattle.std.proofs.Common.{get_or, ap, ◌∙◌, sym}
use Rattle.property.specs.Meant.{meant}
use Rattle.property.specs.Placed.{stored}
use Rattle.property.specs.declared.node.Node.TheVariants.{Nothing}
use Rattle.property.proofs.Meaning.{node_meant}
use Rattle.synthesis.proofs.course.CheckedFile.node.Goals as goal

pub returns : goal.returns
returns c =
    node_meant c.args.self.now.file.now (stored c.args.self.now.nodes.now) c.args.n
    ∙ ap (λ xs. meant c.args.self.now.file.now (get_or xs c.args.n Nothing)) (sym c.nodes.ensures.value)
