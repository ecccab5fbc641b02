use Rattle.synthesis.proofs.Grounding.{node_as, product_as}
use Rattle.synthesis.proofs.Starting.{start_nothing, start_choice, start_sequence, start_product, start_lap}
use Rattle.synthesis.proofs.course.CheckedFile.start_of.Goals as goal

pub overflow_sub-result : goal.overflow_sub-result
overflow_sub-result c = (start_choice c.args.self.now c.args.starts.now c.args.n c.requires.within c.requires.kept _ _ (node_as c.args.self.now.file.now c.args.self.now.nodes.now _ _ _ c.node.ensures c.in-Choice.is) c.size_at.ensures).0

pub returns-in-Nothing : goal.returns-in-Nothing
returns-in-Nothing c = start_nothing c.args.self.now c.args.starts.now c.args.n c.requires.within c.requires.kept (node_as c.args.self.now.file.now c.args.self.now.nodes.now _ _ _ c.node.ensures c.in-Nothing.is)

pub returns-in-Choice : goal.returns-in-Choice
returns-in-Choice c = (start_choice c.args.self.now c.args.starts.now c.args.n c.requires.within c.requires.kept _ _ (node_as c.args.self.now.file.now c.args.self.now.nodes.now _ _ _ c.node.ensures c.in-Choice.is) c.size_at.ensures).1

pub returns-in-Sequence : goal.returns-in-Sequence
returns-in-Sequence c =
    start_sequence c.args.self.now c.args.starts.now c.args.n c.requires.within c.requires.kept _ _ _ _ (node_as c.args.self.now.file.now c.args.self.now.nodes.now _ _ _ c.node.ensures c.in-Sequence.is)
    c.size_at-in-Sequence.ensures c.after_first.ensures

pub returns-in-Lap : goal.returns-in-Lap
returns-in-Lap c = start_lap c.args.self.now c.args.starts.now c.args.n c.requires.within c.requires.kept _ _ (node_as c.args.self.now.file.now c.args.self.now.nodes.now _ _ _ c.node.ensures c.in-Lap.is) c.lap_start.ensures

pub returns-in-Both : goal.returns-in-Both
returns-in-Both c =
    start_product c.args.self.now c.args.starts.now c.args.n c.requires.within c.requires.kept _ _ _ _ (product_as c.args.self.now.file.now c.args.self.now.nodes.now _ _ _ _ c.node.ensures c.in-Both.is)
    c.size_at-in-Both.ensures c.met.ensures
