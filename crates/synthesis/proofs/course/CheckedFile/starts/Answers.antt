use Rattle.std.proofs.Common.{◌∙◌, arith, length-set}
use Rattle.synthesis.specs.Courses.{checked_nodes}
use Rattle.synthesis.proofs.Grounding.{few_nodes}
use Rattle.synthesis.proofs.Starting.{starts_more}
use Rattle.synthesis.proofs.course.CheckedFile.starts.Goals as goal

pub loop-n-preserved : goal.loop-n-preserved
loop-n-preserved c = (
  starts_more (checked_nodes c.args.self.now) c.loop-n.starts c.loop-n.n _ (omega (arith, few_nodes c.args.self.now.file.now c.args.self.now.nodes.now)) c.start_of.ensures c.loop-n.invariant.0,
  length-set c.loop-n.starts c.loop-n.n _ ∙ c.loop-n.invariant.1,
)
