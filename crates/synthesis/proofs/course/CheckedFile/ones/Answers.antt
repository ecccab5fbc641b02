use Rattle.std.proofs.Common.{◌<◌, ◌≢◌, length, ap, ◌∙◌, arith, below_more}
use Rattle.std.proofs.lemmas.List.{get_or-set_same, get_or-set_other, length-set}
use Rattle.synthesis.specs.Courses.{bit}
use Rattle.synthesis.proofs.Grounding.{few_nodes}
use Rattle.synthesis.proofs.course.CheckedFile.ones.Goals as goal

pub loop-n-preserved : goal.loop-n-preserved
loop-n-preserved c =
    let v = c.loop-n.invariant in
    let lt : c.loop-n.n < length c.loop-n.ones = omega (arith, few_nodes c.args.self.now.file.now c.args.self.now.nodes.now) in (
      below_more _ _
          (λ m h one j l. let ne : m ≢ c.loop-n.n = omega arith in ap (λ w. bit w j) (get_or-set_other c.loop-n.ones c.loop-n.n m c.ones_of.result 0 ne) ∙ v.0 m h one j l)
          (λ one j l. ap (λ w. bit w j) (get_or-set_same c.loop-n.ones c.loop-n.n c.ones_of.result 0 lt) ∙ c.ones_of.ensures one j l),
      length-set c.loop-n.ones c.loop-n.n c.ones_of.result ∙ v.1,
    )
