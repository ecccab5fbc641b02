use Rattle.std.proofs.Common.{◌<◌, cond, ◌≢◌, length, get_or, ap, ◌∙◌, arith, below_more}
use Rattle.std.proofs.lemmas.List.{length-set, get_or-set_same, get_or-set_other}
use Rattle.property.specs.Nodes.{node, is_loop}
use Rattle.places.specs.declared.outcome.Outcome.TheVariants.{Dead, Done, At}
use Rattle.synthesis.specs.Courses.{letters_of, nodes_of}
use Rattle.synthesis.proofs.Singles.{one_row}
use Rattle.synthesis.proofs.course.Course.row_of_one.Goals as goal
use Rattle.synthesis.proofs.course.Course.row_of_one.Goals.{in-Lap, in_default}

pub loop-j-preserved : goal.loop-j-preserved
loop-j-preserved c =
    let lt : c.loop-j.j < length c.loop-j.out = omega (arith, c.loop-j.invariant.2, c.loop-j-test.true) in (
      c.loop-j.invariant.0,
      below_more _ _
          (λ k h i. let ne : k ≢ c.loop-j.j = omega arith in get_or-set_other c.loop-j.out c.loop-j.j k c.led.result Dead ne ∙ c.loop-j.invariant.1 k h i)
          (λ i.
          get_or-set_same c.loop-j.out c.loop-j.j c.led.result Dead lt
          ∙ c.led.ensures
          ∙ ap (λ on. cond c.is_set.result on Dead) c.loop-j.invariant.0
          ∙ ap (λ leads. cond leads (cond (is_loop (node (nodes_of c.args.self.now) c.args.n)) (At 0) Done) Dead) c.is_set.ensures
          ∙ one_row (letters_of c.args.self.now) (nodes_of c.args.self.now) c.args.self.now.checked.grounds.sound c.args.n (get_or (letters_of c.args.self.now) c.loop-j.j 0) (get_or c.args.self.now.ones c.args.n 0) c.loop-j.j c.requires.within c.requires.one
          (λ one. c.args.self.now.ones_kept c.args.n c.requires.within one c.loop-j.j i)),
      length-set c.loop-j.out c.loop-j.j c.led.result ∙ c.loop-j.invariant.2,
    )
