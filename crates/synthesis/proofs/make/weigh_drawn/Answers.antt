use Rattle.std.proofs.Common.{arith}
use Rattle.rules.specs.Tabled.{width}
use Rattle.synthesis.specs.Courses.{letters_of, loop_of}
use Rattle.synthesis.specs.Drawn.{drawing}
use Rattle.synthesis.proofs.Agreeing.{Agree, fillable_too, weighing}
use Rattle.synthesis.proofs.Drawing.{agrees}
use Rattle.synthesis.proofs.make.weigh_drawn.Goals as goal
use Rattle.synthesis.proofs.make.weigh_drawn.Goals.{After-boundary}

-- the places that are drawn agree with those of the loop
agree : (c : After-boundary) → Agree (loop_of c.args.course.now) (drawing c.columns_of-columns.result c.draw.new.table (width (letters_of c.args.course.now)) c.size.result c.boundary.result)
agree c =
    agrees (loop_of c.args.course.now) (letters_of c.args.course.now) c.args.course.now.checked.grounds.fillable.fair c.columns_of-columns.result c.draw.new.table c.columns_of-columns.ensures c.draw.ensures c.size.result c.boundary.result (omega (arith, c.args.course.now.checked.grounds.fillable.small, c.size.ensures)) c.boundary.ensures

pub invariant_of-source : goal.invariant_of-source
invariant_of-source c = record { fillable = fillable_too _ _ _ c.args.course.now.checked.grounds.fillable (agree (goal.at.invariant_of-source c).After-boundary) }

pub weigh_rows-requires : goal.weigh_rows-requires
weigh_rows-requires c = omega (arith, c.requires.size, c.size.ensures, c.args.course.now.checked.grounds.fillable.small)

pub returns : goal.returns
returns c = weighing _ _ _ c.args.course.now.checked.grounds.fillable.fair (agree (goal.at.returns c).After-boundary) c.weigh_rows.result c.weigh_rows.ensures
