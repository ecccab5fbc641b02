use Rattle.std.proofs.Common.{sym, subst, arith}
use Rattle.synthesis.specs.Courses.{PlaceOf}
use Rattle.synthesis.proofs.Roots.{root_place, drawn_more}
use Rattle.synthesis.proofs.course.Course.line.Goals as goal

pub row-requires : goal.row-requires
row-requires c = subst (λ n. PlaceOf c.args.self.now n c.args.place) (sym c.root.ensures) (root_place c.args.self.now _ c.requires)

pub loop-j-preserved : goal.loop-j-preserved
loop-j-preserved c =
    drawn_more c.args.self.now _ _ _ _ _ _ c.root.ensures (root_place c.args.self.now _ c.requires) c.row.ensures c.loop-j-test.true c.cell_of.ensures
    c.loop-j.invariant

pub returns : goal.returns
returns c j h = c.loop-j.invariant.each j (omega (arith, h, c.args.self.now.checked.grounds.few_letters, c.loop-j-test.false)) h
