use Rattle.std.proofs.Common.{sym, ◌∙◌, arith}
use Rattle.synthesis.specs.Courses.{loop_of}
use Rattle.synthesis.proofs.Marking.{marked_within}
use Rattle.synthesis.proofs.Paths.{marked_some}
use Rattle.synthesis.proofs.write.Row.lowers.Goals as goal

pub bounds-owed-next : goal.bounds-owed-next
bounds-owed-next c =
    let s = c.args.self.now in
    let rows = s.weighed.now.rows.now in
    let q = c.in-Some.next in
    let w = c.requires.weighs in
    let on = marked_some rows ((loop_of s.course.now).next s.place _) q (sym c.onward.ensures ∙ c.in-Some.is) in
    omega (arith, marked_within rows q on.1, w.numbered.rowed.long, w.owes.long)

pub overflow_add-owed : goal.overflow_add-owed
overflow_add-owed c =
    let s = c.args.self.now in
    let rows = s.weighed.now.rows.now in
    let q = c.in-Some.next in
    let w = c.requires.weighs in
    let on = marked_some rows ((loop_of s.course.now).next s.place _) q (sym c.onward.ensures ∙ c.in-Some.is) in
    let h = marked_within rows q on.1 in
    omega (arith, h, w.numbered.rowed.long, w.owes.low q (omega (arith, w.numbered.rowed.long)) on.1, s.course.now.checked.grounds.fillable.small)
