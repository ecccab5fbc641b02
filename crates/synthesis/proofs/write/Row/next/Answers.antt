use Rattle.std.proofs.Common.{sym, ◌∙◌}
use Rattle.synthesis.specs.Courses.{loop_of}
use Rattle.synthesis.proofs.Marking.{marked_within}
use Rattle.synthesis.proofs.Paths.{marked_some}
use Rattle.synthesis.proofs.write.Row.next.Goals as goal

pub bounds-self-next : goal.bounds-self-next
bounds-self-next c =
    let s = c.args.self.now in
    let rows = s.weighed.now.rows.now in
    let q = c.in_ok-next.next in
    marked_within rows q (marked_some rows ((loop_of s.course.now).next s.place _) q (sym c.onward.ensures ∙ c.in_ok-next.was)).1
