use Rattle.std.proofs.Common.{ap, ◌∙◌, arith}
use Rattle.synthesis.specs.Courses.{letters_of, loop_of}
use Rattle.synthesis.specs.Marks.{if_marked}
use Rattle.synthesis.proofs.Drawing.{line_next}
use Rattle.synthesis.proofs.write.Row.onward.Goals as goal

pub returns : goal.returns
returns c =
    let s = c.args.self.now in
    let next = line_next (loop_of s.course.now) (letters_of s.course.now) s.line s.place c.args.j _ s.leads c.requires (omega (arith, s.course.now.checked.grounds.few_letters)) c.named.ensures in
    c.if_marked.ensures ∙ ap (if_marked s.weighed.now.rows.now) next
