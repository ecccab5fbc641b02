use Rattle.std.proofs.Common.{◌≡◌, ap, length, unwrap_or, sym, ◌∙◌, subst, arith, rules}
use Rattle.rules.specs.Tabled.{no_row}
use Rattle.synthesis.specs.Courses.{letters_of, loop_of}
use Rattle.synthesis.specs.Weights.{Lead}
use Rattle.synthesis.proofs.Marking.{marked_within}
use Rattle.synthesis.proofs.Writing.{last_columns}
use Rattle.synthesis.proofs.write.Row.write.Goals as goal

pub returns : goal.returns
returns c =
    let s = c.args.self.now in
    let r = loop_of s.course.now in
    let w = s.weighed.now in
    let here = c.requires.weighs.numbered.rowed.long in
    let within = marked_within w.rows.now s.place s.marked in
    let same = ap length c.letters.ensures in
    let lead : unwrap_or c.map.result no_row ≡ unwrap_or c.lead.result no_row = search rules in
    last_columns r (letters_of s.course.now) w.rows.now s.place c.loop-j.cells _ _ _ _ (omega (arith, c.requires.wide, c.split_at_mut-cells.ensures.front_len, same)) (omega (arith, c.requires.wide, c.split_at_mut-cells.ensures.back_len, same)) (λ k h. c.loop-j.invariant k (omega (arith, h, same, c.split_at_mut-cells.ensures.front_len)))
    (c.requires.weighs.owes.owes s.place (omega arith) s.marked)
    (c.requires.weighs.spans.spans s.place (omega arith) s.marked)
    (subst (λ v. Lead r s.place v) (sym (c.cell_of-2.ensures ∙ lead)) c.lead.ensures)
