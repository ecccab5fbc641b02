use Rattle.std.proofs.Common.{rules}
use Rattle.rules.specs.Tabled.{no_row}
use Rattle.synthesis.specs.Courses.{letters_of, loop_of}
use Rattle.synthesis.proofs.Agreeing.{stuck}
use Rattle.synthesis.proofs.Marking.{all_filled}
use Rattle.synthesis.proofs.Owning.{own}
use Rattle.synthesis.proofs.Ruling.{filled_tables_are_rules}
use Rattle.synthesis.proofs.make.make_table.Goals as goal
use Rattle.synthesis.proofs.make.make_table.Goals.{in-None, in-Some}

pub returns-clause-table : goal.returns-clause-table
returns-clause-table c = elim c.match-weigh_drawn.branch [
  | in-None w ↦ rw (w.table-is, w.answer-is) (stuck (loop_of c.args.course.now) w.in-None.ensures, all_filled w.fill.new.self _ no_row (w.fill.ensures.after (λ y e. search rules)))
  | in-Some w ↦
      let r = loop_of c.args.course.now in
      let letters = letters_of c.args.course.now in
      rw (w.table-is, w.answer-is) (record {
        ruled = filled_tables_are_rules r letters w.write.new.table w.in-Some.weighed.count c.args.course.now.checked.grounds.fillable c.requires.each_a_letter w.write.ensures;
        own = own r letters w.write.new.table w.in-Some.weighed.count w.write.ensures;
        rest = w.write.ensures.rest;
      })
]

pub returns-clause-cleared : goal.returns-clause-cleared
returns-clause-cleared c = all_filled c.fill-2.new.self _ 0 (c.fill-2.ensures.after (λ y e. search rules))
