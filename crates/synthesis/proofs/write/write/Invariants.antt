use Rattle.synthesis.specs.Courses.{letters_of, loop_of}
use Rattle.synthesis.specs.Table.{RowsWritten}
use Rattle.synthesis.proofs.write.write.Given as goal

abbrev pub invariant-loop-i : goal.invariant-loop-i
invariant-loop-i l = RowsWritten (loop_of l.course) (letters_of l.course) l.weighed.rows.now l.weighed.order.now l.table l.i
