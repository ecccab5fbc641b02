use Rattle.std.proofs.Common.{ℕ, ◌<◌, get_or}
use Rattle.synthesis.specs.Courses.{letters_of, loop_of}
use Rattle.synthesis.specs.Table.{Cell}
use Rattle.synthesis.proofs.write.Row.write.Given as goal

abbrev pub invariant-loop-j : goal.invariant-loop-j
invariant-loop-j l = (k : ℕ) → k < l.j → Cell (loop_of l.self.course.now) l.self.weighed.now.rows.now l.self.place (get_or (letters_of l.self.course.now) k 0) (get_or l.cells k 0)
