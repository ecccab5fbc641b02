use Rattle.synthesis.specs.Courses.{letters_of, loop_of}
use Rattle.synthesis.proofs.Roots.{Drawn}
use Rattle.synthesis.proofs.course.Course.line.Given as goal

abbrev pub invariant-loop-j : goal.invariant-loop-j
invariant-loop-j l = Drawn (loop_of l.self) (letters_of l.self) l.place l.cells l.j
