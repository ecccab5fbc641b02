use Rattle.synthesis.specs.Courses.{letters_of, loop_of}
use Rattle.synthesis.specs.Drawn.{Lines}
use Rattle.synthesis.proofs.drawn.draw.Given as goal

abbrev pub invariant-loop-place : goal.invariant-loop-place
invariant-loop-place l = Lines (loop_of l.course) (letters_of l.course) l.table l.place
