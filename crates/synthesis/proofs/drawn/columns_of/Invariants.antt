use Rattle.synthesis.specs.Courses.{letters_of}
use Rattle.synthesis.specs.Drawn.{Columned}
use Rattle.synthesis.proofs.drawn.columns_of.Given as goal

abbrev pub invariant-loop-j : goal.invariant-loop-j
invariant-loop-j l = Columned (letters_of l.course) l.columns l.j
