use Rattle.property.proofs.FamilyMarks.{Swept}
use Rattle.synthesis.specs.Courses.{nodes_of}
use Rattle.synthesis.proofs.Belonging.{Falling}
use Rattle.synthesis.proofs.course.Course.member_at.Given as goal

abbrev pub invariant-loop-m : goal.invariant-loop-m
invariant-loop-m l = Swept (nodes_of l.self) l.n l.marked l.m × Falling l.self l.n l.place l.m l.first
