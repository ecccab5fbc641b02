use Rattle.std.proofs.Common.{◌≡◌, length}
use Rattle.property.specs.Checks.{most_nodes}
use Rattle.synthesis.specs.Courses.{StartsBefore, checked_nodes}
use Rattle.synthesis.proofs.course.CheckedFile.starts.Given as goal

abbrev pub invariant-loop-n : goal.invariant-loop-n
invariant-loop-n l = StartsBefore (checked_nodes l.self) l.starts l.n × (length l.starts ≡ most_nodes)
