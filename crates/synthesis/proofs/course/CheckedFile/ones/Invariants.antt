use Rattle.std.proofs.Common.{◌≡◌, length}
use Rattle.property.specs.Checks.{most_nodes}
use Rattle.synthesis.specs.Courses.{OnesBefore, checked_nodes}
use Rattle.synthesis.proofs.course.CheckedFile.ones.Given as goal

abbrev pub invariant-loop-n : goal.invariant-loop-n
invariant-loop-n l = OnesBefore (checked_nodes l.self) l.self.letters.now l.ones l.n × (length l.ones ≡ most_nodes)
