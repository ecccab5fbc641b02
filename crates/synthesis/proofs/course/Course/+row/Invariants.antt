use Rattle.synthesis.proofs.course.Course.+row.Given as goal

abbrev pub decreases-row : goal.decreases-row
decreases-row l = l.n
