use Rattle.property.specs.Meant.{listed}
use Rattle.property.proofs.FamilyMarks.{Swept}
use Rattle.property.proofs.listed.Listed.mark_family.Given as goal

abbrev pub invariant-loop-m : goal.invariant-loop-m
invariant-loop-m l = Swept (listed l.self) l.n l.marked l.m
