use Rattle.std.proofs.Common.{◌≡◌, length}
use Rattle.property.specs.Checks.{most_nodes}
use Rattle.synthesis.proofs.Belonging.{Written}
use Rattle.synthesis.proofs.course.Course.offsets.Given as goal

abbrev pub invariant-loop-m : goal.invariant-loop-m
invariant-loop-m l = record {
  written : Written l.self l.n l.offsets l.m l.total;
  long : length l.offsets ≡ most_nodes;
}
