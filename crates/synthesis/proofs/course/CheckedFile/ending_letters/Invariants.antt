use Rattle.std.proofs.Common.{get_or}
use Rattle.property.specs.Nodes.{branches}
use Rattle.places.specs.Walks.{target}
use Rattle.synthesis.specs.Singles.{ends_at}
use Rattle.synthesis.proofs.Bitwise.{Told}
use Rattle.synthesis.proofs.course.CheckedFile.ending_letters.Given as goal

abbrev pub invariant-loop-j : goal.invariant-loop-j
invariant-loop-j l = Told (λ k. ends_at l.starts (target (branches l.body) (get_or l.self.letters.now k 0))) l.bits l.j
