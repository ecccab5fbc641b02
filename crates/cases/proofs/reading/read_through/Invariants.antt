use Rattle.std.proofs.Common.{◌-◌, length}
use Rattle.cases.proofs.ReadingLoop.{Sofar}
use Rattle.cases.proofs.reading.read_through.Given as goal

abbrev pub invariant-loop-count : goal.invariant-loop-count
invariant-loop-count l = Sofar l.file l.reader.file.now l.reader.at l.count

abbrev pub decreases-loop-count : goal.decreases-loop-count
decreases-loop-count l = length l.file - l.reader.at
