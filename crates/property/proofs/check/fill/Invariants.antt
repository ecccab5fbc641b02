use Rattle.std.proofs.Common.{◌-◌, length}
use Rattle.property.specs.Drafts.{parts_of}
use Rattle.property.specs.Placed.{closing_in}
use Rattle.property.proofs.Filling.{Sofar}
use Rattle.property.proofs.check.fill.Given as goal

abbrev pub invariant-loop-item : goal.invariant-loop-item
invariant-loop-item l = Sofar l.file l.reader.file.now l.reader.at (parts_of l.file l.declared l.place) (closing_in l.place) l.place.last

abbrev pub decreases-loop-item : goal.decreases-loop-item
decreases-loop-item l = length l.file - l.reader.at
