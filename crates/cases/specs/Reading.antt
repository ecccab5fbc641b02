-- What a whole reading comes to.
use Rattle.std.specs.Prelude.{ℕ, ◌+◌, length, Some, None, Ok, Err, Option, Result}
use Rattle.records.specs.declared.fault.ReadFault.{ReadFault}
use Rattle.records.specs.Readings.{Reading}

abbrev pub by_fault : ℕ → Option ReadFault → Result ℕ ReadFault
by_fault count None = Ok count
by_fault count (Some fault) = Err fault

-- the fault, or the number of records, on top of those before
abbrev pub outcome : ℕ → Reading → Result ℕ ReadFault
outcome before r = by_fault (before + length r.items) r.fault
