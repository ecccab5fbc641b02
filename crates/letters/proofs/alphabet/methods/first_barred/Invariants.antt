use Rattle.std.proofs.Common.{◌≡◌, drop}
use Rattle.letters.specs.Alphabets.{first_barred}
use Rattle.letters.proofs.alphabet.methods.first_barred.Given as goal

abbrev pub invariant-loop-index : goal.invariant-loop-index
invariant-loop-index l = first_barred 0 0 l.bytes ≡ first_barred l.least l.index (drop l.index l.bytes)
