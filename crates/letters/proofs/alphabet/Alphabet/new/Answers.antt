use Rattle.std.proofs.Common.{refl}
use Rattle.letters.specs.Alphabets.{first_barred}
use Rattle.letters.proofs.alphabet.Alphabet.new.Goals as goal

pub of-requires : goal.of-requires
unfolding first_barred
of-requires c = refl
