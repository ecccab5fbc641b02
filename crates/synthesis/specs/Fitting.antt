-- A checked property in its place, and the tests before its table is filled.
use Rattle.std.specs.Prelude.{◌≡◌, ℕ, ◌+◌, ◌*◌, cond, List, Ok, Err, Result, nat_lt}
use Rattle.letters.specs.Declarations.{letters_of}
use Rattle.letters.specs.declared.alphabet.Alphabet.{Alphabet}
use Rattle.property.specs.Checks.{Parts, alphabet_of, checked}
use Rattle.property.specs.Placed.{HoldsParts}
use Rattle.property.specs.Sized.{most_size}
use Rattle.property.specs.declared.place.Nodes.{Nodes}
use Rattle.synthesis.specs.declared.fault.SynthesisFault.{SynthesisFault}
use Rattle.synthesis.specs.declared.fault.SynthesisFault.TheVariants.{TooLarge, TableMemory, WorkingMemory}

-- the parts of a file that passed the checks, in the places for nodes and for the alphabet
pub record Read (file : List ℕ) (place : Nodes) (alphabet : Alphabet) : Type 0 where
  pub parts : Parts
  pub passes : checked file ≡ Ok parts
  pub holds : HoldsParts file parts place
  pub letters : letters_of alphabet ≡ alphabet_of parts

-- the first of the three refusals that applies
abbrev pub fitting : ℕ → ℕ → ℕ → ℕ → ℕ → Result (Unit {0}) SynthesisFault
fitting size letters table work at =
    cond (nat_lt most_size size) (Err (TooLarge at))
    (cond (nat_lt table (size * (letters + 3))) (Err (TableMemory at)) (cond (nat_lt work (4 * size)) (Err (WorkingMemory at)) (Ok tt)))
