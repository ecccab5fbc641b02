-- What a declaration gives, and what it leaves in the alphabet's place.
use Rattle.std.specs.Prelude.{◌≡◌, ℕ, List, ◌++◌, take, Some, None, Ok, Err, Option, Result}
use Rattle.letters.specs.declared.alphabet.Alphabet.{Alphabet}
use Rattle.letters.specs.declared.alphabet.Barred.{Barred}
use Rattle.letters.specs.declared.refusal.Report.{Report}
use Rattle.letters.specs.Alphabets.{bare, first_barred}

-- the letters of an alphabet, in order
abbrev pub letters_of : Alphabet → List ℕ
letters_of a = take a.count a.letters

-- a barred byte: layer 2, number 5, at its place in the bytes
abbrev pub barred_report : Barred → Report
barred_report b = record { layer = 2; number = 5; offset = b.offset }

abbrev pub answer : Option ℕ → Result (Unit {0}) Barred
answer None = Ok tt
answer (Some i) = Err (record { offset = i })

-- refused at the first barred byte
abbrev pub declared : List ℕ → Result (Unit {0}) Barred
declared bytes = answer (first_barred 0 0 bytes)

abbrev pub written : List ℕ → List ℕ → Option ℕ → List ℕ
written old bytes None = bytes ++ bare
written old bytes (Some i) = old

-- the alphabet's letters after a declaration; every letter that may be declared is below tick and end
abbrev pub after : List ℕ → List ℕ → List ℕ
after old bytes = written old bytes (first_barred 0 0 bytes)

-- a refusal leaves the place as it was
abbrev pub Kept : Result (Unit {0}) Barred → Alphabet → Alphabet → Type 0
Kept (Ok done) before later = Unit {0}
Kept (Err e) before later = later ≡ before
