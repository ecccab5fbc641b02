use Rattle.std.proofs.Common.{◌≡◌, true, refl, ap, ◌∙◌, arith}
use Rattle.letters.specs.Alphabets.{each_a_letter}
use Rattle.letters.specs.Declarations.{letters_of}
use Rattle.rules.proofs.Counting.{count_lawful, each_letter}
use Rattle.rules.proofs.count.Count.new.Goals as goal

pub returns : goal.returns
returns c =
    let a = c.args.alphabet.now in
    let each : each_a_letter c.letters.result.now ≡ true = ap each_a_letter c.letters.ensures ∙ each_letter (letters_of a) a.ok in
    record {
      exact = (omega arith, c.letters.ensures, refl);
      lawful = count_lawful c.letters.result.now c.args.k each (omega arith);
    }
