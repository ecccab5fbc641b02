use Rattle.std.proofs.Common.{eqb, ◌∙◌, rules, tests}
use Rattle.std.proofs.lemmas.Iterator.{YieldsList-from_slice}
use Rattle.std.proofs.lemmas.Iterator.Search.{position_from_yields_List}
use Rattle.letters.proofs.Positions.{searched}
use Rattle.letters.proofs.alphabet.methods.index_of.Goals as goal

pub returns : goal.returns
returns c =
    position_from_yields_List (λ k. eqb k c.args.letter) _ _ _ c.position.ensures.ran (YieldsList-from_slice c.args.letters.now cc) (λ x b q k. search (rules, tests))
    ∙ searched c.args.letters.now c.args.letter
