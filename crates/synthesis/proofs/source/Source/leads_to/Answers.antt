use Rattle.std.proofs.Common.{ℕ, sym, ◌∙◌, is_some, rules}
use borrow.Author.Tests.{tests}
use Rattle.std.proofs.lemmas.Iterator.{YieldsList-from_slice}
use Rattle.std.proofs.lemmas.Iterator.Search.{any_from_yields_List}
use Rattle.synthesis.specs.Marks.{onward}
use Rattle.synthesis.proofs.Marking.{into_none}
use Rattle.synthesis.proofs.source.Source.leads_to.Goals as goal

pub returns-clause-nay : goal.returns-clause-nay
returns-clause-nay g c e i =
    let r = g.P.Places.meaning c.args.self.now.places.now in
    let letters = c.args.self.now.letters.now in
    let test = λ (l : ℕ). is_some (onward r c.args.marks.now c.args.place l) in
    let x = any_from_yields_List test _ _ _ c.any.ensures.ran (YieldsList-from_slice letters cc) (λ x b q k. search (rules, tests)) in
    into_none r letters c.args.marks.now c.args.place i.0 i.1 (sym x ∙ e) (c.args.self.now.fillable.fair.lettered c.args.place i.0 i.1 c.requires i.2) i.2 i.3
