use Rattle.std.proofs.Common.{◌≡◌, Bool, true, false, ◌||◌, sym, ap, ◌∙◌}
use Rattle.letters.specs.Alphabets.{bare, among}
use Rattle.property.proofs.Lettering.{among_joined}
use Rattle.property.proofs.branches.is_known.Goals as goal

pub returns-then-contains : goal.returns-then-contains
returns-then-contains c =
    let e = among_joined c.args.letter c.args.declared.now bare in
    let i : among c.args.letter c.args.declared.now ≡ true = sym c.contains.ensures ∙ c.if-contains.true in
    c.if-contains.true ∙ sym (e ∙ ap (λ (t : Bool). t || among c.args.letter bare) i)

pub returns-else-contains : goal.returns-else-contains
returns-else-contains c =
    let e = among_joined c.args.letter c.args.declared.now bare in
    let i : among c.args.letter c.args.declared.now ≡ false = sym c.contains.ensures ∙ c.if-contains.false in
    c.is_bare.ensures ∙ sym (e ∙ ap (λ (t : Bool). t || among c.args.letter bare) i)
