use Rattle.std.proofs.Common.{◌≡◌, true, false, ltb, length, get_or, sym, ap, ◌∙◌}
use Rattle.std.proofs.lemmas.Bool.{ltb-true}
use Rattle.property.specs.Checks.{lap_closes, named_earlier}
use Rattle.property.specs.Meant.{meant}
use Rattle.property.proofs.Closed.{closing_at}
use Rattle.std.proofs.Math.Bool.{and-true}
use Rattle.property.proofs.listed.closing.lap_closes.Goals as goal

pub returns-in-Lap : goal.returns-in-Lap
returns-in-Lap c file nodes e named =
    let earlier : ltb c.in-Lap.a (length nodes) ≡ true = sym (and-true (ltb c.in-Lap.a (length nodes))) ∙ sym (ap (λ n. named_earlier nodes (meant file n)) c.in-Lap.is) ∙ named in
    c.names_closing.ensures
    ∙ ap (λ bs. get_or bs c.in-Lap.a false) e
    ∙ closing_at nodes c.in-Lap.a (ltb-true c.in-Lap.a (length nodes) earlier)
    ∙ sym (ap (λ n. lap_closes nodes (meant file n)) c.in-Lap.is)
