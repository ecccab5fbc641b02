use Rattle.std.proofs.Common.{◌≡◌, Ok, sym, refl, ap, subst, rules}
use Rattle.property.specs.Checks.{Parts, checked}
use Rattle.property.specs.Drafts.{parts_of}
use Rattle.property.specs.Placed.{answer, AlphabetAfter}
use Rattle.property.proofs.Measuring.{named_earlier, all_held}
use Rattle.property.proofs.check.read_property.Goals as goal

pub measure-requires : goal.measure-requires
measure-requires c = named_earlier c.args.file.now (parts_of c.args.file.now c.fill.new.declared c.fill.new.place) (sym c.in_default.ensures.answer)

pub returns : goal.returns
returns c =
    let parts : Parts = parts_of c.args.file.now c.fill.new.declared c.fill.new.place in
    let made : checked c.args.file.now ≡ Ok parts = sym c.in_default.ensures.answer in
    record {
      answer = ap answer (sym made);
      letters = subst (λ r. AlphabetAfter r c.args.alphabet.now c.declare.new.self) (sym made) (search rules);
      nodes = all_held c.args.file.now parts c.fill.new.place c.measure.new.self made refl
          c.in_default.ensures.closing c.in_default.ensures.last
          c.measure.ensures.sizes c.measure.ensures.stored c.measure.ensures.closing c.measure.ensures.last;
    }
