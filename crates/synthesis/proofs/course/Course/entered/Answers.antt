use Rattle.std.proofs.Common.{get_or, refl, ◌∙◌}
use Rattle.places.specs.declared.outcome.Outcome.TheVariants.{Dead}
use Rattle.synthesis.proofs.Belonging.{choice_at, enters_choice, enters_whole, whole_of_other}
use Rattle.synthesis.proofs.course.Course.entered.Goals as goal

pub returns-in-Choice : goal.returns-in-Choice
returns-in-Choice c n small ok i =
    enters_choice c.args.self.now n small c.args.offsets.now c.args.m _ ok i
    (choice_at c.args.self.now c.args.m _ c.node.ensures _ _ _ c.in-Choice.is refl)

pub returns-in_default : goal.returns-in_default
returns-in_default c n small ok i =
    c.shifted.ensures
    ∙ enters_whole c.args.self.now n small c.args.offsets.now c.args.m (get_or c.args.self.now.starts c.args.m Dead) ok i
    (whole_of_other c.args.self.now c.args.m _ c.node.ensures c.in_default.not-Choice) c.requires (c.args.self.now.starts_kept c.args.m c.requires)
