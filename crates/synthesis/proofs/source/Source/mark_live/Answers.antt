use Rattle.std.proofs.Common.{ℕ, set, sym, subst, arith, rules}
use Rattle.synthesis.specs.Marks.{Marking}
use Rattle.synthesis.proofs.Marking.{all_filled, first_mark, exact}
use Rattle.synthesis.proofs.source.Source.mark_live.Goals as goal

pub loop-init : goal.loop-init
loop-init g c =
    let r = g.P.Places.meaning c.args.self.now.places.now in
    let cleared = c.fill.new.self in
    subst (λ (b : ℕ). Marking r (set cleared b 1)) (sym (c.boundary.ensures c.args.self.now.fillable.small))
    (first_mark r cleared (omega arith) c.args.self.now.fillable.fair.starts (all_filled cleared _ 0 (c.fill.ensures.after (λ y e. search rules))))

pub returns : goal.returns
returns g c = exact (g.P.Places.meaning c.args.self.now.places.now) c.mark_more.new.marks c.mark_more.ensures.marking c.args.self.now.letters.now c.args.self.now.fillable.fair (c.mark_more.ensures.done c.loop-test.false)
