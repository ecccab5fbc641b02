use Rattle.std.proofs.Common.{ℕ, min, true, set, sym, ap, ◌∙◌, subst, arith}
use Rattle.property.proofs.FamilyMarks.{Marking, marking_step, marked_still, marking_all}
use Rattle.property.proofs.family.mark_branches_before.Goals as goal

pub loop-branch-preserved : goal.loop-branch-preserved
loop-branch-preserved c =
    let s = c.in-Some.ensures.steps in
    let g = c.in-Some.ensures.goes.on c.loop-branch.invariant.1 in (
      g.0,
      g.1,
      s.0 ∙ c.loop-branch.invariant.2,
      marked_still c.loop-branch.marked _ c.args.end (omega arith) c.loop-branch.invariant.3,
      subst (λ (k : ℕ). Marking c.args.body.now c.next.new.self.rest.now c.args.end c.args.marked.now (set c.loop-branch.marked k true))
          (sym (c.min.ensures ∙ ap (λ (k : ℕ). min k c.args.end) c.number_of.ensures))
          (marking_step _ c.loop-branch.branch-iterator.rest.now c.in-Some.branch.now c.next.new.self.rest.now _ _ _ c.loop-branch.invariant.4 s.1.0 (s.1.1 ∙ c.loop-branch.invariant.2) (omega arith) c.loop-branch.invariant.3),
    )

pub returns : goal.returns
returns c =
    let s = c.in-None.ensures.steps in
    marking_all _ c.loop-branch.branch-iterator.rest.now _ _ _ c.loop-branch.invariant.4 (omega (arith, s.1.0, c.loop-branch.invariant.2))
