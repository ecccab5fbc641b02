use Rattle.std.proofs.Common.{◌+◌, ◌++◌, Some, sym, ap, ◌∙◌, arith}
use Rattle.letters.specs.Alphabets.{bare}
use Rattle.property.specs.Checks.{branch_letters}
use Rattle.property.specs.Drafts.{first_out}
use Rattle.property.specs.Nodes.{branches, Choice}
use Rattle.property.proofs.Branching.{out_here, out_later, out_end}
use Rattle.property.proofs.branches.first_out.Goals as goal

pub returns-then-is_out : goal.returns-then-is_out
returns-then-is_out c =
    let s = c.in-Some.ensures.steps in
    ap Some s.1
    ∙ sym (c.loop-index.invariant.3
    ∙ out_here c.loop-index.index-iterator.iter.rest.now c.in-Some.branch.now c.next.new.self.iter.rest.now s.0.1.0 (s.0.1.1 ∙ c.loop-index.invariant.2)
    (c.args.declared.now ++ bare) c.loop-index.least c.loop-index.index-iterator.count (sym c.is_out.ensures ∙ c.if-is_out.true))

pub loop-index-preserved : goal.loop-index-preserved
loop-index-preserved c =
    let s = c.in-Some.ensures.steps in
    let g = c.in-Some.ensures.goes.on c.loop-index.invariant.1 in
    let above = c.from-least.ensures in (
      g.0,
      g.1,
      s.0.0 ∙ c.loop-index.invariant.2,
      c.loop-index.invariant.3
          ∙ out_later c.loop-index.index-iterator.iter.rest.now c.in-Some.branch.now c.next.new.self.iter.rest.now s.0.1.0 (s.0.1.1 ∙ c.loop-index.invariant.2)
          (c.args.declared.now ++ bare) c.loop-index.least c.loop-index.index-iterator.count c.next.new.self.count (sym c.is_out.ensures ∙ c.if-is_out.false) s.2
          ∙ ap (λ l. first_out (c.args.declared.now ++ bare) (l + 1) c.next.new.self.count (branch_letters (Choice (branches c.next.new.self.iter.rest.now)))) (sym above),
    )

pub returns : goal.returns
returns c =
    let s = c.in-None.ensures.steps in
    sym (c.loop-index.invariant.3
    ∙ out_end c.loop-index.index-iterator.iter.rest.now (omega (arith, s.0.1.0, c.loop-index.invariant.2)) (c.args.declared.now ++ bare) c.loop-index.least c.loop-index.index-iterator.count)
