use Rattle.std.proofs.Common.{◌-◌, arith}
use Rattle.property.proofs.FamilyMarks.{swept_tells, swept_more, swept_skip}
use Rattle.synthesis.proofs.Belonging.{falling_all, falling_end, falling_fits, falling_found, falling_more, falling_skip, swept_first}
use Rattle.synthesis.proofs.Grounding.{few_nodes}
use Rattle.synthesis.proofs.course.Course.member_at.Goals as goal

pub loop-m-init : goal.loop-m-init
loop-m-init c = (
  swept_first _ _ (omega (arith, few_nodes c.args.self.now.checked.file.now c.args.self.now.checked.nodes.now, c.requires.small.within)),
  falling_all _ _ c.requires.small _ _ c.requires.inside c.size_at-first.ensures,
)

pub overflow_sub-first : goal.overflow_sub-first
overflow_sub-first c =
    falling_fits _ _ c.requires.small _ _ _ c.loop-m.invariant.1 _ (swept_tells _ _ _ _ (c.loop-m.m - 1) (omega arith) c.loop-m.invariant.0) c.loop-m-test.true
    c.if-marked-m.true _ c.places_of-first.ensures

pub returns-then-first-place : goal.returns-then-first-place
returns-then-first-place c =
    falling_found _ _ c.requires.small _ _ _ c.loop-m.invariant.1 _ (swept_tells _ _ _ _ (c.loop-m.m - 1) (omega arith) c.loop-m.invariant.0) c.loop-m-test.true
    c.if-marked-m.true _ c.places_of-first.ensures c.if-first-place.true c.loop-m.auto.m

pub loop-m-preserved-then-marked-m : goal.loop-m-preserved-then-marked-m
loop-m-preserved-then-marked-m c = (
  swept_more _ _ _ _ _ c.loop-m-test.true c.loop-m.invariant.0 c.mark_named.ensures,
  falling_more _ _ c.requires.small _ _ _ c.loop-m.invariant.1 _ (swept_tells _ _ _ _ (c.loop-m.m - 1) (omega arith) c.loop-m.invariant.0) c.loop-m-test.true
      c.if-marked-m.true _ c.places_of-first.ensures (omega arith),
)

pub loop-m-preserved : goal.loop-m-preserved
loop-m-preserved c = (
  swept_skip _ _ _ _ c.loop-m-test.true c.loop-m.invariant.0 c.if-marked-m.false,
  falling_skip _ _ c.requires.small _ _ _ c.loop-m.invariant.1 _ (swept_tells _ _ _ _ (c.loop-m.m - 1) (omega arith) c.loop-m.invariant.0) c.loop-m-test.true
      c.if-marked-m.false,
)

pub unreachable-requires : goal.unreachable-requires
unreachable-requires c = falling_end c.args.self.now c.args.n _ _ _ c.loop-m.invariant.1 c.loop-m-test.false
