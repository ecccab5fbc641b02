use Rattle.std.proofs.Common.{arith}
use Rattle.std.proofs.lemmas.List.{length-map}
use Rattle.property.specs.Meant.{meant}
use Rattle.property.proofs.FamilyMarks.{swept_past, swept_none, swept_more, swept_all}
use Rattle.property.proofs.listed.Listed.mark_family.Goals as goal

pub loop-m-init : goal.loop-m-init
loop-m-init c = swept_none _ _ _ (omega arith) c.mark_alone.ensures

pub loop-m-preserved : goal.loop-m-preserved
loop-m-preserved c = swept_more _ _ _ _ _ c.loop-m-test.true c.loop-m.invariant c.mark_named.ensures

pub returns-after-loop-m : goal.returns-after-loop-m
returns-after-loop-m c m l = swept_all _ _ _ _ c.loop-m-test.false c.loop-m.invariant m

pub returns-else-n-self : goal.returns-else-n-self
returns-else-n-self c m l = swept_past _ _ _ (omega (arith, length-map c.args.self.now.nodes.now (meant c.args.self.now.file.now))) c.mark_alone.ensures m (omega arith)
