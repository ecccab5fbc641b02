use Rattle.std.proofs.Common.{arith}
use Rattle.synthesis.proofs.Marking.{passing_skip, passing_mark}
use Rattle.synthesis.proofs.source.Source.mark_more.Goals as goal
use Rattle.synthesis.proofs.source.Source.mark_more.Goals.{then-marks-place-eq0+then-leads_to, else-marks-place-eq0, else-marks-place-eq0-via-then-marks-place-eq0+else-leads_to, else-marks-place-eq0-via-else-marks-place-eq0}

pub loop-place-preserved : goal.loop-place-preserved
loop-place-preserved g c = elim c.if-marks-place-eq0.branch [
  | then-marks-place-eq0+then-leads_to w ↦ rw (w.marks-is, w.added-is) (passing_mark _ _ _ _ _ c.loop-place.invariant (omega (arith, c.loop-place.invariant.marking.long)) w.if-marks-place-eq0.true (w.leads_to.ensures.yes w.if-leads_to.true))
  | else-marks-place-eq0 w ↦
      rw (w.marks-is, w.added-is)
      (passing_skip _ _ _ _ _ c.loop-place.invariant
      (elim w.else-marks-place-eq0.branch [
        | else-marks-place-eq0-via-then-marks-place-eq0+else-leads_to v ↦ λ i. absurd (v.leads_to.ensures.nay v.if-leads_to.false i)
        | else-marks-place-eq0-via-else-marks-place-eq0 v ↦ λ i. omega arith
      ]))
]
