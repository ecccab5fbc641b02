use Rattle.std.proofs.Common.{◌<◌, arith}
use Rattle.synthesis.proofs.Weighing.{owes_skip, owes_more, spans_skip, spans_more}
use Rattle.synthesis.proofs.source.Source.weigh.Goals as goal
use Rattle.synthesis.proofs.source.Source.weigh.Goals.{then-rows-place-ne0+in_ok-owed, else-rows-place-ne0}

pub loop-place-preserved : goal.loop-place-preserved
loop-place-preserved g c = elim c.if-rows-place-ne0.branch [
  | then-rows-place-ne0+in_ok-owed w ↦
      let h : c.loop-place.place < (g.P.Places.meaning c.args.self.now.places.now).size = omega (arith, c.size-place-end.ensures, c.args.self.now.fillable.small) in
      rw (w.owed-is, w.span-is) (
        owes_more _ _ _ _ _ c.loop-place.invariant.0 h w.in_ok-owed.ensures.1 w.in_ok-owed.ensures.0,
        spans_more _ _ _ _ _ c.loop-place.invariant.1 h w.span_at.ensures.found w.span_at.ensures.low,
      )
  | else-rows-place-ne0 w ↦ rw (w.owed-is, w.span-is) (owes_skip _ _ _ _ c.loop-place.invariant.0 w.if-rows-place-ne0.false, spans_skip _ _ _ _ c.loop-place.invariant.1 w.if-rows-place-ne0.false)
]
