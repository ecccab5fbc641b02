use Rattle.std.proofs.Common.{ℕ, [], set, sym, refl, subst, arith, rules}
use Rattle.synthesis.specs.Numbers.{Numbered}
use Rattle.synthesis.proofs.Numbering.{first_row, zeros_clear, numbering_more, numbering_all, rows_of}
use Rattle.synthesis.proofs.Marking.{all_filled}
use Rattle.synthesis.proofs.source.Source.number.Goals as goal

pub loop-head-init : goal.loop-head-init
loop-head-init g c =
    let r = g.P.Places.meaning c.args.self.now.places.now in
    let live = c.args.live.now in
    let cleared = c.fill.new.self in
    let zeros = all_filled cleared _ 0 (c.fill.ensures.after (λ y e. search rules)) in
    record {
      numbered = subst (λ (b : ℕ). Numbered r live (set cleared b 1) (set c.args.order.now 0 b) 1) (sym (c.boundary-boundary.ensures c.args.self.now.fillable.small))
          (first_row r live cleared c.args.order.now c.args.self.now.fillable.fair.starts (omega arith) c.requires.order_len zeros (zeros_clear cleared zeros)
          (c.requires.exact.complete r.boundary c.args.self.now.fillable.fair.starts ([], refl)));
      so_far = omega arith;
      closed = λ i h. absurd (omega arith);
    }

pub loop-head-preserved : goal.loop-head-preserved
loop-head-preserved g c = numbering_more _ _ _ _ _ _ _ _ _ c.loop-head.invariant c.loop-head-test.true c.number_from-count.ensures.numbered c.number_from-count.ensures.grown c.number_from-count.ensures.followed

pub returns : goal.returns
returns g c = rows_of _ _ _ _ _ _ c.args.self.now.fillable.fair c.requires.exact (numbering_all _ _ _ _ _ _ c.loop-head.invariant c.loop-head-test.false)
