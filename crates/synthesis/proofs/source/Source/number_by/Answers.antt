use Rattle.std.proofs.Common.{ℕ, ◌+◌, ◌<◌, set, sym, ◌∙◌, subst, arith}
use Rattle.synthesis.specs.Marks.{Marked}
use Rattle.synthesis.proofs.Paths.{some_same, marked_some, reached_after}
use Rattle.synthesis.proofs.Marking.{marked_within}
use Rattle.synthesis.proofs.Numbering.{room_left, numbered_more, grown_more, has_row}
use Rattle.synthesis.proofs.source.Source.number_by.Goals as goal

pub bounds-order-count : goal.bounds-order-count
bounds-order-count g c =
    let r = g.P.Places.meaning c.args.self.now.places.now in
    let n = c.requires.numbering in
    let on = marked_some c.args.live.now (r.next c.args.place c.args.letter) c.in-Some.next (sym c.onward.ensures ∙ c.in-Some.is) in
    omega (arith, room_left r c.args.live.now c.args.rows.now c.args.order.now c.args.count n c.in-Some.next (omega (arith, marked_within c.args.live.now c.in-Some.next on.1)) c.if-rows-next-eq0.true, n.order_long)

pub returns-in-Some : goal.returns-in-Some
returns-in-Some g c =
    let r = g.P.Places.meaning c.args.self.now.places.now in
    let live = c.args.live.now in
    let rows = c.args.rows.now in
    let order = c.args.order.now in
    let n = c.requires.numbering in
    let q = c.in-Some.next in
    let on = marked_some live (r.next c.args.place c.args.letter) q (sym c.onward.ensures ∙ c.in-Some.is) in
    let h : q < r.size = omega (arith, marked_within live q on.1) in
    let z = c.if-rows-next-eq0.true in
    let t = reached_after r c.args.place c.args.letter q on.0 (n.reached c.args.place c.requires.marked) in
    record {
      numbered = numbered_more r live rows order c.args.count n q h z on.1 t;
      grown = grown_more r live rows order c.args.count n q h z on.1 t;
      followed = λ k f w. subst (λ (x : ℕ). Marked (set rows q (c.args.count + 1)) x) (some_same q k (sym on.0 ∙ f)) (has_row r live rows order c.args.count n q h z on.1 t);
    }
