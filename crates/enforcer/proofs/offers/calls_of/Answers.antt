use Rattle.std.proofs.Common.{vec_items, ap}
use Rattle.std.proofs.lemmas.Result.{err_from_is_err_and}
use Rattle.enforcer.proofs.OfferLoop.{Begun, begun_at_rest, begun_inside, sofar_more, sofar_all}
use Rattle.enforcer.proofs.Offering.{begins_at_rest}
use Rattle.enforcer.proofs.offers.calls_of.Goals as goal
use Rattle.enforcer.proofs.offers.calls_of.Goals.{then-not-open+in_ok-push, else-not-open}

pub returns-in_err-push : goal.returns-in_err-push
returns-in_err-push c =
    let p = err_from_is_err_and c.from_residual.result c.from_residual.ensures.1 in
    record { calls = rw p.1 tt; begins = λ m lawful fits. begins_at_rest m lawful c.args.room fits c.args.offers.now }

pub returns-in_err-push-2 : goal.returns-in_err-push-2
returns-in_err-push-2 c =
    let p = err_from_is_err_and c.from_residual-in_err-push-2.result c.from_residual-in_err-push-2.ensures.1 in
    record { calls = rw p.1 tt; begins = λ m lawful fits. begins_at_rest m lawful c.args.room fits c.args.offers.now }

begun : (c : goal.In_ok-push-2) → Begun c.loop-letter.open (vec_items c.loop-letter.calls) (vec_items c.if-not-open.calls)
begun c = elim c.if-not-open.branch [
  | then-not-open+in_ok-push w ↦
      begun_at_rest c.loop-letter.open (vec_items c.loop-letter.calls) (vec_items w.push.new.self) (vec_items c.if-not-open.calls)
      w.if-not-open.true (ap vec_items w.calls-is) w.in_ok-push.ensures.items
  | else-not-open w ↦
      begun_inside c.loop-letter.open (vec_items c.loop-letter.calls) (vec_items c.if-not-open.calls) w.if-not-open.false (ap vec_items w.calls-is)
]

pub loop-letter-preserved : goal.loop-letter-preserved
loop-letter-preserved c =
    sofar_more c.args.room c.args.offers.now c.loop-letter.letter-index c.loop-letter.open
    (vec_items c.loop-letter.calls) (vec_items c.if-not-open.calls) (vec_items c.push-in-loop-letter.new.self) c.offered.result
    c.loop-letter.invariant c.loop-letter-test.true (begun c) c.offered.ensures c.in_ok-push-2.ensures.items

pub returns : goal.returns
returns c =
    record {
      calls = sofar_all _ _ _ _ _ c.loop-letter.invariant c.loop-letter-test.false;
      begins = λ m lawful fits. begins_at_rest m lawful c.args.room fits c.args.offers.now;
    }
