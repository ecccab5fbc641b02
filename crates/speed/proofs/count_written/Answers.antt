use Rattle.std.proofs.Common.{refl}
use Rattle.speed.proofs.Counting.{sofar_none, sofar_more, sofar_all}
use Rattle.speed.proofs.count_written.Goals as goal

pub loop-letter-init : goal.loop-letter-init
loop-letter-init g c = sofar_none _ _ _ _ _ refl c.start.ensures c.begin-running.ensures

pub loop-letter-preserved : goal.loop-letter-preserved
loop-letter-preserved g c =
    sofar_more _ _ _ _ _ _ _ _ _ c.loop-letter.invariant c.loop-letter-test.true c.offer-written.auto.out c.offer-written.ensures c.saturating_add-count.ensures

pub returns : goal.returns
returns g c = sofar_all _ _ _ _ _ _ c.loop-letter.invariant c.loop-letter-test.false
