use Rattle.std.proofs.lemmas.Result.{err_from_is_err_and}
use Rattle.rules.specs.Valued.{meaning}
use Rattle.guard.proofs.RunLoop.{sofar_more, sofar_all}
use Rattle.guard.proofs.Theorem.{guarded}
use Rattle.guard.proofs.runs.run_calls.Goals as goal

pub returns-in_err-run : goal.returns-in_err-run
returns-in_err-run g c =
    let p = err_from_is_err_and c.from_residual.result c.from_residual.ensures.1 in
    record { told = rw p.1 tt; guarded = guarded (meaning g.R.Rule c.args.rule.now) }

pub loop-call-preserved : goal.loop-call-preserved
loop-call-preserved g c = sofar_more _ _ _ _ _ c.loop-call.invariant c.loop-call-test.true c.in_ok-run.ensures

pub returns : goal.returns
returns g c = record { told = sofar_all _ _ _ _ c.loop-call.invariant c.loop-call-test.false; guarded = guarded (meaning g.R.Rule c.args.rule.now) }
