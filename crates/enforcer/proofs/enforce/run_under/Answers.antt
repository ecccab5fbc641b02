use Rattle.std.proofs.lemmas.Result.{err_from_is_err_and}
use Rattle.rules.specs.Caps.{default_cap}
use Rattle.rules.specs.Tables.{table_rule}
use Rattle.rules.specs.Valued.{meaning}
use Rattle.enforcer.proofs.Caps.{no_cap, capped_run, no_memory, no_limit, under_standard, under_letters, refused_letters}
use Rattle.enforcer.proofs.enforce.run_under.Goals as goal

pub returns-in_err-run_calls-in-Standard : goal.returns-in_err-run_calls-in-Standard
returns-in_err-run_calls-in-Standard c =
    let p = err_from_is_err_and c.from_residual-in_err-run_calls-in-Standard.result c.from_residual-in_err-run_calls-in-Standard.ensures.1 in
    no_memory (meaning table_rule c.args.rule) c.args.limit c.args.calls.now c.from_residual-in_err-run_calls-in-Standard.result p.0 p.1 p.2

pub returns-in_err-new-in-Letters : goal.returns-in_err-new-in-Letters
returns-in_err-new-in-Letters c =
    let p = err_from_is_err_and c.from_residual-in_err-new-in-Letters.result c.from_residual-in_err-new-in-Letters.ensures.1 in
    no_limit (meaning table_rule c.args.rule) c.args.limit c.args.calls.now c.from_residual-in_err-new-in-Letters.result p.0 c.in_err-new-in-Letters.field-0.0 p.1 p.2
    (refused_letters (meaning table_rule c.args.rule) c.args.limit c.in-Letters.k c.in_err-new-in-Letters.field-0.0 c.in-Letters.is
    (no_cap c.args.rule c.in-Letters.k c.in_err-new-in-Letters.field-0.0 c.requires.few c.in_err-new-in-Letters.ensures.exact))

pub returns-in_ok-run_calls-in-Standard : goal.returns-in_ok-run_calls-in-Standard
returns-in_ok-run_calls-in-Standard c =
    let cap = c.in_ok-standard-in-Standard.ensures in
    let run = c.in_ok-run_calls-in-Standard.ensures in
    under_standard (meaning table_rule c.args.rule) c.args.limit c.args.calls.now c.in_ok-run_calls-in-Standard.field-0 c.in-Standard.is
    (capped_run c.args.rule default_cap c.in_ok-standard-in-Standard.field-0 c.args.calls.now c.in_ok-run_calls-in-Standard.field-0 cap.exact (cap.lawful c.requires.lawful) (cap.plain c.requires.lawful) run.told run.guarded)

pub returns-in_ok-run_calls-in-Letters : goal.returns-in_ok-run_calls-in-Letters
returns-in_ok-run_calls-in-Letters c =
    let cap = c.in_ok-new-in-Letters.ensures in
    let run = c.in_ok-run_calls-in-Letters.ensures in
    under_letters (meaning table_rule c.args.rule) c.args.limit c.args.calls.now c.in-Letters.k c.in_ok-run_calls-in-Letters.field-0 c.in-Letters.is
    (capped_run c.args.rule c.in-Letters.k c.in_ok-new-in-Letters.field-0 c.args.calls.now c.in_ok-run_calls-in-Letters.field-0 cap.exact (cap.lawful c.requires.lawful) (cap.plain c.requires.lawful) run.told run.guarded)
