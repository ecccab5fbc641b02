use Rattle.enforcer.proofs.Files.{enforces}
use Rattle.enforcer.proofs.enforce.enforce.Goals as goal

pub returns : goal.returns
returns c =
    enforces c.args.file.now c.args.table.now c.args.work.now c.synthesize.new.table c.synthesize.new.work c.new-alphabet.result c.synthesize.new.alphabet c.in_ok-rows.rows c.in_ok-rows.ensures
    c.in_ok-rule.rule c.args.limit c.args.calls.now c.run_under.result c.in_ok-rule.ensures.exact c.run_under.ensures
