use Rattle.std.proofs.lemmas.Result.{err_from_is_err_and}
use Rattle.speed.proofs.Files.{counts, refuses}
use Rattle.speed.proofs.count_under_file.Goals as goal

pub returns-in_err-rule : goal.returns-in_err-rule
returns-in_err-rule c =
    let p = err_from_is_err_and c.from_residual-in_err-rule.result c.from_residual-in_err-rule.ensures.1 in
    refuses c.args.file.now c.args.table.now c.args.work.now c.synthesize.new.table c.synthesize.new.work c.new-alphabet.result c.synthesize.new.alphabet c.in_ok-rows.rows c.in_ok-rows.ensures
    c.in_ok-new.field-0 c.in_ok-new.ensures.exact c.args.cap c.args.offers.now c.in_err-rule.field-0.0 c.in_err-rule.ensures.exact c.from_residual-in_err-rule.result p.0 p.1 p.2

pub returns : goal.returns
returns c =
    counts c.args.file.now c.args.table.now c.args.work.now c.synthesize.new.table c.synthesize.new.work c.new-alphabet.result c.synthesize.new.alphabet c.in_ok-rows.rows c.in_ok-rows.ensures
    c.in_ok-new.field-0 c.in_ok-new.ensures.exact c.args.cap c.args.offers.now c.in_ok-rule.rule c.in_ok-rule.ensures.exact (c.in_ok-rule.ensures.plain c.in_ok-new.ensures.lawful) c.count_written.result c.count_written.ensures
