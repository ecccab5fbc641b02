use Rattle.std.proofs.lemmas.Result.{err_from_is_err_and}
use Rattle.synthesis.specs.Synthesis.{lent}
use Rattle.synthesis.specs.declared.fault.SynthesisFault.TheVariants.{Property}
use Rattle.std.proofs.Common.{refl}
use Rattle.synthesis.proofs.Answered.{read_of, refused_of, left_with, made_with, exits}
use Rattle.synthesis.proofs.synthesize.synthesize.Goals as goal

pub returns-in_err-read_property : goal.returns-in_err-read_property
returns-in_err-read_property c =
    let p = err_from_is_err_and c.from_residual.result c.from_residual.ensures.1 in
    let all = lent c.args.alphabet.now c.args.table.now c.args.work.now in
    let fault = c.in_err-read_property.field-0.0 in
    exits c.args.file.now all all c.from_residual.result p.0 (Property fault) p.1 p.2
    (refused_of c.args.file.now fault c.in_err-read_property.ensures.answer, refl)

pub fill_table-requires : goal.fill_table-requires
fill_table-requires c =
    read_of c.args.file.now c.read_property.new.place c.new-declared.result c.read_property.new.alphabet
    c.in_ok-read_property.ensures.answer c.read_property.ensures.letters c.read_property.ensures.nodes

pub returns-in_err-rows : goal.returns-in_err-rows
returns-in_err-rows c =
    let p = err_from_is_err_and c.from_residual-in_err-rows.result c.from_residual-in_err-rows.ensures.1 in
    let fault = c.in_err-rows.field-0.0 in
    let told = c.in_err-rows.ensures in
    exits c.args.file.now
    (lent c.args.alphabet.now c.args.table.now c.args.work.now)
    (lent c.args.alphabet.now c.fill_table.new.table c.fill_table.new.work)
    c.from_residual-in_err-rows.result p.0 fault p.1 p.2 (
      told.0,
      left_with c.read_property.new.alphabet c.args.alphabet.now
          c.args.table.now c.fill_table.new.table c.args.work.now c.fill_table.new.work fault told.1,
    )

pub returns : goal.returns
returns c =
    made_with c.read_property.new.alphabet c.args.alphabet.now c.args.table.now c.fill_table.new.table c.args.work.now c.fill_table.new.work
    c.args.file.now c.in_ok-rows.rows c.in_ok-rows.ensures
