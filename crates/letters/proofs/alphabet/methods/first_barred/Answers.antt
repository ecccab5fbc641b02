use Rattle.std.proofs.Common.{sym, ◌∙◌, arith}
use Rattle.letters.proofs.Declaring.{barred_here, barred_later, none_barred}
use Rattle.letters.proofs.alphabet.methods.first_barred.Goals as goal

pub returns-then-is_barred : goal.returns-then-is_barred
returns-then-is_barred c =
    let e = barred_here c.args.bytes.now c.loop-index.least c.loop-index.index (omega arith) (sym c.is_barred.ensures ∙ c.if-is_barred.true) in
    cc

pub loop-index-preserved : goal.loop-index-preserved
loop-index-preserved c = rw c.from-least.ensures (
    c.loop-index.invariant ∙ barred_later c.args.bytes.now c.loop-index.least c.loop-index.index (omega arith) (sym c.is_barred.ensures ∙ c.if-is_barred.false))

pub returns : goal.returns
returns c =
    let e = none_barred c.args.bytes.now c.loop-index.least c.loop-index.index (omega arith) in
    cc
