use Rattle.std.proofs.Common.{Ok, Err, sym, ap, ◌∙◌, arith}
use Rattle.std.proofs.lemmas.Result.{err_from_is_err_and}
use Rattle.cases.proofs.ReadingLoop.{sofar_none, sofar_more, sofar_over, sofar_fault}
use Rattle.cases.proofs.reading.read_through.Goals as goal

pub loop-count-init : goal.loop-count-init
loop-count-init c = let o = c.in_ok-reader.ensures.opened in sofar_none _ _ _ o.0 o.1 o.2

pub returns-in_err-next : goal.returns-in_err-next
returns-in_err-next c =
    let p = err_from_is_err_and c.from_residual-in_err-next.result c.from_residual-in_err-next.ensures.1 in
    p.1 ∙ sofar_fault _ _ _ _ _ c.next.result p.0 c.loop-count.invariant c.next.ensures.hands (c.in_err-next.was ∙ ap Err (sym p.2))

pub overflow_add-count : goal.overflow_add-count
overflow_add-count c = omega (arith, c.loop-count.invariant.few, c.loop-count.invariant.within)

pub loop-count-smaller : goal.loop-count-smaller
loop-count-smaller c =
    (sofar_more _ _ _ _ _ _ c.next.result c.in-Some.field-0 c.loop-count.invariant (ap (λ x. x.now) c.next.ensures.kept) c.next.ensures.hands (c.in_ok-next.was ∙ ap Ok c.in-Some.is)).1

pub loop-count-preserved : goal.loop-count-preserved
loop-count-preserved c =
    (sofar_more _ _ _ _ _ _ c.next.result c.in-Some.field-0 c.loop-count.invariant (ap (λ x. x.now) c.next.ensures.kept) c.next.ensures.hands (c.in_ok-next.was ∙ ap Ok c.in-Some.is)).0

pub returns : goal.returns
returns c = sofar_over _ _ _ _ _ c.next.result c.loop-count.invariant c.next.ensures.hands (c.in_ok-next.was ∙ ap Ok c.in_default.is)
