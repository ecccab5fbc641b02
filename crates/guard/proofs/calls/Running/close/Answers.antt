use Rattle.std.proofs.Common.{unwrap_or, rules, sym, ap, ◌∙◌, arith}
use Rattle.letters.specs.Letters.{end}
use Rattle.rules.specs.Valued.{meaning}
use Rattle.guard.proofs.Writing.{sofar_none, sofar_more, sofar_all}
use Rattle.guard.proofs.calls.Running.close.Goals as goal

pub loop-slot-init : goal.loop-slot-init
loop-slot-init g c = sofar_none _ _ _

pub loop-slot-preserved : goal.loop-slot-preserved
loop-slot-preserved g c =
    sofar_more _ _ _ _ _ _ _ _ c.loop-slot.invariant (omega arith)
    (c.unwrap_or-letter.ensures ∙ ap (λ o. unwrap_or o end) c.lead_at.ensures)
    (c.unwrap_or-place.ensures ∙ ap (λ o. unwrap_or o c.loop-slot.place) c.following.ensures)

pub returns : goal.returns
returns g c =
    let halves = c.split_at_mut-way.ensures in
    let e = sofar_all (meaning g.R.Rule c.args.rule.now) c.args.self c.args.out.now _ _ _ _ _ _ _ (sym c.if-not-is_live.ensures) c.owed_at-owed.ensures (omega (arith, halves.front_len)) c.if-owed-out.false
    halves.front_len halves.back c.loop-slot.invariant (c.unwrap_or-place-2.ensures ∙ ap (λ o. unwrap_or o c.loop-slot.place) c.following-2.ensures) in
    record { answer = e.answer; wrote = search (rules, e.wrote); led = e.led }
