use Rattle.std.proofs.Common.{◌≡◌, ◌≤◌, ◌+◌, ◌-◌, length, take, drop, sym, ap, ◌∙◌, arith, length-drop}
use Rattle.records.specs.Records.{two_bytes, header_bytes}
use Rattle.records.specs.Readings.{judged}
use Rattle.records.proofs.Found.{cut, uncut, from_on}
use Rattle.records.proofs.reader.first_record.Goals as goal

pub returns-in_default : goal.returns-in_default
returns-in_default c = sym (cut c.args.rest.now c.args.at (omega arith) (omega arith))

pub returns-in-None : goal.returns-in-None
returns-in-None c =
    let h = rw (from_on header_bytes c.args.rest.now) at c.in-None.ensures.lookup in
    sym (cut c.args.rest.now c.args.at (omega arith) (omega (arith, h.0, c.two_bytes.ensures, length-drop header_bytes c.args.rest.now)))

pub returns-in-Some : goal.returns-in-Some
returns-in-Some c =
    let h = rw (from_on header_bytes c.args.rest.now) at c.in-Some.ensures.lookup in
    let within : header_bytes + two_bytes c.args.rest.now 0 ≤ length c.args.rest.now = omega (arith, h.0.1, c.two_bytes.ensures, length-drop header_bytes c.args.rest.now) in
    let long : c.two_bytes.result - 0 ≡ two_bytes c.args.rest.now 0 = omega (arith, c.two_bytes.ensures) in
    let body : c.in-Some.body.now ≡ take (two_bytes c.args.rest.now 0) (drop header_bytes c.args.rest.now) = h.0.2 ∙ ap (λ n. take n (drop header_bytes c.args.rest.now)) long in
    c.record_of.ensures ∙ ap (λ k. judged k c.in-Some.body.now c.args.at) c.two_bytes-kind.ensures ∙ ap (λ b. judged (two_bytes c.args.rest.now 2) b c.args.at) body ∙ sym (uncut c.args.rest.now c.args.at (omega arith) within)
