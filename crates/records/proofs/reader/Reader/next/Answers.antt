use Rattle.std.proofs.Common.{◌≡◌, ℕ, ◌+◌, List, length, Some, None, Ok, sym, refl, ap, ◌∙◌, arith, length-drop}
use Rattle.std.proofs.lemmas.Result.{err_from_is_err_and}
use Rattle.records.specs.declared.record.Record.{Record}
use Rattle.records.specs.Records.{header_bytes}
use Rattle.records.specs.Readings.{found_at, found_in, Refused, bytes_of}
use Rattle.records.specs.Readers.{told, item_of, past}
use Rattle.records.proofs.Found.{over, from_on}
use Rattle.records.proofs.Stepwise.{hands, ends_within}
use Rattle.records.proofs.reader.Reader.next.Goals as goal

pub returns-then-at-self : goal.returns-then-at-self
returns-then-at-self c =
    let file : List ℕ = c.args.self.now.file.now in
    let at : ℕ = c.args.self.now.at in
    let e = over file at (omega arith) in
    let moved : at ≡ past at (found_at file at) = ap (past at) (sym e) in
    record { found = sym e; moved = moved; kept = refl; hands = hands file at at (Ok None) (sym e) moved }

pub first_record-requires : goal.first_record-requires
first_record-requires c = simp (from_on, length-drop) (omega arith)

pub returns-in_err-record : goal.returns-in_err-record
unfolding found_at
returns-in_err-record c =
    let file : List ℕ = c.args.self.now.file.now in
    let at : ℕ = c.args.self.now.at in
    let p = err_from_is_err_and c.from_residual.result c.from_residual.ensures.1 in
    let e = c.in_err-record.ensures ∙ ap (λ rest. found_in rest at) (from_on at file) in
    let found = ap told p.1 ∙ ap Refused p.2 ∙ e in
    let moved : at ≡ past at (found_at file at) = ap (past at) e in
    record { found = found; moved = moved; kept = refl; hands = hands file at at c.from_residual.result found moved }

pub overflow_add-self-2 : goal.overflow_add-self-2
unfolding found_at
overflow_add-self-2 c =
    let e = c.in_ok-record.ensures ∙ ap (λ rest. found_in rest c.args.self.now.at) (from_on c.args.self.now.at c.args.self.now.file.now) in
    let h = ends_within c.args.self.now.file.now c.args.self.now.at c.in_ok-record.record e in
    omega (arith, h, ap length c.body.ensures)

pub returns : goal.returns
unfolding found_at
returns c =
    let file : List ℕ = c.args.self.now.file.now in
    let at : ℕ = c.args.self.now.at in
    let e = c.in_ok-record.ensures ∙ ap (λ rest. found_in rest at) (from_on at file) in
    let item : Record = c.in_ok-record.record in
    let long : at + header_bytes + length c.body.result.now ≡ at + bytes_of (item_of (item, at)) = omega (arith, ap length c.body.ensures) in
    let moved : at + header_bytes + length c.body.result.now ≡ past at (found_at file at) = long ∙ ap (past at) e in
    record { found = e; moved = moved; kept = refl; hands = hands file at _ (Ok (Some (item, at))) e moved }
