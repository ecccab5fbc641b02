use Rattle.std.proofs.Common.{◌≡◌, ℕ, Bool, List, Result, ap₂, ◌<◌, false, length, get_or, Ok, Err, sym, ap, ◌∙◌, arith}
use Rattle.std.proofs.lemmas.Result.{err_from_is_err_and}
use Rattle.records.specs.Records.{kind_of, body_of}
use Rattle.records.specs.Readers.{item_of}
use Rattle.property.specs.declared.fault.PropertyFault.{PropertyFault}
use Rattle.property.specs.declared.listed.Listed.{Listed}
use Rattle.property.specs.declared.node.Node as P
use Rattle.property.specs.Checks.{judge, most_nodes, node_fault}
use Rattle.property.specs.Closing.{closes_by}
use Rattle.property.specs.Drafts.{refused, declared_in, parts_of, parts, with_parts}
use Rattle.property.specs.Meant.{meant, all_meant, listed}
use Rattle.property.specs.Placed.{nodes_in, closing_in, stored}
use Rattle.property.proofs.Judging.{letter_barred, letter_taken, not_barred, not_letter, passed_room, passed_earlier, count_meant, checked_node, stored_more, kept_next}
use Rattle.property.proofs.check.take_on.Goals as goal

pub returns-then-is_barred_next : goal.returns-then-is_barred_next
returns-then-is_barred_next c =
    let s = parts_of c.args.file.now c.args.declared.now c.args.place.now in
    record {
      judged =
          letter_barred s c.in-Letter.body.now c.args.at (sym (c.if-is_barred_next.ensures c.args.file.now))
          ∙ sym (ap (λ i. judge s (item_of (i, c.args.at))) c.in-Letter.is);
      kept = c.requires.kept;
    }

pub push-requires : goal.push-requires
push-requires c =
    not_barred (parts_of c.args.file.now c.args.declared.now c.args.place.now) (get_or c.in-Letter.body.now 0 0) (sym (c.if-is_barred_next.ensures c.args.file.now))

pub returns-in-Letter : goal.returns-in-Letter
returns-in-Letter c =
    let s = parts_of c.args.file.now c.args.declared.now c.args.place.now in
    record {
      judged =
          ap (λ ds. Ok (parts ds (nodes_in c.args.file.now c.args.place.now))) c.push.ensures
          ∙ letter_taken s c.in-Letter.body.now c.args.at (sym (c.if-is_barred_next.ensures c.args.file.now))
          ∙ sym (ap (λ i. judge s (item_of (i, c.args.at))) c.in-Letter.is);
      kept = c.requires.kept;
    }

-- what is said of the listed nodes is said of those in the place
fault_at : (listed_nodes : Listed) (file : List ℕ) (stored : List P.Node) (letters : List ℕ) (node : P.Node) (at : ℕ) (r : Result (Unit {0}) PropertyFault) → listed_nodes.file.now ≡ file → listed_nodes.nodes.now ≡ stored
    → r ≡ refused (node_fault (parts letters (listed listed_nodes)) (meant listed_nodes.file.now node) at) → r ≡ refused (node_fault (parts letters (all_meant file stored)) (meant file node) at)
fault_at l file stored letters node at r d e f = f ∙ ap₂ (λ bytes ns. refused (node_fault (parts letters (all_meant bytes ns)) (meant bytes node) at)) d e

closes_at : (listed_nodes : Listed) (file : List ℕ) (stored : List P.Node) (closing : List Bool) (node : P.Node) (r : Bool) → listed_nodes.file.now ≡ file → listed_nodes.nodes.now ≡ stored
    → r ≡ closes_by (listed listed_nodes) (λ m. get_or closing m false) (meant listed_nodes.file.now node) → r ≡ closes_by (all_meant file stored) (λ m. get_or closing m false) (meant file node)
closes_at l file stored closing node r d e f = f ∙ ap₂ (λ bytes ns. closes_by (all_meant bytes ns) (λ m. get_or closing m false) (meant bytes node)) d e

pub returns-in_err-check_node : goal.returns-in_err-check_node
returns-in_err-check_node c =
    let p = err_from_is_err_and c.from_residual.result c.from_residual.ensures.1 in
    record {
      judged =
          ap (λ q. with_parts q (parts_of c.args.file.now c.args.declared.now c.args.place.now)) (p.1 ∙ ap Err p.2)
          ∙ checked_node (declared_in c.args.declared.now) c.letters.result.now (nodes_in c.args.file.now c.args.place.now) (meant c.args.file.now c.node_of-node.result) (kind_of c.args.item) (body_of c.args.item) c.args.at (Err c.in_err-check_node.field-0.0)
          (not_letter c.args.item c.in_default.not-Letter) c.letters.ensures.same (c.node_of-node.ensures c.args.file.now c.requires.part)
          (fault_at c.listed-listed.result c.args.file.now (stored c.args.place.now) c.letters.result.now c.node_of-node.result c.args.at _ c.listed-listed.ensures.file c.listed-listed.ensures.nodes c.in_err-check_node.ensures);
      kept = c.requires.kept;
    }

pub push-requires-2 : goal.push-requires-2
push-requires-2 c =
    let h : length (nodes_in c.args.file.now c.args.place.now) < most_nodes = passed_room (parts c.letters.result.now (nodes_in c.args.file.now c.args.place.now)) (meant c.args.file.now c.node_of-node.result) c.args.at
    (fault_at c.listed-listed.result c.args.file.now (stored c.args.place.now) c.letters.result.now c.node_of-node.result c.args.at _ c.listed-listed.ensures.file c.listed-listed.ensures.nodes c.in_ok-check_node.ensures) in
    omega (arith, h, count_meant c.args.file.now (stored c.args.place.now))

pub returns : goal.returns
returns c =
    let file = c.args.file.now in
    let checked = (fault_at c.listed-listed.result c.args.file.now (stored c.args.place.now) c.letters.result.now c.node_of-node.result c.args.at _ c.listed-listed.ensures.file c.listed-listed.ensures.nodes c.in_ok-check_node.ensures) in
    let more = stored_more file (stored c.push-2.new.self) (stored c.args.place.now) c.node_of-node.result c.push-2.ensures.nodes in
    record {
      judged =
          ap (λ ns. Ok (parts (declared_in c.args.declared.now) ns)) more
          ∙ checked_node (declared_in c.args.declared.now) c.letters.result.now (nodes_in c.args.file.now c.args.place.now) (meant c.args.file.now c.node_of-node.result) (kind_of c.args.item) (body_of c.args.item) c.args.at (Ok tt)
          (not_letter c.args.item c.in_default.not-Letter) c.letters.ensures.same (c.node_of-node.ensures file c.requires.part) checked;
      kept =
          kept_next (nodes_in file c.args.place.now) (nodes_in file c.push-2.new.self) (closing_in c.args.place.now) (closing_in c.push-2.new.self) (meant file c.node_of-node.result) c.closes-closing.result
          c.requires.kept (passed_earlier (parts c.letters.result.now (nodes_in c.args.file.now c.args.place.now)) (meant c.args.file.now c.node_of-node.result) c.args.at checked) more c.push-2.ensures.closing
          (closes_at c.listed-listed.result file (stored c.args.place.now) c.closing-2.result.now c.node_of-node.result _ c.listed-listed.ensures.file c.listed-listed.ensures.nodes c.closes-closing.ensures
          ∙ ap (λ cs. closes_by (nodes_in file c.args.place.now) (λ m. get_or cs m false) (meant file c.node_of-node.result)) c.closing-2.ensures);
    }
