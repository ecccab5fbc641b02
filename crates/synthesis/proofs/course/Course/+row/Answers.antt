use Rattle.std.proofs.Common.{◌∙◌, arith, rules}
use Rattle.synthesis.proofs.Lines.{sequence_parts, product_parts, lap_part, sequence_second, sequence_first, row_second, row_first, row_choice, product_positive, product_first, product_second, row_product, lap_place, row_lap}
use Rattle.synthesis.proofs.Grounding.{node_as, product_as}
use Rattle.synthesis.proofs.Starting.{size_nothing}
use Rattle.synthesis.proofs.course.Course.+row.Goals as goal

pub returns-in-Nothing : goal.returns-in-Nothing
returns-in-Nothing t c j i =
    let e = node_as c.args.self.now.checked.file.now c.args.self.now.checked.nodes.now _ _ _ c.node.ensures c.in-Nothing.is in
    absurd (omega (arith, size_nothing _ _ c.args.self.now.checked.grounds.sound _ e, c.requires.inside))

pub returns-in-Some : goal.returns-in-Some
returns-in-Some t c =
    row_choice c.args.self.now _ _ _ _ _ _ c.requires c.in-Some.ensures c.row.ensures (omega arith) (λ j h. search (rules, c.change_all.ensures j h))

pub row-requires-then-place-size : goal.row-requires-then-place-size
row-requires-then-place-size t c =
    let e = node_as c.args.self.now.checked.file.now c.args.self.now.checked.nodes.now _ _ _ c.node.ensures c.in-Sequence.is in
    let s = sequence_parts c.args.self.now _ _ _ e in
    (omega (arith, s.second, c.decreases), (sequence_second c.args.self.now _ _ _ _ _ c.requires e c.size_at-size.ensures c.if-place-size.true))

pub returns-then-place-size : goal.returns-then-place-size
returns-then-place-size t c =
    let e = node_as c.args.self.now.checked.file.now c.args.self.now.checked.nodes.now _ _ _ c.node.ensures c.in-Sequence.is in
    row_second c.args.self.now _ _ _ _ _ c.requires e c.size_at-size.ensures _ c.if-place-size.true c.row-then-place-size.ensures

pub row-requires-in-Sequence : goal.row-requires-in-Sequence
row-requires-in-Sequence t c =
    let e = node_as c.args.self.now.checked.file.now c.args.self.now.checked.nodes.now _ _ _ c.node.ensures c.in-Sequence.is in
    let s = sequence_parts c.args.self.now _ _ _ e in
    (omega (arith, s.first, c.decreases), (sequence_first c.args.self.now _ _ _ _ _ c.requires e c.size_at-size.ensures c.if-place-size.false))

pub returns-else-place-size : goal.returns-else-place-size
returns-else-place-size t c =
    let e = node_as c.args.self.now.checked.file.now c.args.self.now.checked.nodes.now _ _ _ c.node.ensures c.in-Sequence.is in
    row_first c.args.self.now _ _ _ _ _ c.requires e c.size_at-size.ensures _ _ c.if-place-size.false c.row-in-Sequence.ensures
    (omega arith) (λ k j h. search (rules, c.change_all-in-Sequence.ensures j h))

pub nonzero_div-place : goal.nonzero_div-place
nonzero_div-place t c =
    let e = product_as c.args.self.now.checked.file.now c.args.self.now.checked.nodes.now _ _ _ _ c.node.ensures c.in-Both.is in
    product_positive c.args.self.now _ _ _ _ _ c.requires e c.size_at-size-in-Both.ensures

pub row-requires-in-Both : goal.row-requires-in-Both
row-requires-in-Both t c =
    let e = product_as c.args.self.now.checked.file.now c.args.self.now.checked.nodes.now _ _ _ _ c.node.ensures c.in-Both.is in
    let s = product_parts c.args.self.now _ _ _ e in
    (omega (arith, s.first, c.decreases), (product_first c.args.self.now _ _ _ _ _ c.requires e c.size_at-size-in-Both.ensures))

pub nonzero_rem-place : goal.nonzero_rem-place
nonzero_rem-place t c =
    let e = product_as c.args.self.now.checked.file.now c.args.self.now.checked.nodes.now _ _ _ _ c.node.ensures c.in-Both.is in
    product_positive c.args.self.now _ _ _ _ _ c.requires e c.size_at-size-in-Both.ensures

pub row-requires-in-Both-2 : goal.row-requires-in-Both-2
row-requires-in-Both-2 t c =
    let e = product_as c.args.self.now.checked.file.now c.args.self.now.checked.nodes.now _ _ _ _ c.node.ensures c.in-Both.is in
    let s = product_parts c.args.self.now _ _ _ e in
    (omega (arith, s.second, c.decreases), (product_second c.args.self.now _ _ _ _ _ c.requires e c.size_at-size-in-Both.ensures))

pub returns-in-Both : goal.returns-in-Both
returns-in-Both t c =
    let e = product_as c.args.self.now.checked.file.now c.args.self.now.checked.nodes.now _ _ _ _ c.node.ensures c.in-Both.is in
    row_product c.args.self.now _ _ _ _ _ c.requires e c.size_at-size-in-Both.ensures _ _ _ c.row-in-Both.ensures c.row-in-Both-2.ensures
    (omega arith) c.meet_all.ensures

pub row-requires-in-Lap : goal.row-requires-in-Lap
row-requires-in-Lap t c =
    let e = node_as c.args.self.now.checked.file.now c.args.self.now.checked.nodes.now _ _ _ c.node.ensures c.in-Lap.is in
    let s = lap_part c.args.self.now _ _ e in
    (omega (arith, s.first, c.decreases), (lap_place c.args.self.now _ _ _ c.requires e (λ q. c.if-size_at-eq1.false (c.size_at.ensures ∙ q))))

pub returns-in-Lap : goal.returns-in-Lap
returns-in-Lap t c =
    let e = node_as c.args.self.now.checked.file.now c.args.self.now.checked.nodes.now _ _ _ c.node.ensures c.in-Lap.is in
    row_lap c.args.self.now _ _ _ c.requires e (λ q. c.if-size_at-eq1.false (c.size_at.ensures ∙ q)) _ _ c.row-in-Lap.ensures
    (omega arith) (λ j h. search (rules, c.change_all-in-Lap.ensures j h))
