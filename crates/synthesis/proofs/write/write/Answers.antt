use Rattle.std.proofs.Common.{◌≡◌, ℕ, ◌-◌, ◌*◌, ◌+◌, ◌<◌, ◌≤◌, List, length, get_or, take, sym, subst, mul-le-mul_right, arith, rules}
use Rattle.std.proofs.lemmas.List.{get_or-take, length-take-le}
use Rattle.rules.specs.Tabled.{width}
use Rattle.places.specs.Loops.{Loop}
use Rattle.synthesis.specs.Marks.{Marked}
use Rattle.synthesis.specs.Numbers.{Rows}
use Rattle.synthesis.specs.Courses.{letters_of, loop_of}
use Rattle.synthesis.specs.Table.{RowsWritten}
use Rattle.synthesis.proofs.Marking.{all_filled, marked_within}
use Rattle.synthesis.proofs.Telling.{tells}
use Rattle.synthesis.proofs.Parts.{length_part}
use Rattle.synthesis.proofs.Writing.{rows_kept, rows_more, rest_filled}
use Rattle.synthesis.proofs.write.write.Goals as goal

-- the place of a row, among those that have one
record Here (r : Loop) (rows order : List ℕ) (count i : ℕ) : Type 0 where
  pub same : get_or (take count order) i 0 ≡ get_or order i 0
  pub row : i < count
  pub marked : Marked rows (get_or (take count order) i 0)
  pub inside : get_or (take count order) i 0 < r.size

here : (r : Loop) (rows order : List ℕ) (count : ℕ) → Rows r rows order count → (i : ℕ) → i < length (take count order) → Here r rows order count i
here r rows order count n i h =
    let row : i < count = omega (arith, length-take-le count order (omega (arith, n.few, n.order_long))) in
    let same : get_or (take count order) i 0 ≡ get_or order i 0 = get_or-take count order i 0 row in
    let marked : Marked rows (get_or (take count order) i 0) = subst (λ p. Marked rows p) (sym same) (omega (arith, n.placed i row)) in
    record { same = same; row = row; marked = marked; inside = omega (arith, marked_within rows (get_or (take count order) i 0) marked, n.rowed.long) }

pub row_of-requires-clause-inside : goal.row_of-requires-clause-inside
row_of-requires-clause-inside c = (here (loop_of c.args.course.now) c.args.weighed.now.rows.now c.args.weighed.now.order.now c.args.weighed.now.count c.requires.weighs.numbered c.loop-i.i (omega arith)).inside

pub row_of-requires-clause-marked : goal.row_of-requires-clause-marked
row_of-requires-clause-marked c = (here (loop_of c.args.course.now) c.args.weighed.now.rows.now c.args.weighed.now.order.now c.args.weighed.now.count c.requires.weighs.numbered c.loop-i.i (omega arith)).marked

pub write-requires-clause-weighs : goal.write-requires-clause-weighs
write-requires-clause-weighs c = rw (c.row_of.ensures.course, c.row_of.ensures.weighed) c.requires.weighs

pub loop-i-preserved : goal.loop-i-preserved
loop-i-preserved c =
    let letters = letters_of c.args.course.now in
    let w = c.args.weighed.now in
    let h = here (loop_of c.args.course.now) w.rows.now w.order.now w.count c.requires.weighs.numbered c.loop-i.i (omega arith) in
    let fits : c.loop-i.i * width letters ≤ (loop_of c.args.course.now).size * width letters = mul-le-mul_right (width letters) (omega (arith, h.row, c.requires.weighs.numbered.few)) in
    rows_more (loop_of c.args.course.now) letters w.rows.now w.order.now c.loop-i.table c.loop-i.i c.loop-i.invariant (omega (arith, c.requires.room)) c.write.new.row _
    (omega (arith, c.write.auto.row))
    (rw (c.row_of.ensures.course, c.row_of.ensures.weighed, c.row_of.ensures.place, h.same) at c.write.ensures)

pub returns : goal.returns
returns c =
    let r = loop_of c.args.course.now in
    let letters = letters_of c.args.course.now in
    let w = c.args.weighed.now in
    let n = c.requires.weighs.numbered in
    let fits : w.count * width letters ≤ r.size * width letters = mul-le-mul_right (width letters) n.few in
    let within : w.count * width letters ≤ length c.loop-i.table = omega (arith, c.requires.room) in
    let all : c.loop-i.i ≡ w.count = omega (arith, length-take-le w.count w.order.now (omega (arith, n.few, n.order_long))) in
    let written : RowsWritten r letters w.rows.now w.order.now c.loop-i.table w.count = subst (λ (i : ℕ). RowsWritten r letters w.rows.now w.order.now c.loop-i.table i) all c.loop-i.invariant in
    let rest = c.fill.new.self in
    let filled : length rest + w.count * width letters ≡ length c.loop-i.table = omega (arith, c.fill.auto.self) in
    tells r letters w.rows.now w.order.now w.count c.args.course.now.checked.grounds.fillable n _
    (omega (arith, c.requires.room, length_part c.loop-i.table rest (w.count * width letters) (length c.loop-i.table - w.count * width letters) (omega arith) (omega arith)))
    (rows_kept r letters w.rows.now w.order.now c.loop-i.table w.count written within rest _)
    (λ k h l. rest_filled r letters w.rows.now w.order.now c.loop-i.table w.count written within rest _ filled (all_filled rest _ 65535 (c.fill.ensures.after (λ y e. search rules))) k h (omega (arith, length_part c.loop-i.table rest (w.count * width letters) (length c.loop-i.table - w.count * width letters) (omega arith) (omega arith))))
