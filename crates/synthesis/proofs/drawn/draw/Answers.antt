use Rattle.std.proofs.Common.{◌≡◌, ◌+◌, ◌*◌, ◌<◌, ◌≤◌, length, get_or, take, ap, ◌∙◌, arith}
use Rattle.std.proofs.lemmas.Nat.{mul-add-lt}
use Rattle.std.proofs.lemmas.List.{get_or-take, length-take-le}
use Rattle.rules.specs.Tabled.{no_row, width}
use Rattle.synthesis.specs.Courses.{letters_of, loop_of}
use Rattle.synthesis.proofs.Drawing.{lines_more}
use Rattle.synthesis.proofs.Parts.{before_part, in_part}
use Rattle.synthesis.proofs.drawn.draw.Goals as goal

pub loop-place-preserved : goal.loop-place-preserved
loop-place-preserved c =
    let letters = letters_of c.args.course.now in
    let n = length letters in
    let p = c.loop-place.place in
    let a = p * width letters in
    let line = c.line.new.cells in
    let copied = c.copy_from_slice.new.self in
    let h : p < (loop_of c.args.course.now).size = omega (arith, c.size-place-end.ensures) in
    let room : a + n ≤ length c.loop-place.table = omega (arith, mul-add-lt p (width letters) n (loop_of c.args.course.now).size h (omega arith), c.requires) in
    let same : copied ≡ take n line = c.copy_from_slice.ensures.after in
    let few : n ≤ length line = omega (arith, c.args.course.now.checked.grounds.few_letters) in
    lines_more (loop_of c.args.course.now) letters c.loop-place.table _ line p c.loop-place.invariant c.line.ensures
    (λ j k. in_part c.loop-place.table copied a _ j no_row (omega (arith, ap length same, length-take-le n line few)) (omega arith) ∙ ap (λ xs. get_or xs j no_row) same ∙ get_or-take n line j no_row k)
    (λ k l. before_part c.loop-place.table copied a _ k no_row l (omega arith))
