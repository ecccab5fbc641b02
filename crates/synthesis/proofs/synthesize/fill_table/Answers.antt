use Rattle.std.proofs.Common.{length, Some, None, sym, refl, ap, ◌∙◌, subst}
use Rattle.std.proofs.lemmas.Result.{err_from_is_err_and}
use Rattle.synthesis.specs.Synthesis.{Fits, lent}
use Rattle.synthesis.proofs.Answered.{exits}
use Rattle.synthesis.proofs.Fitted.{grounds, fits_in, refuses}
use Rattle.synthesis.proofs.Made.{fillable_in, course_lettered, course_room, course_work, course_made, table_of, stranded, unstranded}
use Rattle.synthesis.proofs.synthesize.fill_table.Goals as goal
use Rattle.synthesis.proofs.synthesize.fill_table.Goals.{In_ok-fits}

pub returns-in_err-fits : goal.returns-in_err-fits
returns-in_err-fits c =
    let p = err_from_is_err_and c.from_residual.result c.from_residual.ensures.1 in
    let all = lent c.args.alphabet.now c.args.table.now c.args.work.now in
    exits c.args.file.now all all c.from_residual.result p.0 c.in_err-fits.field-0.0 p.1 p.2
    (refuses c.args.file.now c.args.place.now c.args.alphabet.now c.requires
    _ (length c.letters-letters.result.now) (length c.args.table.now) (length c.args.work.now) c.args.place.now.last
    refl (ap length c.letters-letters.ensures) refl
    c.in_err-fits.field-0.0 c.in_err-fits.ensures all)

-- what the tests leave
fit : (c : In_ok-fits) → Fits c.args.file.now (length c.args.table.now) (length c.args.work.now) c.requires.parts c.args.place.now.last
fit c =
    fits_in c.args.file.now c.args.place.now c.args.alphabet.now c.requires
    _ (length c.letters-letters.result.now) (length c.args.table.now) (length c.args.work.now) c.args.place.now.last
    refl (ap length c.letters-letters.ensures) refl c.in_ok-fits.ensures

pub new-course-requires : goal.new-course-requires
new-course-requires c =
    grounds c.args.file.now c.args.place.now c.args.alphabet.now c.requires
    (fillable_in c.args.file.now c.args.place.now c.args.alphabet.now c.requires _ _ _ (fit (goal.at.new-course-requires c).In_ok-fits))
    c.letters-letters.result.now c.letters-letters.ensures

pub make_table-requires : goal.make_table-requires
make_table-requires c =
    let fits = fit (goal.at.make_table-requires c).In_ok-fits in
    let letters = c.new-course.ensures.letters ∙ c.letters-letters.ensures in
    record {
      each_a_letter =
          course_lettered c.args.file.now c.args.place.now c.args.alphabet.now c.requires
          c.new-course.result c.new-course.ensures.file c.new-course.ensures.nodes letters;
      room =
          course_room c.args.file.now c.args.place.now c.args.alphabet.now c.requires
          c.new-course.result c.new-course.ensures.file c.new-course.ensures.nodes letters _ _ _ fits;
      work =
          course_work c.args.file.now c.args.place.now c.args.alphabet.now c.requires
          c.new-course.result c.new-course.ensures.file c.new-course.ensures.nodes letters _ _ _ fits;
    }

pub returns-in-Some : goal.returns-in-Some
returns-in-Some c =
    let made =
    course_made c.args.file.now c.args.place.now c.args.alphabet.now c.requires
    c.new-course.result c.new-course.ensures.file c.new-course.ensures.nodes (c.new-course.ensures.letters ∙ c.letters-letters.ensures)
    c.make_table.new.table (Some c.in-Some.rows) c.in-Some.ensures.table in
    record {
      parts = c.requires.parts;
      at = c.args.place.now.last;
      fits = fit (goal.at.returns-in-Some c).In_ok-fits;
      free = unstranded c.args.file.now c.args.place.now c.args.alphabet.now c.requires c.make_table.new.table c.in-Some.rows made;
      alphabet = c.requires.letters;
      table = rw c.from.ensures (table_of c.args.file.now c.args.place.now c.args.alphabet.now c.requires c.make_table.new.table c.in-Some.rows made);
      work = c.make_table.ensures.cleared;
    }

pub returns-in-None : goal.returns-in-None
returns-in-None c =
    let made =
    course_made c.args.file.now c.args.place.now c.args.alphabet.now c.requires
    c.new-course.result c.new-course.ensures.file c.new-course.ensures.nodes (c.new-course.ensures.letters ∙ c.letters-letters.ensures)
    c.make_table.new.table None c.in-None.ensures.table in (
      (c.requires.parts, subst (λ at. Fits c.args.file.now (length c.args.table.now) (length c.args.work.now) c.requires.parts at) (sym c.last_offset.ensures) (fit (goal.at.returns-in-None c).In_ok-fits), stranded c.args.file.now c.args.place.now c.args.alphabet.now c.requires made.0),
      record { alphabet = refl {a = c.args.alphabet.now}; table = made.1; work = c.make_table.ensures.cleared },
    )
