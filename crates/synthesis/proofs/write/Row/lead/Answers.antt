use Rattle.std.proofs.Common.{◌≡◌, true, false, length, get_or, unwrap_or, option_map, rules, tests}
use Rattle.std.proofs.lemmas.Iterator.{first_from_Range, serves_from_Range}
use Rattle.synthesis.specs.Courses.{letters_of, loop_of}
use Rattle.rules.specs.Tabled.{no_row}
use Rattle.synthesis.specs.Weights.{Lead}
use Rattle.synthesis.proofs.Leading.{First, test, lead}
use Rattle.synthesis.proofs.write.Row.lead.Goals as goal
use Rattle.synthesis.proofs.write.Row.lead.Goals.{After-find}

pub find-requires-clause-callable : goal.find-requires-clause-callable
find-requires-clause-callable c = serves_from_Range (λ x q k. search (rules, tests)) (λ x low high. search rules)

-- what was found
first : (c : After-find) → First (length (letters_of c.args.self.now.course.now)) (test (loop_of c.args.self.now.course.now) (letters_of c.args.self.now.course.now) c.args.self.now.course.now.checked.grounds.fillable c.args.self.now.weighed.now c.requires c.args.self.now.place c.args.self.now.marked) c.find.result
first c =
    let s = c.args.self.now in
    let lowers = test (loop_of s.course.now) (letters_of s.course.now) s.course.now.checked.grounds.fillable s.weighed.now c.requires s.place s.marked in
    let found = first_from_Range _ _ _ _ (λ j. lowers j ≡ true) (λ j. lowers j ≡ false) c.find.ensures.ran (λ x q k. search (rules, tests)) (λ x q k. search (rules, tests)) in
    rw c.letters-letters.ensures at found

-- and the lead by it
leads : (c : After-find) → Lead (loop_of c.args.self.now.course.now) c.args.self.now.place (unwrap_or (option_map (λ j. get_or (letters_of c.args.self.now.course.now) j 0) c.find.result) no_row)
leads c =
    let s = c.args.self.now in
    lead (loop_of s.course.now) (letters_of s.course.now) s.course.now.checked.grounds.fillable s.weighed.now c.requires s.place s.marked c.find.result (first c)

pub returns-in_err-j : goal.returns-in_err-j
returns-in_err-j c = let x = leads (goal.at.returns-in_err-j c).After-find in rw c.from_residual.ensures (rw c.in_err-j.was at x)

pub bounds-letters-j : goal.bounds-letters-j
bounds-letters-j c = let x = first (goal.at.bounds-letters-j c).After-find in rw c.letters-letters.ensures ((rw c.in_ok-j.was at x).1)

pub returns : goal.returns
returns c = let x = leads (goal.at.returns c).After-find in rw c.letters-letters.ensures (rw c.in_ok-j.was at x)
