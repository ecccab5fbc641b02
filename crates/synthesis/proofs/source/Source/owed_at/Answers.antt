use Rattle.std.proofs.Common.{sym, ◌∙◌, rules, arith}
use borrow.Author.Tests.{tests}
use Rattle.std.proofs.lemmas.Iterator.{YieldsList-from_slice}
use Rattle.std.proofs.lemmas.Iterator.Adapters.{option_map_id, serves_from_places}
use Rattle.std.proofs.lemmas.Iterator.Consumers.{YieldsList-from_filter_map, min_from_yields_List}
use Rattle.letters.specs.Letters.{end}
use Rattle.synthesis.specs.Weights.{owed_by}
use Rattle.synthesis.proofs.Best.{best_min}
use Rattle.synthesis.proofs.Paths.{onward_found, onward_lost}
use Rattle.synthesis.proofs.Weighing.{inside, owed_none, owed_small, owed_at}
use Rattle.synthesis.proofs.source.Source.owed_at.Goals as goal

pub returns-then-is_some : goal.returns-then-is_some
returns-then-is_some g c =
    let r = g.P.Places.meaning c.args.self.now.places.now in
    let x = onward_found r c.args.rows.now c.args.place end (cc) in
    (omega arith, owed_none r c.args.self.now.letters.now c.args.rows.now c.args.self.now.fillable c.requires.rowed c.args.place c.requires.marked x.0 x.1 x.2)

pub min-requires-clause-can : goal.min-requires-clause-can
min-requires-clause-can g c =
    let r = g.P.Places.meaning c.args.self.now.places.now in
    let letters = c.args.self.now.letters.now in
    let rows = c.args.rows.now in
    let here = inside r letters rows c.args.self.now.fillable c.requires.rowed c.args.place c.requires.marked in
    let small = owed_small r letters rows c.args.self.now.fillable c.requires.rowed c.args.place c.requires.marked c.args.owed.now c.requires.owes in
    (tt, tt, serves_from_places (YieldsList-from_slice letters cc) (λ x q k. search rules) (λ x k h e. simp c.filter_map.ensures.closure (search (rules, here, small))))

pub returns : goal.returns
returns g c =
    let r = g.P.Places.meaning c.args.self.now.places.now in
    let letters = c.args.self.now.letters.now in
    let rows = c.args.rows.now in
    owed_at r letters rows c.args.self.now.fillable c.requires.rowed c.args.place c.requires.marked c.args.owed.now c.requires.owes
    (onward_lost r rows c.args.place end (cc))
    c.min.result
    (best_min (owed_by r rows c.args.owed.now c.args.place) letters c.min.result
    (sym (option_map_id _) ∙ min_from_yields_List _ _ c.min.ensures.ran (YieldsList-from_filter_map _ (owed_by r rows c.args.owed.now c.args.place) (YieldsList-from_slice letters cc) c.filter_map.ensures.closure (λ x r q k. search (rules, tests)))))
