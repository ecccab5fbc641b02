use Rattle.std.proofs.Common.{sym, ◌∙◌, rules}
use borrow.Author.Tests.{tests}
use Rattle.std.proofs.lemmas.Iterator.{YieldsList-from_slice}
use Rattle.std.proofs.lemmas.Iterator.Adapters.{option_map_id, serves_from_places}
use Rattle.std.proofs.lemmas.Iterator.Consumers.{YieldsList-from_filter_map, max_from_yields_List}
use Rattle.synthesis.specs.Weights.{span_by}
use Rattle.synthesis.proofs.Best.{best_max}
use Rattle.synthesis.proofs.Weighing.{inside, span_small, span_at}
use Rattle.synthesis.proofs.source.Source.span_at.Goals as goal

pub max-requires-clause-can : goal.max-requires-clause-can
max-requires-clause-can g c =
    let r = g.P.Places.meaning c.args.self.now.places.now in
    let letters = c.args.self.now.letters.now in
    let rows = c.args.rows.now in
    let here = inside r letters rows c.args.self.now.fillable c.requires.rowed c.args.place c.requires.marked in
    let small = span_small r letters rows c.args.self.now.fillable c.requires.rowed c.args.place c.requires.marked c.args.span.now c.requires.spans in
    (tt, tt, serves_from_places (YieldsList-from_slice letters cc) (λ x q k. search rules) (λ x k h e. simp c.filter_map.ensures.closure (search (rules, here, small))))

pub returns : goal.returns
returns g c =
    let r = g.P.Places.meaning c.args.self.now.places.now in
    let letters = c.args.self.now.letters.now in
    let rows = c.args.rows.now in
    let x =
    span_at r letters rows c.args.self.now.fillable c.requires.rowed c.args.place c.requires.marked c.args.span.now c.requires.spans
    c.max.result
    (best_max (span_by r rows c.args.span.now c.args.place) letters c.max.result
    (sym (option_map_id _) ∙ max_from_yields_List _ _ c.max.ensures.ran (YieldsList-from_filter_map _ (span_by r rows c.args.span.now c.args.place) (YieldsList-from_slice letters cc) c.filter_map.ensures.closure (λ x r q k. search (rules, tests))))) in
    rw c.unwrap_or.ensures (record { low = x.0; found = x.1 })
