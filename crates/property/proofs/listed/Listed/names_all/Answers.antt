use Rattle.std.specs.Slice.Iter.{chunks_exact_rest, chunks_exact_size}
use Rattle.std.proofs.Common.{ℕ, sym, ap, ◌∙◌, map, rules}
use Rattle.std.specs.List.{list_all}
use Rattle.std.proofs.lemmas.Iterator.{YieldsList-from_map}
use Rattle.std.proofs.lemmas.Iterator.Search.{all_from_yields_List}
use borrow.Author.Tests.{tests}
use Rattle.property.specs.Checks.{names}
use Rattle.property.specs.Meant.{meant}
use Rattle.property.specs.Nodes.{branches}
use Rattle.property.proofs.Branching.{branch_chunks}
use Rattle.property.proofs.listed.Listed.names_all.Goals as goal

pub returns-in-Choice : goal.returns-in-Choice
returns-in-Choice g c P told =
    all_from_yields_List P _ _ _ c.all.ensures.ran
    (YieldsList-from_map _ (λ (b : ℕ × ℕ). b.1) (branch_chunks _ (ap chunks_exact_rest c.map.ensures.source ∙ c.chunks_exact.ensures.rest) (ap chunks_exact_size c.map.ensures.source ∙ c.chunks_exact.ensures.size)) c.map.ensures.closure (λ x r q k. search (rules, tests)))
    (λ x b q k. (g.met.F.Fn.1.step_stays _ _ _ _ k, told x b ((g.met.F.FnMut.1.post_iff _ _ _).1 (q, k))))
    ∙ ap (λ body. list_all P (map (λ (b : ℕ × ℕ). b.1) (branches body))) c.branches_at.ensures
    ∙ sym (ap (λ n. list_all P (names (meant c.args.self.now.file.now n))) c.in-Choice.is)
