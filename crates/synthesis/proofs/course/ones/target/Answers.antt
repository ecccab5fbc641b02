use Rattle.std.proofs.Common.{◌≡◌, ℕ, Bool, true, false, cond, eqb, List, [], ◌∷◌, option_map, Some, None, Option, refl, ap, ◌∙◌, rules, tests}
use Rattle.std.specs.List.{find}
use Rattle.std.specs.Option.{IsSomeAnd, MatchOption}
use Rattle.std.proofs.lemmas.Iterator.Search.{find_from_yields_List}
use Rattle.property.specs.Nodes.{branches}
use Rattle.property.proofs.Branching.{read, branch_chunks}
use Rattle.places.specs.Walks.{target}
use Rattle.synthesis.proofs.course.ones.target.Goals as goal

-- what is read of the first branch that passes
second : (t : Bool) (b : ℕ × ℕ) (o : Option (ℕ × ℕ)) → option_map (λ (b : ℕ × ℕ). b.1) (cond t (Some b) o) ≡ cond t (Some b.1) (option_map (λ (b : ℕ × ℕ). b.1) o)
second true b o = refl
second false b o = refl

-- the node that the first branch with the letter names
first_named : (l : ℕ) (bs : List (ℕ × ℕ)) → option_map (λ (b : ℕ × ℕ). b.1) (find (λ (b : ℕ × ℕ). eqb b.0 l) bs) ≡ target bs l
unfolding target
first_named l [] = refl
first_named l (b ∷ bs) = second (eqb b.0 l) b (find (λ (b : ℕ × ℕ). eqb b.0 l) bs) ∙ ap (cond (eqb b.0 l) (Some b.1)) (first_named l bs)

-- a `map` whose closure gives the second of what v reads
mapped : {A : Type 0} (v : A → ℕ × ℕ) (P : A → ℕ → Type 0) (o : Option A) (r : Option ℕ) → ((x : A) (n : ℕ) → P x n → n ≡ (v x).1) → MatchOption o (r ≡ None) (λ x. IsSomeAnd r (P x)) → r ≡ option_map (λ (b : ℕ × ℕ). b.1) (option_map v o)
mapped v P None r given e = e
mapped v P (Some x) (Some n) given h = ap Some (given x n h)
mapped v P (Some x) None given h = absurd h

pub returns : goal.returns
returns c =
    mapped read _ c.find.result c.map.result (λ x n h. search rules) c.map.ensures.cases
    ∙ ap (option_map (λ (b : ℕ × ℕ). b.1)) (find_from_yields_List (λ (b : ℕ × ℕ). eqb b.0 c.args.letter) _ _ _ c.find.ensures.ran (branch_chunks c.args.body.now c.chunks_exact.ensures.rest c.chunks_exact.ensures.size) (λ x b q k. search (rules, tests)))
    ∙ first_named c.args.letter (branches c.args.body.now)
