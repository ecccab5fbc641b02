-- Events and lists of letters: what an event adds to the line and to the offers, and lists with the end left out.
use Rattle.std.proofs.Common.{◌≡◌, ℕ, Bool, true, false, cond, eqb, List, [], ◌∷◌, ◌++◌, refl, ap, ◌∙◌}
use Rattle.std.proofs.lemmas.Bool.{eqb-false, ne_eqb}
use Rattle.letters.specs.Letters.{end}
use Rattle.rules.specs.Lists.{Insertable, Endless}
use Rattle.rules.proofs.Follows.{not_end}
use Rattle.guard.specs.Runs.{Event, accepted, offer, without_end}

-- what an event adds to the line, and to the offers
abbrev pub written : Event → List ℕ
written e = cond (accepted e.reply) e.wrote []

abbrev pub offered : Event → List ℕ
offered e = cond (accepted e.reply) (offer e.call) []

pub insertable_endless : (xs : List ℕ) → Insertable xs → Endless xs
insertable_endless [] i = tt
insertable_endless (a ∷ xs) i = (not_end a i.0, insertable_endless xs i.1)

endless_cond : (b : Bool) (a : ℕ) (xs : List ℕ) → eqb a end ≡ b → Endless xs → Endless (cond b xs (a ∷ xs))
endless_cond true a xs e h = h
endless_cond false a xs e h = (eqb-false a end e, h)

pub without_end_endless : (xs : List ℕ) → Endless (without_end xs)
without_end_endless [] = tt
without_end_endless (a ∷ xs) = endless_cond (eqb a end) a (without_end xs) refl (without_end_endless xs)

-- a letter that is not the end stays
pub without_end_more : (a : ℕ) (xs : List ℕ) → (a ≡ end → ⊥) → without_end (a ∷ xs) ≡ a ∷ without_end xs
without_end_more a xs h = ap (λ b. cond b (without_end xs) (a ∷ without_end xs)) (ne_eqb a end h)

-- an end behind such letters goes
pub without_last : (xs : List ℕ) → Endless xs → without_end (xs ++ end ∷ []) ≡ xs
without_last [] h = refl
without_last (a ∷ xs) h = without_end_more a (xs ++ end ∷ []) h.0 ∙ ap (λ l. a ∷ l) (without_last xs h.1)
