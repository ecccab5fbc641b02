-- The loop over offers: the calls so far, and those that the offers that are left add.
use Rattle.std.proofs.Common.{◌≡◌, ℕ, suc, ◌+◌, ◌<◌, ◌≤◌, Bool, true, false, cond, not, eqb, List, [], ◌∷◌, ◌++◌, length, get_or, drop, sym, ap, ◌∙◌, append_assoc, append-nil, add-one, drop-cons}
use Rattle.std.proofs.lemmas.List.{drop_all}
use Rattle.letters.specs.Letters.{end}
use Rattle.guard.specs.declared.runs.Call.{Call}
use Rattle.guard.specs.declared.runs.Call.TheVariants.{Begin}
use Rattle.enforcer.specs.Offers.{offered, calls_from, calls_of}

abbrev pub Sofar : ℕ → List ℕ → ℕ → Bool → List Call → Type 0
Sofar room offers i was calls = calls ++ calls_from was room (drop i offers) ≡ calls_of room offers

-- before an offer a cycle is begun where none is open
abbrev pub Begun : Bool → List Call → List Call → Type 0
Begun was calls more = more ≡ calls ++ cond was [] (Begin ∷ [])

pub begun_at_rest : (was : Bool) (calls pushed more : List Call) → was ≡ false → more ≡ pushed → pushed ≡ calls ++ Begin ∷ [] → Begun was calls more
begun_at_rest was calls pushed more h e p = e ∙ p ∙ ap (λ b. calls ++ cond b [] (Begin ∷ [])) (sym h)

pub begun_inside : (was : Bool) (calls more : List Call) → was ≡ true → more ≡ calls → Begun was calls more
begun_inside was calls more h e = e ∙ sym (append-nil calls) ∙ ap (λ b. calls ++ cond b [] (Begin ∷ [])) (sym h)

-- one more offer
pub sofar_more : (room : ℕ) (offers : List ℕ) (i : ℕ) (was : Bool) (calls begun more : List Call) (c : Call) → Sofar room offers i was calls → i < length offers
    → Begun was calls begun → c ≡ offered room (get_or offers i 0) → more ≡ begun ++ c ∷ [] → Sofar room offers (i + 1) (not (eqb (get_or offers i 0) end)) more
unfolding calls_from
sofar_more room offers i was calls begun more c s k eb ec em =
    let a : ℕ = get_or offers i 0 in
    let rest : List Call = calls_from (not (eqb a end)) room (drop (suc i) offers) in
    ap (λ n. more ++ calls_from (not (eqb a end)) room (drop n offers)) (add-one i)
    ∙ ap (λ cs. cs ++ rest) em
    ∙ append_assoc begun (c ∷ []) rest
    ∙ ap (λ x. begun ++ x ∷ rest) ec
    ∙ ap (λ cs. cs ++ offered room a ∷ rest) eb
    ∙ append_assoc calls (cond was [] (Begin ∷ [])) (offered room a ∷ rest)
    ∙ ap (λ l. calls ++ calls_from was room l) (sym (drop-cons offers i 0 k))
    ∙ s

pub sofar_all : (room : ℕ) (offers : List ℕ) (i : ℕ) (was : Bool) (calls : List Call) → Sofar room offers i was calls → length offers ≤ i → calls ≡ calls_of room offers
unfolding calls_from
sofar_all room offers i was calls s h = sym (append-nil calls) ∙ ap (λ l. calls ++ calls_from was room l) (sym (drop_all i offers h)) ∙ s
