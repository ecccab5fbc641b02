-- Calls for offers under a lawful rule: a begin is made exactly where no cycle is open, and each call is taken.
use Rattle.std.proofs.Common.{◌≡◌, ℕ, ◌<◌, Bool, true, false, cond, not, eqb, List, [], ◌∷◌, ◌++◌, sym, refl, ap, ◌∙◌, subst, arith}
use mathlib.Core.List.{nil≢cons, head-eq_of_cons-eq, tail-eq_of_cons-eq}
use Rattle.letters.specs.Letters.{end}
use Rattle.rules.specs.Meaning.{Meaning, Lawful}
use Rattle.guard.specs.declared.calls.Running.{Running}
use Rattle.guard.specs.declared.runs.Call.{Call}
use Rattle.guard.specs.declared.runs.Call.TheVariants.{Begin, Act, Close}
use Rattle.guard.specs.declared.runs.Guard.{Guard}
use Rattle.guard.specs.declared.runs.Guard.TheVariants.{AtRest, InCycle}
use Rattle.guard.specs.Calls.{running, closed, closing}
use Rattle.guard.specs.Histories.{close_step, step, events, started, run_of}
use Rattle.guard.specs.Runs.{Event, open_after, in_cycle, takes}
use Rattle.guard.proofs.Steps.{place_of, inside, made, step_inside, step_live}
use Rattle.guard.proofs.Taken.{answered}
use Rattle.guard.proofs.Writing.{is_closed}
use Rattle.enforcer.specs.Offers.{offered, calls_from, calls_of, is_begin, BeginsAtRest}

-- begins are made exactly where no cycle is open, where `was` says so of before the events
abbrev BegunWell : Bool → List Event → Type 0
BegunWell was es = (before after : List Event) (e : Event) → es ≡ before ++ e ∷ after → is_begin e.call ≡ not (in_cycle was before)

none_well : (was : Bool) → BegunWell was []
none_well was [] after e h = absurd (nil≢cons h)
none_well was (x ∷ xs) after e h = absurd (nil≢cons h)

more_well : (was : Bool) (f : Event) (es : List Event) → is_begin f.call ≡ not was → BegunWell (open_after was f.reply) es → BegunWell was (f ∷ es)
unfolding in_cycle
more_well was f es here on [] after e h = ap (λ (x : Event). is_begin x.call) (sym (head-eq_of_cons-eq h)) ∙ here
more_well was f es here on (x ∷ xs) after e h =
    on xs after e (tail-eq_of_cons-eq h) ∙ ap (λ (y : Event). not (in_cycle (open_after was y.reply) xs)) (head-eq_of_cons-eq h)

-- no begin offers a letter
offered_begin : (room a : ℕ) → is_begin (offered room a) ≡ false
offered_begin room a = by_end (eqb a end)
  where
    by_end : (b : Bool) → is_begin (cond b (Close room) (Act a room)) ≡ false
    by_end true = refl
    by_end false = refl

-- a call is taken where it is a begin exactly at rest
takes_it : (was : Bool) (c : Call) → is_begin c ≡ not was → takes was c ≡ true
takes_it was Begin h = sym h
takes_it true (Act a room) h = refl
takes_it false (Act a room) h = h
takes_it true (Close room) h = refl
takes_it false (Close room) h = h

module _ (m : Meaning) (lawful : Lawful m) (room : ℕ) (fits : m.most < room) where
  -- a close at a live place is not refused
  closes : (g : Running) → m.live g.place ≡ true → closing m g room ≡ closed
  closes g live = is_closed m g room live (omega (arith, lawful.laws.at_most g.place live, fits))

  -- after an offer a cycle is open where it was not the end
  offered_inside : (g : Running) (a : ℕ) → m.live g.place ≡ true → inside (step m (InCycle g) (offered room a)).guard ≡ not (eqb a end)
  offered_inside g a live = by_end (eqb a end)
    where
      by_end : (b : Bool) → inside (step m (InCycle g) (cond b (Close room) (Act a room))).guard ≡ not b
      by_end true = ap (λ x. inside (close_step m x g).guard) (closes g live)
      by_end false = refl

  -- the calls for further offers from a guard
  abbrev GoesOn : List ℕ → Type 0
  GoesOn more = (g : Guard) → m.live (place_of g) ≡ true → BegunWell (inside g) (events m g (calls_from (inside g) room more))

  offer_well : (a : ℕ) (more : List ℕ) (g : Running) → m.live g.place ≡ true → GoesOn more
      → BegunWell true (events m (InCycle g) (offered room a ∷ calls_from (not (eqb a end)) room more))
  unfolding events
  offer_well a more g live on =
      let c : Call = offered room a in
      let h : Guard = (step m (InCycle g) c).guard in
      let later = on h (step_live m lawful.laws (InCycle g) c live) in
      let later' = subst (λ b. BegunWell (inside h) (events m h (calls_from b room more))) (offered_inside g a live) later in
      more_well true (made m (InCycle g) c) (events m h (calls_from (not (eqb a end)) room more)) (offered_begin room a)
      (subst (λ b. BegunWell b (events m h (calls_from (not (eqb a end)) room more))) (sym (step_inside m (InCycle g) c)) later')

  offers_well : (offers : List ℕ) → GoesOn offers
  unfolding events calls_from
  offers_well [] g live = none_well (inside g)
  offers_well (a ∷ more) (AtRest g) live =
      more_well false (made m (AtRest g) Begin) _ refl (offer_well a more (running g.place 0) live (offers_well more))
  offers_well (a ∷ more) (InCycle g) live = offer_well a more g live (offers_well more)

  pub begins_at_rest : (offers : List ℕ) → BeginsAtRest (run_of m (calls_of room offers))
  begins_at_rest offers =
      let well = offers_well offers (started m) lawful.meant.starts in
      record {
        begins = well;
        taken = λ before after e h.
            (answered m (calls_of room offers)).taken before after e h ∙ takes_it (in_cycle false before) e.call (well before after e h);
      }
