-- The loop over offers: the letters counted so far, and those that the offers that are left add.
use Rattle.std.proofs.Common.{◌≡◌, ℕ, suc, ◌+◌, ◌<◌, ◌≤◌, min, Bool, true, false, cond, not, eqb, List, [], ◌∷◌, length, get_or, drop, sym, refl, ap, ap₂, ◌∙◌, subst, zero-add, add-one, drop-cons, length-append, arith}
use Rattle.std.proofs.lemmas.List.{drop_all}
use Rattle.letters.specs.Letters.{end}
use Rattle.rules.specs.Meaning.{Meaning}
use Rattle.guard.specs.declared.calls.Resting.{Resting}
use Rattle.guard.specs.declared.calls.Running.{Running}
use Rattle.guard.specs.declared.runs.Call.TheVariants.{Act, Close}
use Rattle.guard.specs.declared.runs.Guard.{Guard}
use Rattle.guard.specs.declared.runs.Guard.TheVariants.{AtRest, InCycle}
use Rattle.guard.specs.Calls.{resting, running, Acting, refused, dropped, passed, acting, Closing, barred, closed, closing, leads}
use Rattle.guard.specs.Histories.{Step, act_step, close_step, step, events, started, number_written}
use Rattle.guard.specs.Runs.{accepted, line}
use Rattle.guard.proofs.Walking.{length_leads}
use Rattle.enforcer.specs.Offers.{offered, calls_from}
use Rattle.speed.specs.Counts.{output, most_count, begun, Gives, count_under}

-- what an offer adds to the line is as long as its answer says
act_adds : (x : Acting) (g : Running) (a : ℕ) → length (cond (accepted (act_step x g a).reply) (act_step x g a).wrote []) ≡ number_written (act_step x g a).reply
act_adds (refused e) g a = refl
act_adds dropped g a = refl
act_adds (passed q) g a = refl

close_adds : (m : Meaning) (x : Closing) (g : Running) → length (cond (accepted (close_step m x g).reply) (close_step m x g).wrote []) ≡ number_written (close_step m x g).reply
close_adds m (barred e) g = refl
close_adds m closed g = length-append (leads m g.place (m.owed g.place)) (end ∷ []) ∙ ap (λ k. k + 1) (length_leads m g.place (m.owed g.place))

-- a sum that is cut off stays so however it is cut off before
cut_sum : (n w k most : ℕ) → min (min (n + w) most + k) most ≡ min (n + (w + k)) most
cut_sum n w k most = grind arith

module _ (m : Meaning) where
  -- the step of an offer, by whether it is the end
  abbrev step_by : Running → ℕ → Bool → Step
  step_by g a b = step m (InCycle g) (cond b (Close output) (Act a output))

  abbrev offer_step : Running → ℕ → Step
  offer_step g a = step_by g a (eqb a end)

  -- what further offers add to the line inside a cycle
  abbrev added : Running → List ℕ → List ℕ
  added g more = line (events m (InCycle g) (calls_from true output more))

  -- a begin adds nothing, whether it is a call or none
  begin_adds : (g : Guard) (more : List ℕ) → line (events m g (calls_from false output more)) ≡ added (begun g) more
  unfolding events line calls_from
  begin_adds (AtRest g) [] = refl
  begin_adds (AtRest g) (a ∷ more) = refl
  begin_adds (InCycle g) [] = refl
  begin_adds (InCycle g) (a ∷ more) = refl

  offer_adds : (g : Running) (a : ℕ) → length (cond (accepted (offer_step g a).reply) (offer_step g a).wrote []) ≡ number_written (offer_step g a).reply
  offer_adds g a = by_end (eqb a end)
    where
      by_end : (b : Bool) → length (cond (accepted (step_by g a b).reply) (step_by g a b).wrote []) ≡ number_written (step_by g a b).reply
      by_end true = close_adds m (closing m g output) g
      by_end false = act_adds (acting m g a output) g a

  further_adds : (g : Running) (a : ℕ) (more : List ℕ) → line (events m (offer_step g a).guard (calls_from (not (eqb a end)) output more)) ≡ added (begun (offer_step g a).guard) more
  further_adds g a more = by_end (eqb a end)
    where
      by_end : (b : Bool) → line (events m (step_by g a b).guard (calls_from (not b) output more)) ≡ added (begun (step_by g a b).guard) more
      by_end true = begin_adds (step_by g a true).guard more
      by_end false = refl

  more_added : (g : Running) (a : ℕ) (more : List ℕ) → length (added g (a ∷ more)) ≡ number_written (offer_step g a).reply + length (added (begun (offer_step g a).guard) more)
  unfolding events line calls_from
  more_added g a more =
      length-append (cond (accepted (offer_step g a).reply) (offer_step g a).wrote []) (line (events m (offer_step g a).guard (calls_from (not (eqb a end)) output more)))
      ∙ ap₂ (λ n ls. n + length ls) (offer_adds g a) (further_adds g a more)

  -- after the first i offers, each with an output of `room`
  pub record Sofar (offers : List ℕ) (i room : ℕ) (g : Running) (n : ℕ) : Type 0 where
    pub whole : room ≡ output
    pub fits : n ≤ most_count
    pub counts : min (n + length (added g (drop i offers))) most_count ≡ count_under m offers

  pub sofar_none : (offers : List ℕ) (room : ℕ) (r : Resting) (g : Running) → room ≡ output → r ≡ resting m.start → g ≡ running r.place 0 → Sofar offers 0 room g 0
  sofar_none offers room r g whole er eg =
      record {
        whole = whole;
        fits = omega arith;
        counts =
            ap (λ (h : Running). min (0 + length (added h offers)) most_count) (eg ∙ ap (λ (x : Resting). running x.place 0) er)
            ∙ ap (λ k. min k most_count) (zero-add (length (added (running m.start 0) offers)))
            ∙ ap (λ ls. min (length ls) most_count) (sym (begin_adds (started m) offers));
      }

  pub sofar_more : (offers : List ℕ) (i room after : ℕ) (g : Running) (n k : ℕ) (x : Running × ℕ) → Sofar offers i room g n → i < length offers → after ≡ room
      → Gives (step m (InCycle g) (offered room (get_or offers i 0))) x → k ≡ min (n + x.1) most_count → Sofar offers (i + 1) after x.0 k
  sofar_more offers i room after g n k x s h same given e =
      let a : ℕ = get_or offers i 0 in
      let rest : List ℕ = drop (suc i) offers in
      let gives : Gives (offer_step g a) x = subst (λ r. Gives (step m (InCycle g) (offered r a)) x) s.whole given in
      record {
        whole = same ∙ s.whole;
        fits = omega (arith, e);
        counts =
            ap (λ j. min (k + length (added x.0 (drop j offers))) most_count) (add-one i)
            ∙ ap₂ (λ l (h : Running). min (l + length (added h rest)) most_count) e gives.guard
            ∙ cut_sum n x.1 (length (added (begun (offer_step g a).guard) rest)) most_count
            ∙ ap (λ w. min (n + (w + length (added (begun (offer_step g a).guard) rest))) most_count) gives.number
            ∙ ap (λ l. min (n + l) most_count) (sym (more_added g a rest))
            ∙ ap (λ ls. min (n + length (added g ls)) most_count) (sym (drop-cons offers i 0 h))
            ∙ s.counts;
      }

  pub sofar_all : (offers : List ℕ) (i room : ℕ) (g : Running) (n : ℕ) → Sofar offers i room g n → length offers ≤ i → n ≡ count_under m offers
  unfolding events line calls_from
  sofar_all offers i room g n s h =
      let none : min (n + length (added g (drop i offers))) most_count ≡ min (n + 0) most_count = ap (λ ls. min (n + length (added g ls)) most_count) (drop_all i offers h) in
      let less : n ≡ min (n + 0) most_count = grind (arith, s.fits) in
      less ∙ sym none ∙ s.counts
