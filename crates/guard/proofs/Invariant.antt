-- What holds of the guard and of the line after any calls, and the calls behind a part of a run.
use Rattle.std.proofs.Common.{◌≡◌, ℕ, true, List, [], ◌∷◌, ◌++◌, is_some, Some, sym, refl, ap, ◌∙◌, subst, ap₂}
use mathlib.Core.List.{nil≢cons, head-eq_of_cons-eq, tail-eq_of_cons-eq}
use Rattle.rules.specs.Meaning.{Meaning, Laws, Lawful}
use Rattle.rules.specs.Lists.{follow, Admitted, Admits}
use Rattle.rules.proofs.Follows.{follow_join, follow_live, admitted_front}
use Rattle.guard.specs.declared.runs.Call.{Call}
use Rattle.guard.specs.declared.runs.Guard.{Guard}
use Rattle.guard.specs.Runs.{Event, line, offers, in_cycle, LineIsAdmitted}
use Rattle.guard.specs.Histories.{step, events, guard_after, started, run_of}
use Rattle.guard.proofs.Lines.{written, offered}
use Rattle.guard.proofs.Steps.{place_of, inside, made, step_inside, step_follows, step_live, step_same}

-- whether a cycle is open
pub events_inside : (m : Meaning) (calls : List Call) (g : Guard) → in_cycle (inside g) (events m g calls) ≡ inside (guard_after m g calls)
unfolding in_cycle events guard_after
events_inside m [] g = refl
events_inside m (c ∷ cs) g =
    ap (λ b. in_cycle b (events m (step m g c).guard cs)) (step_inside m g c) ∙ events_inside m cs (step m g c).guard

-- the events of further calls
pub events_join : (m : Meaning) (one further : List Call) (g : Guard) → events m g (one ++ further) ≡ events m g one ++ events m (guard_after m g one) further
unfolding events guard_after
events_join m [] further g = refl
events_join m (c ∷ cs) further g = ap (λ es. made m g c ∷ es) (events_join m cs further (step m g c).guard)

-- the first events are those of the first calls
pub events_front : (m : Meaning) (calls : List Call) (g : Guard) (front after : List Event) → events m g calls ≡ front ++ after → (first : List Call) × (front ≡ events m g first)
unfolding events
events_front m [] g [] after h = ([], refl)
events_front m [] g (x ∷ xs) after h = absurd (nil≢cons h)
events_front m (c ∷ cs) g [] after h = ([], refl)
events_front m (c ∷ cs) g (x ∷ xs) after h =
    let t = events_front m cs (step m g c).guard xs after (tail-eq_of_cons-eq h) in
    (c ∷ t.0, ap₂ (λ e es. e ∷ es) (sym (head-eq_of_cons-eq h)) t.1)

-- an event among those of a list of calls, with the calls before it, its own call, and the calls after it
pub record Split (m : Meaning) (g : Guard) (before : List Event) (e : Event) (after : List Event) : Type 0 where
  pub first : List Call
  pub call : Call
  pub later : List Call
  pub is_before : before ≡ events m g first
  pub is_event : e ≡ made m (guard_after m g first) call
  pub is_after : after ≡ events m (step m (guard_after m g first) call).guard later

pub split : (m : Meaning) (calls : List Call) (g : Guard) (before : List Event) (e : Event) (after : List Event) → events m g calls ≡ before ++ e ∷ after → Split m g before e after
unfolding events guard_after
split m [] g [] e after h = absurd (nil≢cons h)
split m [] g (x ∷ xs) e after h = absurd (nil≢cons h)
split m (c ∷ cs) g [] e after h =
    record { first = []; call = c; later = cs; is_before = refl; is_event = sym (head-eq_of_cons-eq h); is_after = sym (tail-eq_of_cons-eq h) }
split m (c ∷ cs) g (x ∷ xs) e after h =
    let s = split m cs (step m g c).guard xs e after (tail-eq_of_cons-eq h) in
    record {
      first = c ∷ s.first;
      call = s.call;
      later = s.later;
      is_before = ap₂ (λ f fs. f ∷ fs) (sym (head-eq_of_cons-eq h)) s.is_before;
      is_event = s.is_event;
      is_after = s.is_after;
    }

module _ (m : Meaning) (laws : Laws m) where
  -- the line leads from the guard's place to its place after the calls
  events_follow : (calls : List Call) (g : Guard) → m.live (place_of g) ≡ true → follow m (place_of g) (line (events m g calls)) ≡ Some (place_of (guard_after m g calls))
  unfolding line events guard_after
  events_follow [] g live = refl
  events_follow (c ∷ cs) g live =
      let h = (step m g c).guard in
      follow_join m (place_of g) (written (made m g c)) (line (events m h cs)) (place_of h) (step_follows m laws g c live)
      ∙ events_follow cs h (step_live m laws g c live)

  -- offers that are admitted are the line
  events_same : (calls : List Call) (g : Guard) → m.live (place_of g) ≡ true → Admitted m (place_of g) (offers (events m g calls)) → line (events m g calls) ≡ offers (events m g calls)
  unfolding line offers events
  events_same [] g live h = refl
  events_same (c ∷ cs) g live h =
      let p = place_of g in
      let n = (step m g c).guard in
      let os = offers (events m n cs) in
      let same = step_same m laws g c live (admitted_front m p (offered (made m g c)) os h) in
      let on : follow m p (offered (made m g c) ++ os) ≡ follow m (place_of n) os =
      ap (λ l. follow m p (l ++ os)) (sym same) ∙ follow_join m p (written (made m g c)) os (place_of n) (step_follows m laws g c live) in
      ap₂ (λ k l. k ++ l) same (events_same cs n (step_live m laws g c live) (sym (ap is_some on) ∙ h))

-- the guard after the calls of a run
abbrev pub after_run : Meaning → List Call → Guard
after_run m calls = guard_after m (started m) calls

module _ (m : Meaning) (lawful : Lawful m) where
  -- the line of a run leads to the place of the guard after it, which is live
  pub run_follows : (calls : List Call) → follow m m.start (line (run_of m calls)) ≡ Some (place_of (after_run m calls))
  run_follows calls = events_follow m lawful.laws calls (started m) lawful.meant.starts

  pub run_live : (calls : List Call) → m.live (place_of (after_run m calls)) ≡ true
  run_live calls = follow_live m lawful.laws m.start (line (run_of m calls)) (place_of (after_run m calls)) lawful.meant.starts (run_follows calls)

  -- and to no other
  pub run_at : (calls : List Call) (p : ℕ) → follow m m.start (line (run_of m calls)) ≡ Some p → place_of (after_run m calls) ≡ p
  run_at calls p h = let both = sym (run_follows calls) ∙ h in cc

  pub lines : (calls : List Call) → LineIsAdmitted m (run_of m calls)
  lines calls =
      let admitted : Admits m (line (run_of m calls)) = ap is_some (run_follows calls) in
      record {
        admitted = admitted;
        unchanged = events_same m lawful.laws calls (started m) lawful.meant.starts;
        only = λ e. subst (Admits m) e admitted;
      }
