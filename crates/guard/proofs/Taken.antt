-- The events of a run are its calls, each answered where the guard's state takes it.
use Rattle.std.proofs.Common.{◌≡◌, ℕ, true, false, List, [], ◌∷◌, map, sym, refl, ap, ◌∙◌}
use Rattle.rules.specs.Meaning.{Meaning}
use Rattle.guard.specs.declared.calls.Running.{Running}
use Rattle.guard.specs.declared.runs.Call.{Call}
use Rattle.guard.specs.declared.runs.Call.TheVariants.{Begin, Act, Close}
use Rattle.guard.specs.declared.runs.Guard.{Guard}
use Rattle.guard.specs.declared.runs.Guard.TheVariants.{AtRest, InCycle}
use Rattle.guard.specs.Calls.{Acting, refused, dropped, passed, acting, Closing, barred, closed, closing}
use Rattle.guard.specs.Histories.{act_step, close_step, step, events, guard_after, started, run_of}
use Rattle.guard.specs.Runs.{Event, in_cycle, takes, is_call, CallsAreAnswered}
use Rattle.guard.proofs.Invariant.{split, events_inside}
use Rattle.guard.proofs.Steps.{inside}

act_answered : (x : Acting) (g : Running) (a : ℕ) → is_call (act_step x g a).reply ≡ true
act_answered (refused e) g a = refl
act_answered dropped g a = refl
act_answered (passed q) g a = refl

close_answered : (m : Meaning) (x : Closing) (g : Running) → is_call (close_step m x g).reply ≡ true
close_answered m (barred e) g = refl
close_answered m closed g = refl

step_answered : (m : Meaning) (g : Guard) (c : Call) → is_call (step m g c).reply ≡ takes (inside g) c
step_answered m (AtRest g) Begin = refl
step_answered m (AtRest g) (Act a room) = refl
step_answered m (AtRest g) (Close room) = refl
step_answered m (InCycle g) Begin = refl
step_answered m (InCycle g) (Act a room) = act_answered (acting m g a room) g a
step_answered m (InCycle g) (Close room) = close_answered m (closing m g room) g

events_in_order : (m : Meaning) (g : Guard) (calls : List Call) → map (λ (e : Event). e.call) (events m g calls) ≡ calls
unfolding events
events_in_order m g [] = refl
events_in_order m g (c ∷ cs) = ap (λ rest. c ∷ rest) (events_in_order m (step m g c).guard cs)

pub answered : (m : Meaning) (calls : List Call) → CallsAreAnswered calls (run_of m calls)
answered m calls =
    record {
      in_order = events_in_order m (started m) calls;
      taken = λ before after e h.
          let s = split m calls (started m) before e after h in
          let g : Guard = guard_after m (started m) s.first in
          let open_is : in_cycle false before ≡ inside g = ap (in_cycle false) s.is_before ∙ events_inside m s.first (started m) in
          ap (λ (x : Event). is_call x.reply) s.is_event
          ∙ step_answered m g s.call
          ∙ ap (λ b. takes b s.call) (sym open_is)
          ∙ ap (λ (x : Event). takes (in_cycle false before) x.call) (sym s.is_event);
    }
