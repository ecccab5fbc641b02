-- The run that a list of calls makes, by what each call comes to.
use Rattle.std.specs.Prelude.{◌≡◌, ℕ, ◌+◌, List, [], ◌∷◌, ◌++◌, map, vec_items}
use Rattle.rules.specs.Meaning.{Meaning}
use Rattle.guard.specs.declared.calls.Running.{Running}
use Rattle.guard.specs.declared.runs.Call.{Call}
use Rattle.guard.specs.declared.runs.Call.TheVariants.{Begin, Act, Close}
use Rattle.guard.specs.declared.runs.Reply.{Reply}
use Rattle.guard.specs.declared.runs.Reply.TheVariants.{Begun, Passed, Dropped, Closed, Refused, NoCall}
use Rattle.guard.specs.declared.runs.Guard.{Guard}
use Rattle.guard.specs.declared.runs.Guard.TheVariants.{AtRest, InCycle}
use Rattle.guard.specs.declared.runs.Run.{Run}
use Rattle.guard.specs.Calls.{over, resting, running, Acting, refused, dropped, passed, acting, act_guard, act_writes, Closing, barred, closed, closing, close_place, close_writes}
use Rattle.guard.specs.Runs.{Event, line}

-- what one call does: the guard after it, its answer, and the letters that it writes
pub record Step : Type 0 where
  pub guard : Guard
  pub reply : Reply
  pub wrote : List ℕ

abbrev no_call : Guard → Step
no_call g = record { guard = g; reply = NoCall; wrote = [] }

abbrev pub act_reply : Acting → Reply
act_reply (refused e) = Refused e
act_reply dropped = Dropped
act_reply (passed q) = Passed

abbrev pub act_step : Acting → Running → ℕ → Step
act_step x g a = record { guard = InCycle (act_guard x g); reply = act_reply x; wrote = act_writes x a }

abbrev pub close_step : Meaning → Closing → Running → Step
close_step m (barred e) g = record { guard = InCycle g; reply = Refused e; wrote = [] }
close_step m closed g = record { guard = AtRest (resting (close_place m g)); reply = Closed (m.owed g.place + 1); wrote = close_writes m g closed }

-- a resting guard takes a begin, a running one an act or a close
abbrev pub step : Meaning → Guard → Call → Step
step m (AtRest g) Begin = record { guard = InCycle (running g.place 0); reply = Begun; wrote = [] }
step m (AtRest g) (Act a room) = no_call (AtRest g)
step m (AtRest g) (Close room) = no_call (AtRest g)
step m (InCycle g) Begin = no_call (InCycle g)
step m (InCycle g) (Act a room) = act_step (acting m g a room) g a
step m (InCycle g) (Close room) = close_step m (closing m g room) g

abbrev pub event : Call → Step → Event
event c s = record { call = c; reply = s.reply; wrote = s.wrote }

-- the length of a call's output
abbrev pub room : Call → ℕ
room Begin = 0
room (Act a n) = n
room (Close n) = n

-- how many letters a call with an answer wrote
abbrev pub number_written : Reply → ℕ
number_written Begun = 0
number_written Passed = 1
number_written Dropped = 0
number_written (Closed n) = n
number_written (Refused e) = 0
number_written NoCall = 0

-- what making a call gives: the guard and the answer, and what it leaves in its output
pub record Makes (s : Step) (x : Guard × Reply) (out_before out_after : List ℕ) : Type 0 where
  pub guard : x.0 ≡ s.guard
  pub reply : x.1 ≡ s.reply
  pub wrote : out_after ≡ over s.wrote out_before

-- a run after a call: its guard, and the answers and the line with what the call added
pub record Takes (s : Step) (x y : Run) : Type 0 where
  pub guard : y.guard ≡ s.guard
  pub replies : vec_items y.replies ≡ vec_items x.replies ++ s.reply ∷ []
  pub line_is : vec_items y.line ≡ vec_items x.line ++ s.wrote

-- the events that calls make, and the guard after them
unfoldable pub events : Meaning → Guard → List Call → List Event
events m g [] = []
events m g (c ∷ cs) = event c (step m g c) ∷ events m (step m g c).guard cs

unfoldable pub guard_after : Meaning → Guard → List Call → Guard
guard_after m g [] = g
guard_after m g (c ∷ cs) = guard_after m (step m g c).guard cs

abbrev pub started : Meaning → Guard
started m = AtRest (resting m.start)

-- the run of a list of calls from the start
abbrev pub run_of : Meaning → List Call → List Event
run_of m calls = events m (started m) calls

-- the answers, the line and the guard after the calls
pub record Told (m : Meaning) (calls : List Call) (x : Run) : Type 0 where
  pub replies : vec_items x.replies ≡ map (λ (e : Event). e.reply) (run_of m calls)
  pub line_is : vec_items x.line ≡ line (run_of m calls)
  pub guard_is : x.guard ≡ guard_after m (started m) calls
