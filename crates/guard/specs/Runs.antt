-- Runs of a guard: lists of calls from its start, what they answer and write, and what is claimed of every run.
use Rattle.std.specs.Prelude.{◌≡◌, ℕ, ◌+◌, ◌≤◌, Bool, true, false, cond, not, ◌||◌, List, [], ◌∷◌, ◌++◌, map, length, Some, ◌==◌}
use Rattle.letters.specs.Letters.{end}
use Rattle.rules.specs.Meaning.{Meaning}
use Rattle.rules.specs.Lists.{follow, Admits, Way}
use Rattle.guard.specs.declared.refusal.Refusal.{Refusal}
use Rattle.guard.specs.declared.refusal.Refusal.TheVariants.{NotLive, NoLetter, EndOffered, Full, Short}
use Rattle.guard.specs.declared.runs.Call.{Call}
use Rattle.guard.specs.declared.runs.Call.TheVariants.{Begin, Act, Close}
use Rattle.guard.specs.declared.runs.Reply.{Reply}
use Rattle.guard.specs.declared.runs.Reply.TheVariants.{Begun, Passed, Dropped, Closed, Refused, NoCall}
use Rattle.guard.specs.Edits.{Edit, outputs, triggers, Execution}

-- a call that was made, its answer, and the letters that it wrote
pub record Event : Type 0 where
  pub call : Call
  pub reply : Reply
  pub wrote : List ℕ

-- a drop is accepted, a refusal is not, and what the guard's state cannot take is no call
abbrev pub accepted : Reply → Bool
accepted Begun = true
accepted Passed = true
accepted Dropped = true
accepted (Closed n) = true
accepted (Refused e) = false
accepted NoCall = false

-- the line: all that accepted calls wrote
unfoldable pub line : List Event → List ℕ
line [] = []
line (e ∷ es) = cond (accepted e.reply) e.wrote [] ++ line es

-- what a call offers: an act its letter, a close the end
abbrev pub offer : Call → List ℕ
offer Begin = []
offer (Act a room) = a ∷ []
offer (Close room) = end ∷ []

-- the offers: of accepted acts and closes, in order
unfoldable pub offers : List Event → List ℕ
offers [] = []
offers (e ∷ es) = cond (accepted e.reply) (offer e.call) [] ++ offers es

-- whether a cycle is open after an answer, where `was` says so of before
abbrev pub open_after : Bool → Reply → Bool
open_after was Begun = true
open_after was Passed = was
open_after was Dropped = was
open_after was (Closed n) = false
open_after was (Refused e) = was
open_after was NoCall = was

-- whether a cycle is open after all events
unfoldable pub in_cycle : Bool → List Event → Bool
in_cycle was [] = was
in_cycle was (e ∷ es) = in_cycle (open_after was e.reply) es

-- the calls of one cycle: a close is accepted only as the last of them
unfoldable pub OneCycle : List Event → Type 0
OneCycle [] = Unit {0}
OneCycle (e ∷ es) = (((n : ℕ) → e.reply ≡ Closed n → es ≡ []) × OneCycle es)

abbrev pub without_end : List ℕ → List ℕ
without_end [] = []
without_end (a ∷ xs) = cond (a == end) (without_end xs) (a ∷ without_end xs)

-- refused since the cycle has as many acts as are counted
abbrev pub is_full : Refusal → Bool
is_full NotLive = false
is_full NoLetter = false
is_full EndOffered = false
is_full Full = true
is_full Short = false

abbrev pub full : Reply → Bool
full Begun = false
full Passed = false
full Dropped = false
full (Closed n) = false
full (Refused e) = is_full e
full NoCall = false

-- equal answers and equal letters written, up to the first act that is refused as full in either, that one left out
unfoldable pub Alike : List Event → List Event → Type 0
Alike [] [] = Unit {0}
Alike [] (f ∷ fs) = ⊥
Alike (e ∷ es) [] = ⊥
Alike (e ∷ es) (f ∷ fs) = ((full e.reply || full f.reply) ≡ false → (e.reply ≡ f.reply) × (e.wrote ≡ f.wrote) × Alike es fs)

-- what a guard's state takes: a begin outside a cycle, acts and closes inside one
abbrev pub takes : Bool → Call → Bool
takes was Begin = not was
takes was (Act a room) = was
takes was (Close room) = was

abbrev pub is_call : Reply → Bool
is_call Begun = true
is_call Passed = true
is_call Dropped = true
is_call (Closed n) = true
is_call (Refused e) = true
is_call NoCall = false

-- The events are the calls in order, and each is answered exactly where the guard's state takes it.
pub record CallsAreAnswered (calls : List Call) (es : List Event) : Type 0 where
  pub in_order : map (λ (e : Event). e.call) es ≡ calls
  pub taken : (before after : List Event) (e : Event) → es ≡ before ++ e ∷ after → is_call e.reply ≡ takes (in_cycle false before) e.call

-- The rule admits the line, and the line is the offers exactly where the rule admits the offers.
pub record LineIsAdmitted (m : Meaning) (es : List Event) : Type 0 where
  pub admitted : Admits m (line es)
  pub unchanged : Admits m (offers es) → line es ≡ offers es
  pub only : line es ≡ offers es → Admits m (offers es)

-- A close inserts a shortest insertable way from where the line before it leads to, and then writes the end; its answer
-- is the number of letters, the end counted.
pub record ShortestClose (m : Meaning) (before : List ℕ) (wrote : List ℕ) (number : ℕ) : Type 0 where
  pub place : ℕ
  pub at : follow m m.start before ≡ Some place
  pub way : List ℕ
  pub writes : wrote ≡ way ++ end ∷ []
  pub counts : number ≡ length way + 1
  pub is_way : Way m place way
  pub least : (other : List ℕ) → Way m place other → length way ≤ length other

abbrev pub ClosesAreShortest : Meaning → List Event → Type 0
ClosesAreShortest m es =
    (before after : List Event) (e : Event) (n : ℕ) → es ≡ before ++ e ∷ after → e.reply ≡ Closed n → ShortestClose m (line before) e.wrote n

-- A cycle's line, its end left out, is no longer than the span of the place that the line led to where it began.
abbrev pub CyclesKeepToSpan : Meaning → List Event → Type 0
CyclesKeepToSpan m es =
    (before cycle after : List Event) (b : Event) → es ≡ before ++ b ∷ (cycle ++ after) → b.reply ≡ Begun → OneCycle cycle
    → (place : ℕ) → follow m m.start (line before) ≡ Some place → length (without_end (line cycle)) ≤ m.span place

-- Guards with equal lines, both inside a cycle or both outside, answer equal further calls alike.
abbrev pub EqualLinesBehaveAlike : (List Call → List Event) → Type 0
EqualLinesBehaveAlike run =
    (one other further : List Call) (es fs : List Event) → line (run one) ≡ line (run other) → in_cycle false (run one) ≡ in_cycle false (run other)
    → run (one ++ further) ≡ run one ++ es → run (other ++ further) ≡ run other ++ fs → Alike es fs

-- a letter may follow a line where the rule admits the line with it
abbrev pub AdmittedNext : Meaning → List ℕ → ℕ → Type 0
AdmittedNext m l a = Admits m (l ++ a ∷ [])

-- The run is an execution of the edit automaton of what the rule admits: its outputs are the line, and its triggers the offers.
pub record EditsAsAutomaton (m : Meaning) (es : List Event) : Type 0 where
  pub edits : List Edit
  pub executes : Execution (AdmittedNext m) [] (offers es) edits
  pub puts_out : outputs edits ≡ line es
  pub takes : triggers edits ≡ offers es

-- what is claimed of all runs under a rule
pub record Guarded (m : Meaning) (run : List Call → List Event) : Type 0 where
  pub answers : (calls : List Call) → CallsAreAnswered calls (run calls)
  pub lines : (calls : List Call) → LineIsAdmitted m (run calls)
  pub closes : (calls : List Call) → ClosesAreShortest m (run calls)
  pub cycles : (calls : List Call) → CyclesKeepToSpan m (run calls)
  pub alike : EqualLinesBehaveAlike run
  pub edits : (calls : List Call) → EditsAsAutomaton m (run calls)
