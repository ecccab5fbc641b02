-- What a guard does under the table of a property file.
use Rattle.std.specs.Prelude.{◌≡◌, ℕ, ◌<◌, ◌≤◌, ◌⊎◌, List, [], ◌∷◌, ◌++◌, length, Ok, Err, Result}
use Rattle.letters.specs.declared.alphabet.Alphabet.{Alphabet}
use Rattle.rules.specs.Capped.{capped, Same}
use Rattle.rules.specs.Caps.{default_cap}
use Rattle.rules.specs.Faults.{most_number}
use Rattle.rules.specs.Meaning.{Meaning, Lawful}
use Rattle.rules.specs.Tabled.{tabled}
use Rattle.rules.specs.declared.fault.RuleFault.{RuleFault}
use Rattle.rules.specs.declared.fault.RuleFault.TheVariants.{Number}
use Rattle.guard.specs.Edits.{Edit, outputs, triggers, Execution}
use Rattle.guard.specs.Histories.{run_of, Told}
use Rattle.guard.specs.Runs.{Event, line, offers, Guarded}
use Rattle.guard.specs.declared.runs.Call.{Call}
use Rattle.guard.specs.declared.runs.Run.{Run}
use Rattle.property.specs.Checks.{alphabet_of}
use Rattle.property.specs.Nodes.{Node}
use Rattle.property.specs.Traces.{PropertyBeginning}
use Rattle.synthesis.specs.Synthesis.{Refused, Left, Synthesized, lent}
use Rattle.enforcer.specs.declared.enforce.Limit.{Limit}
use Rattle.enforcer.specs.declared.enforce.Limit.TheVariants.{Unlimited, Standard, Letters}
use Rattle.enforcer.specs.declared.fault.EnforcerFault.{EnforcerFault}
use Rattle.enforcer.specs.declared.fault.EnforcerFault.TheVariants as Fault

-- the table that synthesis made of the file, where `table` and `work` were lent and now hold what stands after them
pub record FileTable (file table work table_after work_after : List ℕ) : Type 0 where
  pub before : Alphabet
  pub after : Alphabet
  pub rows : ℕ
  pub made : Synthesized file (lent before table work) rows (lent after table_after work_after)

-- The line begins some trace of the property, and is the offers exactly where the offers begin one.
pub record LineBegins (nodes : List Node) (es : List Event) : Type 0 where
  pub begins : PropertyBeginning nodes (line es)
  pub unchanged : PropertyBeginning nodes (offers es) → line es ≡ offers es
  pub only : line es ≡ offers es → PropertyBeginning nodes (offers es)

-- a letter may follow a line where the line with it begins some trace of the property
abbrev pub BeginsNext : List Node → List ℕ → ℕ → Type 0
BeginsNext nodes l a = PropertyBeginning nodes (l ++ a ∷ [])

-- The events are an execution of the edit automaton of the property: its outputs are the line, and its triggers the offers.
pub record EditsProperty (nodes : List Node) (es : List Event) : Type 0 where
  pub edits : List Edit
  pub executes : Execution (BeginsNext nodes) [] (offers es) edits
  pub puts_out : outputs edits ≡ line es
  pub takes : triggers edits ≡ offers es

-- what the calls came to, and what is claimed of all runs under the rule
pub record RunsUnder (m : Meaning) (calls : List Call) (x : Run) : Type 0 where
  pub told : Told m calls x
  pub guarded : Guarded m (run_of m)

-- under the table alone, whose rule is m
pub record RunsFree (nodes : List Node) (m : Meaning) (calls : List Call) (x : Run) : Type 0 where
  pub runs : RunsUnder m calls x
  pub lines : (others : List Call) → LineBegins nodes (run_of m others)
  pub edits : (others : List Call) → EditsProperty nodes (run_of m others)

-- under the cap of k over the table
pub record RunsCapped (m : Meaning) (k : ℕ) (calls : List Call) (x : Run) : Type 0 where
  pub enough : m.most ≤ k
  pub small : k ≤ most_number
  pub cap : Meaning
  pub is_cap : Same cap (capped m k)
  pub lawful : Lawful cap
  pub runs : RunsUnder cap calls x

abbrev pub LimitedRun : List Node → Meaning → Limit → List Call → Run → Type 0
LimitedRun nodes m Unlimited calls x = RunsFree nodes m calls x
LimitedRun nodes m Standard calls x = RunsCapped m default_cap calls x
LimitedRun nodes m (Letters k) calls x = RunsCapped m k calls x

-- a number over the largest, or under the most that the rule owes
abbrev pub NoCap : Meaning → ℕ → RuleFault → Type 0
NoCap m k fault = (fault ≡ Number) × ((most_number < k) ⊎ (k < m.most))

abbrev pub LimitRefused : Meaning → Limit → RuleFault → Type 0
LimitRefused m Unlimited fault = ⊥
LimitRefused m Standard fault = NoCap m default_cap fault
LimitRefused m (Letters k) fault = NoCap m k fault

-- the answer, and what it leaves in the two memories
abbrev pub Enforcement : List ℕ → Limit → List Call → List ℕ → List ℕ → Result Run EnforcerFault → List ℕ → List ℕ → Type 0
Enforcement file limit calls table work (Ok x) table_after work_after =
    (t : FileTable file table work table_after work_after)
    × LimitedRun t.made.parts.nodes (tabled (alphabet_of t.made.parts) table_after t.rows) limit calls x
Enforcement file limit calls table work (Err (Fault.File fault)) table_after work_after =
    Refused file (length table) (length work) fault × ((a : Alphabet) → Left fault (lent a table work) (lent a table_after work_after))
Enforcement file limit calls table work (Err (Fault.Limit fault)) table_after work_after =
    (t : FileTable file table work table_after work_after)
    × LimitRefused (tabled (alphabet_of t.made.parts) table_after t.rows) limit fault
Enforcement file limit calls table work (Err Fault.Memory) table_after work_after = FileTable file table work table_after work_after
