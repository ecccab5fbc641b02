-- How many letters a guard writes, and what is answered for a property file.
use Rattle.std.specs.Prelude.{◌≡◌, ℕ, ◌-◌, ◌≤◌, ◌^◌, min, List, length, Ok, Err, Result}
use Rattle.std.specs.Result.{result_unwrap_or}
use Rattle.letters.specs.declared.alphabet.Alphabet.{Alphabet}
use Rattle.rules.specs.Capped.{capped, Same}
use Rattle.rules.specs.Faults.{most_number}
use Rattle.rules.specs.Meaning.{Meaning}
use Rattle.rules.specs.Tabled.{tabled}
use Rattle.guard.specs.Calls.{running}
use Rattle.guard.specs.Histories.{Step, run_of, number_written}
use Rattle.guard.specs.Runs.{line}
use Rattle.guard.specs.declared.calls.Running.{Running}
use Rattle.guard.specs.declared.runs.Guard.{Guard}
use Rattle.guard.specs.declared.runs.Guard.TheVariants.{AtRest, InCycle}
use Rattle.property.specs.Checks.{alphabet_of}
use Rattle.synthesis.specs.Synthesis.{Refused, Left, Synthesis, lent}
use Rattle.synthesis.specs.declared.fault.SynthesisFault.{SynthesisFault}
use Rattle.enforcer.specs.Enforcement.{FileTable, NoCap}
use Rattle.enforcer.specs.Offers.{calls_of}
use Rattle.enforcer.specs.declared.fault.EnforcerFault.{EnforcerFault}
use Rattle.enforcer.specs.declared.fault.EnforcerFault.TheVariants as Fault

-- the length of the output of each call
abbrev pub output : ℕ
output = 256

-- the largest number that is answered
abbrev pub most_count : ℕ
most_count = 2 ^ 64 - 1

-- a guard inside a cycle, which one at rest begins
abbrev pub begun : Guard → Running
begun (AtRest g) = running g.place 0
begun (InCycle g) = g

-- what a call gives: the guard after it inside a cycle, and how many letters it wrote
pub record Gives (s : Step) (x : Running × ℕ) : Type 0 where
  pub guard : x.0 ≡ begun s.guard
  pub number : x.1 ≡ number_written s.reply

-- how many letters a guard under a rule writes where letters are offered to it one after the other
abbrev pub count_under : Meaning → List ℕ → ℕ
count_under m offers = min (length (line (run_of m (calls_of output offers)))) most_count

-- under the cap of k over a rule
pub record CountCapped (m : Meaning) (k : ℕ) (offers : List ℕ) (n : ℕ) : Type 0 where
  pub enough : m.most ≤ k
  pub small : k ≤ most_number
  pub cap : Meaning
  pub is_cap : Same cap (capped m k)
  pub counts : n ≡ count_under cap offers

-- under the cap of k over the table of a file; or the file's refusal, or that of the cap
abbrev pub FileCount : List ℕ → ℕ → List ℕ → List ℕ → List ℕ → Result ℕ EnforcerFault → List ℕ → List ℕ → Type 0
FileCount file k offers table work (Ok n) table_after work_after =
    (t : FileTable file table work table_after work_after)
    × CountCapped (tabled (alphabet_of t.made.parts) table_after t.rows) k offers n
FileCount file k offers table work (Err (Fault.File fault)) table_after work_after =
    Refused file (length table) (length work) fault × ((a : Alphabet) → Left fault (lent a table work) (lent a table_after work_after))
FileCount file k offers table work (Err (Fault.Limit fault)) table_after work_after =
    (t : FileTable file table work table_after work_after)
    × NoCap (tabled (alphabet_of t.made.parts) table_after t.rows) k fault
FileCount file k offers table work (Err Fault.Memory) table_after work_after = ⊥

-- the number answered for a file: the count, 0 at a refusal
pub record CountAnswered (file : List ℕ) (k : ℕ) (offers table work : List ℕ) (n : ℕ) (table_after work_after : List ℕ) : Type 0 where
  pub came_to : Result ℕ EnforcerFault
  pub counts : FileCount file k offers table work came_to table_after work_after
  pub answers : n ≡ result_unwrap_or came_to 0

-- the number answered for a file: the rows of its table, 0 at a refusal
pub record RowsAnswered (file table work : List ℕ) (n : ℕ) (table_after work_after : List ℕ) : Type 0 where
  pub before : Alphabet
  pub after : Alphabet
  pub came_to : Result ℕ SynthesisFault
  pub makes : Synthesis file (lent before table work) came_to (lent after table_after work_after)
  pub answers : n ≡ result_unwrap_or came_to 0
