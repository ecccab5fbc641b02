-- What a property file makes, as claims that contracts bear out: size, beginnings, what is owed, spans, a refusal, a line.
use Rattle.std.specs.Prelude.{◌≡◌, ℕ, zero, suc, ◌≤◌, List, [], ◌∷◌, ◌++◌, length, Ok, Err, Result, vec_items}
use Rattle.letters.specs.Letters.{end}
use Rattle.rules.specs.Lists.{Insertable, Endless}
use Rattle.property.specs.Checks.{Parts, checked}
use Rattle.property.specs.Nodes.{Node}
use Rattle.property.specs.Traces.{PropertyBeginning}
use Rattle.synthesis.specs.declared.fault.SynthesisFault.{SynthesisFault}
use Rattle.synthesis.specs.Faults.{synthesis_report}
use Rattle.synthesis.specs.Synthesis.{Lent, Synthesis, property_size, table_room, work_room}
use Rattle.guard.specs.declared.runs.Call.{Call}
use Rattle.guard.specs.declared.runs.Call.TheVariants.{Begin, Close}
use Rattle.guard.specs.declared.runs.Run.{Run}
use Rattle.enforcer.specs.declared.enforce.Limit.TheVariants.{Unlimited}
use Rattle.enforcer.specs.declared.fault.EnforcerFault.{EnforcerFault}
use Rattle.enforcer.specs.declared.fault.EnforcerFault.TheVariants.{File, Limit, Memory}
use Rattle.enforcer.specs.Enforcement.{Enforcement}

-- what is asked of the property of a file, with the answer
pub data Claim : Type 0 where
  -- it has this size
  HasSize : ℕ → Claim
  -- the list is no beginning of it
  NoBeginning : List ℕ → Claim
  -- after the list so many letters are owed
  Owes : List ℕ → ℕ → Claim
  -- after the list so many letters can come in the cycle, and no more
  Spans : List ℕ → ℕ → Claim
  -- synthesis refuses its file with this number
  Refuses : ℕ → Claim
  -- so many cycles, each closed as soon as it is begun, write this line
  Writes : ℕ → List ℕ → Claim

pub record Row : Type 0 where
  pub file : List ℕ
  pub claim : Claim

-- k is the length of the shortest insertable list after which the end extends the list to a beginning
pub record OwedAfter (nodes : List Node) (t : List ℕ) (k : ℕ) : Type 0 where
  pub way : (u : List ℕ) × (length u ≡ k) × Insertable u × PropertyBeginning nodes (t ++ (u ++ end ∷ []))
  pub least : (u : List ℕ) → Insertable u → PropertyBeginning nodes (t ++ (u ++ end ∷ [])) → k ≤ length u

-- k is the length of the longest list without an end that extends the list to a beginning
pub record SpanAfter (nodes : List Node) (t : List ℕ) (k : ℕ) : Type 0 where
  pub longest : (u : List ℕ) × (length u ≡ k) × Endless u × PropertyBeginning nodes (t ++ u)
  pub most : (u : List ℕ) → Endless u → PropertyBeginning nodes (t ++ u) → length u ≤ k

-- memories of these lengths suffice for the table of a property
pub record Suffice (parts : Parts) (room work : ℕ) : Type 0 where
  pub table_fits : table_room parts ≤ room
  pub work_fits : work_room parts ≤ work

-- the answer is a refusal with this number
abbrev pub RefusedWith : ℕ → Result ℕ SynthesisFault → Type 0
RefusedWith number (Ok rows) = ⊥
RefusedWith number (Err fault) = (synthesis_report fault).number ≡ number

-- so many cycles, each closed as soon as it is begun
abbrev pub rounds : ℕ → ℕ → List Call
rounds room zero = []
rounds room (suc n) = Begin ∷ Close room ∷ rounds room n

-- the answer is a run that wrote this line, unless there was no memory for the run
abbrev pub Wrote : List ℕ → Result Run EnforcerFault → Type 0
Wrote letters (Ok x) = vec_items x.line ≡ letters
Wrote letters (Err (File fault)) = ⊥
Wrote letters (Err (Limit fault)) = ⊥
Wrote letters (Err Memory) = Unit {0}

-- the claim holds of the parts that a file makes; refusals and lines are those that the contracts of synthesis and enforcer allow
abbrev pub HoldsOf : List ℕ → Parts → Claim → Type 0
HoldsOf file parts (HasSize k) = property_size parts ≡ k
HoldsOf file parts (NoBeginning t) = PropertyBeginning parts.nodes t → ⊥
HoldsOf file parts (Owes t k) = OwedAfter parts.nodes t k
HoldsOf file parts (Spans t k) = SpanAfter parts.nodes t k
HoldsOf file parts (Refuses number) =
    (before after : Lent) (answer : Result ℕ SynthesisFault) → Suffice parts (length before.table) (length before.work)
    → Synthesis file before answer after → RefusedWith number answer
HoldsOf file parts (Writes n letters) =
    (room : ℕ) (table work table_after work_after : List ℕ) (answer : Result Run EnforcerFault) → length letters ≤ room
    → Suffice parts (length table) (length work) → Enforcement file Unlimited (rounds room n) table work answer table_after work_after
    → Wrote letters answer

-- the file passes the checks, and the claim holds of what it makes
abbrev pub Holds : Row → Type 0
Holds row = (parts : Parts) × (checked row.file ≡ Ok parts) × HoldsOf row.file parts row.claim
