-- What is made of a file whose table was made.
use Rattle.std.proofs.Common.{◌≡◌, ℕ, List, Ok, Err, Result, ap, ◌∙◌}
use Rattle.letters.specs.Declarations.{letters_of}
use Rattle.letters.specs.declared.alphabet.Alphabet.{Alphabet}
use Rattle.rules.specs.Meaning.{Meaning}
use Rattle.rules.specs.Tabled.{tabled}
use Rattle.rules.specs.Tables.{table_rule, HoldsRows}
use Rattle.rules.specs.Valued.{meaning}
use Rattle.rules.specs.declared.table.Table.{Table}
use Rattle.guard.specs.declared.runs.Call.{Call}
use Rattle.guard.specs.declared.runs.Run.{Run}
use Rattle.property.specs.Checks.{alphabet_of}
use Rattle.enforcer.specs.Enforcement.{FileTable, Enforcement}
use Rattle.enforcer.specs.Limited.{UnderLimit}
use Rattle.synthesis.specs.Synthesis.{Synthesized, lent}
use Rattle.enforcer.specs.declared.enforce.Limit.{Limit}
use Rattle.enforcer.specs.declared.enforce.Limit.TheVariants.{Unlimited, Standard, Letters}
use Rattle.enforcer.specs.declared.fault.EnforcerFault.{EnforcerFault}
use Rattle.enforcer.specs.declared.fault.EnforcerFault.TheVariants as Fault
use Rattle.enforcer.proofs.Edits.{runs_free}

module _ (file table work table_after work_after : List ℕ) (before after : Alphabet) (rows : ℕ) (made : Synthesized file (lent before table work) rows (lent after table_after work_after)) where
  file_table : FileTable file table work table_after work_after
  file_table = record { before = before; after = after; rows = rows; made = made }

  abbrev rule : Meaning
  rule = tabled (alphabet_of made.parts) table_after rows

  enforced : (limit : Limit) (calls : List Call) (r : Result Run EnforcerFault) → UnderLimit rule limit calls r → Enforcement file limit calls table work r table_after work_after
  unfolding file_table
  enforced Unlimited calls (Ok x) u = (file_table, runs_free made.parts.nodes rule made.table.admits calls x u)
  enforced Standard calls (Ok x) u = (file_table, u)
  enforced (Letters k) calls (Ok x) u = (file_table, u)
  enforced limit calls (Err (Fault.File fault)) u = absurd u
  enforced limit calls (Err (Fault.Limit fault)) u = (file_table, u)
  enforced limit calls (Err Fault.Memory) u = file_table

  -- the answer under the table that was made, as the answer of the file
  pub enforces : (t : Table) (limit : Limit) (calls : List Call) (r : Result Run EnforcerFault) → HoldsRows (letters_of after) table_after rows t → UnderLimit (meaning table_rule t) limit calls r
      → Enforcement file limit calls table work r table_after work_after
  enforces t limit calls r holds u =
      let means : meaning table_rule t ≡ rule = holds.means ∙ ap (λ ls. tabled ls table_after rows) made.alphabet in
      enforced limit calls r (rw means at u)
