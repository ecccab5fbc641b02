-- The count under the table of a file, and the refusal of a cap over it.
use Rattle.std.proofs.Common.{◌≡◌, ℕ, ◌≤◌, Bool, true, false, cond, ◌||◌, ltb, ◌+◌, ◌*◌, List, Ok, Err, Result, refl, ap, ◌∙◌, subst, arith}
use Rattle.std.proofs.lemmas.Bool.{ltb-false}
use Rattle.letters.specs.Declarations.{letters_of}
use Rattle.letters.specs.declared.alphabet.Alphabet.{Alphabet}
use Rattle.rules.specs.Caps.{cap_rule, cap_of, cap_made, CapPlain}
use Rattle.rules.specs.Faults.{most_number}
use Rattle.rules.specs.Meaning.{Meaning, most_places}
use Rattle.rules.specs.Tabled.{tabled}
use Rattle.rules.specs.Tables.{table_rule, HoldsRows}
use Rattle.rules.specs.Valued.{meaning}
use Rattle.rules.specs.declared.cap.Cap.{Cap}
use Rattle.rules.specs.declared.fault.RuleFault.{RuleFault}
use Rattle.rules.specs.declared.fault.RuleFault.TheVariants.{Number, Places}
use Rattle.rules.specs.declared.table.Table.{Table}
use Rattle.property.specs.Checks.{alphabet_of}
use Rattle.property.specs.Sized.{most_size}
use Rattle.synthesis.specs.Synthesis.{Synthesized, lent}
use Rattle.enforcer.proofs.Caps.{no_cap}
use Rattle.enforcer.specs.Enforcement.{FileTable, NoCap}
use Rattle.enforcer.specs.declared.fault.EnforcerFault.{EnforcerFault}
use Rattle.enforcer.specs.declared.fault.EnforcerFault.TheVariants as Fault
use Rattle.speed.specs.Counts.{count_under, CountCapped, FileCount}

-- a cap that was made was refused by neither test of its number
neither : {X : Type 0} (x y : X) (a b c : Bool) → Ok y ≡ cond (a || b) (Err Number) (cond c (Err Places) (Ok x)) → (a ≡ false) × (b ≡ false)
neither x y true b c made = let z : ◌≡◌ {A = ℕ} 0 1 = cc in absurd (omega arith)
neither x y false true c made = let z : ◌≡◌ {A = ℕ} 0 1 = cc in absurd (omega arith)
neither x y false false c made = (refl, refl)

module _ (file table work table_after work_after : List ℕ) (before after : Alphabet) (rows : ℕ) (made : Synthesized file (lent before table work) rows (lent after table_after work_after))
    (t : Table) (holds : HoldsRows (letters_of after) table_after rows t) where
  file_table : FileTable file table work table_after work_after
  file_table = record { before = before; after = after; rows = rows; made = made }

  abbrev rule : Meaning
  rule = tabled (alphabet_of made.parts) table_after rows

  means : meaning table_rule t ≡ rule
  means = holds.means ∙ ap (λ ls. tabled ls table_after rows) made.alphabet

  few : (meaning table_rule t).count ≤ most_size
  few = omega (arith, ap (λ (m : Meaning). m.count) means, made.table.few, made.fits.small)

  pub counts : (k : ℕ) (offers : List ℕ) (cap : Cap Table) → Ok cap ≡ cap_made table_rule t k → CapPlain table_rule t k (Ok cap) → (n : ℕ) → n ≡ count_under (meaning (cap_rule table_rule) cap) offers
      → FileCount file k offers table work (Ok n) table_after work_after
  unfolding file_table
  counts k offers cap is_made plain n e =
      let p = neither (cap_of t k) cap (ltb most_number k) (ltb k (meaning table_rule t).most) (ltb most_places ((meaning table_rule t).count * (k + 1))) is_made in
      let capped : CountCapped (meaning table_rule t) k offers n = record {
        enough = ltb-false k (meaning table_rule t).most p.1;
        small = ltb-false most_number k p.0;
        cap = meaning (cap_rule table_rule) cap;
        is_cap = plain;
        counts = e;
      } in
      (file_table, subst (λ m. CountCapped m k offers n) means capped)

  pub refuses : (k : ℕ) (offers : List ℕ) (fault : RuleFault) → Err fault ≡ cap_made table_rule t k → (r : Result ℕ EnforcerFault) (y : EnforcerFault) → r ≡ Err y → y ≡ Fault.Limit fault
      → FileCount file k offers table work r table_after work_after
  unfolding file_table
  refuses k offers fault not_made r y e f =
      rw (e, f) (file_table, subst (λ m. NoCap m k fault) means (no_cap t k fault few not_made))
