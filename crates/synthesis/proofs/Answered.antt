-- What reading a property answered, and the answer for one alphabet as that for another.
use Rattle.std.proofs.Common.{◌≡◌, ℕ, List, length, Ok, Err, Result, sym, refl, ap, ◌∙◌, subst, arith}
use Rattle.letters.specs.declared.alphabet.Alphabet.{Alphabet}
use Rattle.property.specs.Checks.{Parts, checked}
use Rattle.property.specs.Placed.{answer, AlphabetAfter, PlaceAfter}
use Rattle.property.specs.declared.fault.PropertyFault.{PropertyFault}
use Rattle.property.specs.declared.place.Nodes.{Nodes}
use Rattle.synthesis.specs.declared.fault.SynthesisFault.{SynthesisFault}
use Rattle.synthesis.specs.declared.fault.SynthesisFault.TheVariants.{Property, TooLarge, TableMemory, WorkingMemory, Stuck}
use Rattle.synthesis.specs.Fitting.{Read}
use Rattle.synthesis.specs.Synthesis.{Lent, lent, Left, Refused, Synthesized, Synthesis}

passed : (o : Result Parts PropertyFault) → Ok tt ≡ answer o → (parts : Parts) × (o ≡ Ok parts)
passed (Ok parts) e = (parts, refl)
passed (Err fault) e = let z : ◌≡◌ {A = ℕ} 0 1 = cc in absurd (omega arith)

failed : (o : Result Parts PropertyFault) (fault : PropertyFault) → Err fault ≡ answer o → o ≡ Err fault
failed (Ok parts) fault e = let z : ◌≡◌ {A = ℕ} 0 1 = cc in absurd (omega arith)
failed (Err other) fault e = let same_fault : other ≡ fault = cc in ap Err same_fault

pub read_of : (file : List ℕ) (place : Nodes) (before after : Alphabet) → Ok tt ≡ answer (checked file)
    → AlphabetAfter (checked file) before after → PlaceAfter file (checked file) place → Read file place after
read_of file place before after e letters nodes =
    let p = passed (checked file) e in
    record {
      parts = p.0;
      passes = p.1;
      holds = subst (λ o. PlaceAfter file o place) p.1 nodes;
      letters = subst (λ o. AlphabetAfter o before after) p.1 letters;
    }

pub refused_of : (file : List ℕ) (fault : PropertyFault) → Err fault ≡ answer (checked file) → checked file ≡ Err fault
refused_of file fault e = failed (checked file) fault e

module _ (here there : Alphabet) (table table' work work' : List ℕ) where
  same : lent here table' work' ≡ lent here table work → lent there table' work' ≡ lent there table work
  same e = ap (λ l. lent there l.table l.work) e

  -- a refusal leaves any other alphabet as it was too
  pub left_with : (fault : SynthesisFault) → Left fault (lent here table work) (lent here table' work') → Left fault (lent there table work) (lent there table' work')
  left_with (Property fault) e = same e
  left_with (TooLarge at) e = same e
  left_with (TableMemory at) e = same e
  left_with (WorkingMemory at) e = same e
  left_with (Stuck at) e = record { alphabet = refl; table = e.table; work = e.work }

  pub made_with : (file : List ℕ) (rows : ℕ) → Synthesized file (lent here table work) rows (lent here table' work')
      → Synthesized file (lent there table work) rows (lent here table' work')
  made_with file rows s = record {
    parts = s.parts;
    at = s.at;
    fits = s.fits;
    free = s.free;
    alphabet = s.alphabet;
    table = s.table;
    work = s.work;
  }

-- the exit with a fault
pub exits : (file : List ℕ) (before after : Lent) (r : Result ℕ SynthesisFault) (given fault : SynthesisFault) → r ≡ Err given → given ≡ fault
    → Refused file (length before.table) (length before.work) fault × Left fault before after → Synthesis file before r after
exits file before after r given fault e same_fault left = subst (λ q. Synthesis file before q after) (sym (e ∙ ap Err same_fault)) left
