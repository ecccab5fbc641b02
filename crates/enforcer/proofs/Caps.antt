-- Caps over the rule of a table with few rows.
use Rattle.std.proofs.Common.{◌≡◌, ℕ, ◌+◌, ◌*◌, ◌≤◌, Bool, true, false, cond, ◌||◌, ltb, ◌⊎◌, List, Ok, Err, Result, refl, inl, inr, mul-le-mul, arith}
use Rattle.std.proofs.lemmas.Bool.{ltb-true, ltb-false, le-ltb}
use Rattle.rules.specs.Caps.{cap_rule, cap_of, cap_made, default_cap, CapLawful, CapPlain}
use Rattle.rules.specs.Faults.{most_number}
use Rattle.rules.specs.Meaning.{Meaning, Lawful, most_places}
use Rattle.rules.specs.Tables.{table_rule}
use Rattle.rules.specs.Valued.{meaning}
use Rattle.rules.specs.declared.cap.Cap.{Cap}
use Rattle.rules.specs.declared.fault.RuleFault.{RuleFault}
use Rattle.rules.specs.declared.fault.RuleFault.TheVariants.{Number, Places}
use Rattle.rules.specs.declared.table.Table.{Table}
use Rattle.guard.specs.declared.runs.Call.{Call}
use Rattle.guard.specs.declared.runs.Run.{Run}
use Rattle.guard.specs.Histories.{run_of, Told}
use Rattle.guard.specs.Runs.{Guarded}
use Rattle.property.specs.Sized.{most_size}
use Rattle.enforcer.specs.Enforcement.{RunsCapped, NoCap, LimitRefused}
use Rattle.enforcer.specs.Limited.{RunsLimited, UnderLimit}
use Rattle.enforcer.specs.declared.enforce.Limit.{Limit}
use Rattle.enforcer.specs.declared.enforce.Limit.TheVariants.{Standard, Letters}
use Rattle.enforcer.specs.declared.fault.EnforcerFault.{EnforcerFault}
use Rattle.enforcer.specs.declared.fault.EnforcerFault.TheVariants as Fault

-- a result that two tests refuse as a number, and a third one as too many places
module _ {X : Type 0} (x : X) where
  number_only : (a b c : Bool) (e : RuleFault) → Err e ≡ cond (a || b) (Err Number) (cond c (Err Places) (Ok x)) → (a ≡ false → c ≡ false) → (e ≡ Number) × ((a ≡ true) ⊎ (b ≡ true))
  number_only true b c e made few = (cc, inl refl)
  number_only false true c e made few = (cc, inr refl)
  number_only false false true e made few = let z : ◌≡◌ {A = ℕ} 0 1 = cc (few refl) in absurd (omega arith)
  number_only false false false e made few = let z : ◌≡◌ {A = ℕ} 0 1 = cc in absurd (omega arith)

  neither : (a b c : Bool) (y : X) → Ok y ≡ cond (a || b) (Err Number) (cond c (Err Places) (Ok x)) → (a ≡ false) × (b ≡ false)
  neither true b c y made = let z : ◌≡◌ {A = ℕ} 0 1 = cc in absurd (omega arith)
  neither false true c y made = let z : ◌≡◌ {A = ℕ} 0 1 = cc in absurd (omega arith)
  neither false false c y made = (refl, refl)

few_places : (count k : ℕ) → count ≤ most_size → ltb most_number k ≡ false → ltb most_places (count * (k + 1)) ≡ false
few_places count k few small =
    let h : k + 1 ≤ 256 = omega (arith, ltb-false most_number k small) in
    let p : count * (k + 1) ≤ most_size * 256 = mul-le-mul few h in
    le-ltb most_places (count * (k + 1)) (omega arith)

-- few places are never too many for a cap, so only its number is refused
pub no_cap : (t : Table) (k : ℕ) (e : RuleFault) → (meaning table_rule t).count ≤ most_size → Err e ≡ cap_made table_rule t k → NoCap (meaning table_rule t) k e
no_cap t k e few made =
    let p = number_only (cap_of t k) (ltb most_number k) (ltb k (meaning table_rule t).most) (ltb most_places ((meaning table_rule t).count * (k + 1))) e made (few_places (meaning table_rule t).count k few) in
    (p.0, elim p.1 [ inl over ↦ inl (ltb-true _ _ over) | inr under ↦ inr (ltb-true _ _ under) ])

-- the run under a cap that was made
pub capped_run : (t : Table) (k : ℕ) (cap : Cap Table) (calls : List Call) (x : Run) → Ok cap ≡ cap_made table_rule t k → CapLawful table_rule (Ok cap) → CapPlain table_rule t k (Ok cap)
    → Told (meaning (cap_rule table_rule) cap) calls x → (Lawful (meaning (cap_rule table_rule) cap) → Guarded (meaning (cap_rule table_rule) cap) (run_of (meaning (cap_rule table_rule) cap)))
    → RunsCapped (meaning table_rule t) k calls x
capped_run t k cap calls x made lawful plain told guarded =
    let p = neither (cap_of t k) (ltb most_number k) (ltb k (meaning table_rule t).most) (ltb most_places ((meaning table_rule t).count * (k + 1))) cap made in
    record {
      enough = ltb-false k (meaning table_rule t).most p.1;
      small = ltb-false most_number k p.0;
      cap = meaning (cap_rule table_rule) cap;
      is_cap = plain;
      lawful = lawful;
      runs = record { told = told; guarded = guarded lawful };
    }

-- what is answered under each limit
module _ (m : Meaning) (limit : Limit) (calls : List Call) where
  pub no_memory : (r : Result Run EnforcerFault) (y : EnforcerFault) → r ≡ Err y → y ≡ Fault.Memory → UnderLimit m limit calls r
  no_memory r y e f = rw (e, f) tt

  pub no_limit : (r : Result Run EnforcerFault) (y : EnforcerFault) (fault : RuleFault) → r ≡ Err y → y ≡ Fault.Limit fault → LimitRefused m limit fault → UnderLimit m limit calls r
  no_limit r y fault e f refused = rw (e, f) refused

  pub under_standard : (x : Run) → limit ≡ Standard → RunsCapped m default_cap calls x → RunsLimited m limit calls x
  under_standard x e runs = rw e runs

  pub under_letters : (k : ℕ) (x : Run) → limit ≡ Letters k → RunsCapped m k calls x → RunsLimited m limit calls x
  under_letters k x e runs = rw e runs

pub refused_letters : (m : Meaning) (limit : Limit) (k : ℕ) (fault : RuleFault) → limit ≡ Letters k → NoCap m k fault → LimitRefused m limit fault
refused_letters m limit k fault e none = rw e none
