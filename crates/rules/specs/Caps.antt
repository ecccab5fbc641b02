-- Caps as values, and what making one gives.
use Rattle.std.specs.Prelude.{ℕ, ◌+◌, ◌-◌, ◌*◌, ◌^◌, min, cond, ◌||◌, Ok, Err, Result, nat_lt}
use Rattle.rules.specs.Meaning.{Lawful, most_places}
use Rattle.rules.specs.Valued.{meaning, members}
use Rattle.rules.specs.Capped.{capped_with, capped, Same}
use Rattle.rules.specs.Faults.{most_number}
use Rattle.rules.specs.declared.rule.Rule.{Ghosts}
use Rattle.rules.specs.declared.cap.Cap.{Cap}
use Rattle.rules.specs.declared.fault.RuleFault.{RuleFault}
use Rattle.rules.specs.declared.fault.RuleFault.TheVariants.{Number, Places}

-- a number of 32 bits, the largest where it is larger
abbrev pub cut : ℕ → ℕ
cut n = min n (2 ^ 32 - 1)

abbrev pub cap_rule : {R : Type 0} → Ghosts R → Ghosts (Cap R)
cap_rule g = members (λ c. capped_with cut (meaning g c.below) c.k)

abbrev pub cap_of : {R : Type 0} → R → ℕ → Cap R
cap_of below k = record { below = below; k = k }

-- the number of a cap that is made without one
abbrev pub default_cap : ℕ
default_cap = most_number

-- refused over the largest number or under the most that is owed, and then with too many places
abbrev pub cap_made : {R : Type 0} → Ghosts R → R → ℕ → Result (Cap R) RuleFault
cap_made g below k =
    cond (nat_lt most_number k || nat_lt k (meaning g below).most) (Err Number)
    (cond (nat_lt most_places ((meaning g below).count * (k + 1))) (Err Places) (Ok (cap_of below k)))

abbrev pub CapLawful : {R : Type 0} → Ghosts R → Result (Cap R) RuleFault → Type 0
CapLawful g (Ok c) = Lawful (meaning (cap_rule g) c)
CapLawful g (Err e) = Unit {0}

-- the cap that was made means the cap of k over the rule below
abbrev pub CapPlain : {R : Type 0} → Ghosts R → R → ℕ → Result (Cap R) RuleFault → Type 0
CapPlain g below k (Ok c) = Same (meaning (cap_rule g) c) (capped (meaning g below) k)
CapPlain g below k (Err e) = Unit {0}
