-- The refusals of a rule's making.
use Rattle.std.specs.Prelude.{ℕ}
use Rattle.rules.specs.declared.fault.RuleFault.{RuleFault}
use Rattle.rules.specs.declared.fault.RuleFault.TheVariants.{Number, Places, Rows}

-- the largest number that a rule is made with
abbrev pub most_number : ℕ
most_number = 255

-- a number over the largest, or a cap under the most that is owed; more places than a rule has; rows that make no rule
abbrev pub rule_number : RuleFault → ℕ
rule_number Number = 16
rule_number Places = 17
rule_number Rows = 18
