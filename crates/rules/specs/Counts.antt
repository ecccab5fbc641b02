-- Count rules as values, and what making one gives.
use Rattle.std.specs.Prelude.{◌≡◌, ℕ, ◌<◌, ◌≤◌, List, Ok, Err, Result}
use Rattle.rules.specs.Meaning.{Lawful}
use Rattle.rules.specs.Valued.{meaning, members}
use Rattle.rules.specs.Counted.{counted}
use Rattle.rules.specs.Faults.{most_number}
use Rattle.rules.specs.declared.rule.Rule.{Ghosts}
use Rattle.rules.specs.declared.count.Count.{Count}
use Rattle.rules.specs.declared.fault.RuleFault.{RuleFault}
use Rattle.rules.specs.declared.fault.RuleFault.TheVariants.{Number}

abbrev pub count_rule : Ghosts Count
count_rule = members (λ c. counted c.letters.now c.k)

-- refused exactly over the largest number, and else the rule of those letters and that number
abbrev pub CountMade : List ℕ → ℕ → Result Count RuleFault → Type 0
CountMade letters k (Ok c) = (k ≤ most_number) × (c.letters.now ≡ letters) × (c.k ≡ k)
CountMade letters k (Err e) = (most_number < k) × (e ≡ Number)

abbrev pub CountLawful : Result Count RuleFault → Type 0
CountLawful (Ok c) = Lawful (meaning count_rule c)
CountLawful (Err e) = Unit {0}
