use Rattle.std.proofs.Common.{◌≡◌, ℕ, ◌+◌, ◌*◌, ◌≤◌, ap₂, ◌∙◌, arith, rules}
use Rattle.rules.specs.Meaning.{most_places}
use Rattle.rules.specs.Valued.{meaning}
use Rattle.rules.specs.Caps.{cut}
use Rattle.rules.proofs.Capping.{cap_lawful, cap_same}
use Rattle.rules.proofs.cap.Cap.new.Goals as goal

keeps : (n : ℕ) → n ≤ most_places → cut n ≡ n
keeps n h = omega arith

pub returns : goal.returns
returns g c =
    let m = meaning g.R.Rule c.args.below in
    let k = c.args.k in
    let under : m.most ≤ k = omega (arith, c.most_owed.ensures) in
    let small : m.count * (k + 1) ≤ most_places = omega (arith, ap₂ (λ (n j : ℕ). n * (j + 1)) (c.from.ensures ∙ c.place_count.ensures) c.from-2.ensures) in
    record {
      exact = search rules;
      lawful = λ l. cap_lawful cut keeps m k l under small;
      plain = λ l. cap_same cut keeps m k l under small;
    }
