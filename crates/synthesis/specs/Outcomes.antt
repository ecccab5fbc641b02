-- Outcomes as they are kept, and how a Sequence and a Lap go on from those of their nodes.
use Rattle.std.specs.Prelude.{◌≡◌, ℕ, ◌≤◌, min, Bool, true, false, Some, None, Option}
use Rattle.property.specs.Sized.{most_size}
use Rattle.places.specs.declared.outcome.Outcome.{Outcome}
use Rattle.places.specs.declared.outcome.Outcome.TheVariants.{Dead, Done, At}
use Rattle.places.specs.Walks.{then_second}

-- a place over the most is kept as the most
abbrev pub kept : Outcome → Outcome
kept Dead = Dead
kept Done = Done
kept (At p) = At (min p most_size)

-- o has the kind of the outcome, and its place where k places are few
abbrev pub Like : ℕ → Outcome → Outcome → Type 0
Like k Dead o = o ≡ Dead
Like k Done o = o ≡ Done
Like k (At p) o = (q : ℕ) × (o ≡ At q) × (q ≤ most_size) × (k ≤ most_size → q ≡ p)

-- a Sequence, from the outcome of its first node; its second has k places and starts with s
abbrev pub after_first : ℕ → Outcome → Outcome → Outcome
after_first k s o = then_second (record { size = k; start = s; step = λ p l. Dead }) o

-- where a Lap starts, from where its node starts
abbrev pub lap_start : Outcome → Outcome
lap_start Dead = At 0
lap_start Done = At 0
lap_start (At s) = At s

-- a Lap, from where its node starts and the outcome of its node
abbrev pub lapped : Outcome → Outcome → Outcome
lapped Dead o = Dead
lapped Done o = Dead
lapped (At s) Dead = Dead
lapped (At s) Done = At s
lapped (At s) (At p) = At p

-- the following place of a loop, as an outcome
abbrev pub onto : Option ℕ → Outcome
onto None = Dead
onto (Some q) = At q

abbrev pub leads_on : Outcome → Bool
leads_on Dead = false
leads_on Done = true
leads_on (At p) = true
