-- The numbers of a guard's refusals.
use Rattle.std.specs.Prelude.{ℕ}
use Rattle.guard.specs.declared.refusal.Refusal.{Refusal}
use Rattle.guard.specs.declared.refusal.Refusal.TheVariants.{NotLive, NoLetter, EndOffered, Full, Short}

abbrev pub refusal_number : Refusal → ℕ
refusal_number NotLive = 20
refusal_number NoLetter = 21
refusal_number EndOffered = 22
refusal_number Full = 23
refusal_number Short = 24
