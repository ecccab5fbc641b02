-- The calls that offer letters one after the other, and where among them the cycles begin.
use Rattle.std.specs.Prelude.{◌≡◌, ℕ, Bool, true, false, cond, not, List, [], ◌∷◌, ◌++◌, ◌==◌}
use Rattle.letters.specs.Letters.{end}
use Rattle.guard.specs.Runs.{Event, in_cycle, is_call}
use Rattle.guard.specs.declared.runs.Call.{Call}
use Rattle.guard.specs.declared.runs.Call.TheVariants.{Begin, Act, Close}

-- the end is offered by a close, any other byte by an act
abbrev pub offered : ℕ → ℕ → Call
offered room a = cond (a == end) (Close room) (Act a room)

-- the calls for offers, where `was` says whether a cycle is open; after an offer one is open unless it was the end
unfoldable pub calls_from : Bool → ℕ → List ℕ → List Call
calls_from was room [] = []
calls_from was room (a ∷ more) = cond was [] (Begin ∷ []) ++ offered room a ∷ calls_from (not (a == end)) room more

-- from a guard at rest
abbrev pub calls_of : ℕ → List ℕ → List Call
calls_of room offers = calls_from false room offers

abbrev pub is_begin : Call → Bool
is_begin Begin = true
is_begin (Act a room) = false
is_begin (Close room) = false

-- A begin is made exactly where no cycle is open, and each call is one that the guard's state takes.
pub record BeginsAtRest (es : List Event) : Type 0 where
  pub begins : (before after : List Event) (e : Event) → es ≡ before ++ e ∷ after → is_begin e.call ≡ not (in_cycle false before)
  pub taken : (before after : List Event) (e : Event) → es ≡ before ++ e ∷ after → is_call e.reply ≡ true
