-- Which letters lead on from the only place of a node, by the walks of the nodes that it names.
use Rattle.std.specs.Prelude.{ℕ, Bool, true, false, List, Some, None, Option, slice_index_or}
use Rattle.places.specs.declared.outcome.Outcome.{Outcome}
use Rattle.places.specs.declared.outcome.Outcome.TheVariants.{Dead, Done, At}

abbrev pub is_done : Outcome → Bool
is_done Dead = false
is_done Done = true
is_done (At p) = false

abbrev pub is_at : Outcome → Bool
is_at Dead = false
is_at Done = false
is_at (At p) = true

-- a node is named whose walk is done where it starts
abbrev pub ends_at : List Outcome → Option ℕ → Bool
ends_at starts None = false
ends_at starts (Some m) = is_done (slice_index_or starts m Dead)
