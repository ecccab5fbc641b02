-- The loop of a node of kind 6 or 7: a Lap goes round the walk of its node, an All round two loops side by side.
use Rattle.std.specs.Prelude.{ℕ, ◌+◌, ◌*◌, ◌/◌, ◌%◌, max, List, Some, None, Option}
use Rattle.property.specs.Nodes.{Node, Nothing, Choice, Sequence, Both, Lap, All, node}
use Rattle.property.specs.Numbered.{by_number}
use Rattle.places.specs.Loops.{Loop}
use Rattle.places.specs.Walks.{Outcome, Dead, Done, At, Walk, walk}

-- where an outcome of the walk leads in a lap from the boundary s: a trace comes back to it
abbrev pub again : ℕ → Outcome → Option ℕ
again s Dead = None
again s Done = Some s
again s (At p) = Some p

-- with one place where the walk has none; no letter is taken where the walk starts at no place
abbrev pub lap_from : Walk → Outcome → Loop
lap_from w Dead = record { size = max 1 w.size; boundary = 0; next = λ p l. None }
lap_from w Done = record { size = max 1 w.size; boundary = 0; next = λ p l. None }
lap_from w (At s) = record { size = max 1 w.size; boundary = s; next = λ p l. again s (w.step p l) }

abbrev pub lap_loop : Walk → Loop
lap_loop w = lap_from w w.start

-- a place p of the first and q of the second, of k places, are the place p * k + q
abbrev pub pair : ℕ → Option ℕ → Option ℕ → Option ℕ
pair k None o = None
pair k (Some p) None = None
pair k (Some p) (Some q) = Some (p * k + q)

abbrev pub all_loop : Loop → Loop → Loop
all_loop a b = record {
  size = a.size * b.size;
  boundary = a.boundary * b.size + b.boundary;
  next = λ p l. pair b.size (a.next (p / b.size) l) (b.next (p % b.size) l);
}

-- one place, and no way on
abbrev pub still : Loop
still = record { size = 1; boundary = 0; next = λ p l. None }

-- where `loops` has the loops of the earlier nodes; a node of kinds 2 to 5 has none
abbrev pub loop_by : List Node → (ℕ → Loop) → Node → Loop
loop_by nodes loops Nothing = still
loop_by nodes loops (Choice bs) = still
loop_by nodes loops (Sequence a b) = still
loop_by nodes loops (Both a b) = still
loop_by nodes loops (Lap a) = lap_loop (walk nodes a)
loop_by nodes loops (All a b) = all_loop (loops a) (loops b)

-- the loop of a node; `loop_is` is its equation
unfoldable pub loop : List Node → ℕ → Loop
loop nodes = by_number still (λ loops n. loop_by nodes loops (node nodes n))
