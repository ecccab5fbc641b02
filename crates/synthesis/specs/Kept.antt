-- The walk of each node of a file, a loop's among them, and what is kept of the walks.
use Rattle.std.specs.Prelude.{◌≡◌, ℕ, ◌/◌, ◌%◌, ◌^◌, ◌<◌, ◌≤◌, Bool, cond, List, length, ◌==◌, slice_index, slice_index_or}
use Rattle.letters.specs.Alphabets.{most_letters}
use Rattle.property.specs.Nodes.{Node, node, is_loop}
use Rattle.property.specs.declared.place.Nodes.{Nodes}
use Rattle.property.specs.Placed.{nodes_in, sizes_in, sizes_of}
use Rattle.property.specs.Sizes.{size}
use Rattle.property.specs.Sound.{Sound}
use Rattle.property.specs.Traces.{last_node}
use Rattle.places.specs.Laps.{loop}
use Rattle.places.specs.Loops.{Loop}
use Rattle.places.specs.Walks.{Walk, walk}
use Rattle.places.specs.declared.outcome.Outcome.{Outcome}
use Rattle.places.specs.declared.outcome.Outcome.TheVariants.{Dead, At}
use Rattle.synthesis.specs.Fillable.{Fillable}
use Rattle.synthesis.specs.Outcomes.{Like, onto, leads_on}

-- a loop as a walk that is never done
abbrev pub round : Loop → Walk
round r = record { size = r.size; start = At r.boundary; step = λ p l. onto (r.next p l) }

-- the walk of a node of any kind
abbrev pub course : List Node → ℕ → Walk
course nodes n = cond (is_loop (node nodes n)) (round (loop nodes n)) (walk nodes n)

-- the loop of the property
abbrev pub loop_in : List ℕ → Nodes → Loop
loop_in file place = loop (nodes_in file place) (last_node (nodes_in file place))

-- what a course is made over: a place with the sound nodes of a file, and the alphabet's letters, of which a table can be filled
pub record Grounds (file : List ℕ) (place : Nodes) (letters : List ℕ) : Type 0 where
  pub sound : Sound letters (nodes_in file place)
  pub sizes : sizes_in place ≡ sizes_of (nodes_in file place)
  pub few_letters : length letters ≤ most_letters
  pub fillable : Fillable (loop_in file place) letters

-- where the walks of the nodes before n start
abbrev pub StartsBefore : List Node → List Outcome → ℕ → Type 0
StartsBefore nodes starts n = (m : ℕ) → m < n → Like (size nodes m) (course nodes m).start (slice_index_or starts m Dead)

abbrev pub StartsKept : List Node → List Outcome → Type 0
StartsKept nodes starts = StartsBefore nodes starts (length nodes)

-- whether the bit j of w is set
abbrev pub bit : ℕ → ℕ → Bool
bit w j = w / 2 ^ j % 2 == 1

-- which letters lead on from the only place of each node of size 1 before n
abbrev pub OnesBefore : List Node → List ℕ → List ℕ → ℕ → Type 0
OnesBefore nodes letters ones n =
    (m : ℕ) → m < n → size nodes m ≡ 1
    → (j : ℕ) → j < length letters → bit (slice_index ones m) j ≡ leads_on ((course nodes m).step 0 (slice_index letters j))

abbrev pub OnesKept : List Node → List ℕ → List ℕ → Type 0
OnesKept nodes letters ones = OnesBefore nodes letters ones (length nodes)
