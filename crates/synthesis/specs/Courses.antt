-- A course, and where its letters lead.
use Rattle.std.specs.Prelude.{◌≡◌, ℕ, ◌<◌, ◌≤◌, List, length, slice_index, slice_index_or}
use Rattle.property.specs.Nodes.{Node}
use Rattle.property.specs.Placed.{nodes_in}
use Rattle.property.specs.Sized.{most_size}
use Rattle.property.specs.Sizes.{size}
use Rattle.places.specs.Loops.{Loop}
use Rattle.places.specs.declared.outcome.Outcome.{Outcome}
use Rattle.places.specs.declared.outcome.Outcome.TheVariants.{Dead}
use Rattle.synthesis.specs.declared.course.CheckedFile.{CheckedFile}
use Rattle.synthesis.specs.declared.course.Course.{Course}
pub use Rattle.synthesis.specs.Kept.{Grounds, OnesBefore, OnesKept, StartsBefore, StartsKept, bit, course, loop_in, round}

abbrev pub checked_nodes : CheckedFile → List Node
checked_nodes f = nodes_in f.file.now f.nodes.now

abbrev pub nodes_of : Course → List Node
nodes_of c = checked_nodes c.checked

abbrev pub letters_of : Course → List ℕ
letters_of c = c.checked.letters.now

-- the loop of the property
abbrev pub loop_of : Course → Loop
loop_of c = loop_in c.checked.file.now c.checked.nodes.now

-- p is a place of a node whose size is kept as it is
pub record PlaceOf (c : Course) (n p : ℕ) : Type 0 where
  pub within : n < length (nodes_of c)
  pub few : size (nodes_of c) n ≤ most_size
  pub inside : p < size (nodes_of c) n

-- where each letter leads from the place p of the node n
abbrev pub Row : Course → ℕ → ℕ → List Outcome → Type 0
Row c n p out = (j : ℕ) → j < length (letters_of c) → slice_index_or out j Dead ≡ (course (nodes_of c) n).step p (slice_index (letters_of c) j)
