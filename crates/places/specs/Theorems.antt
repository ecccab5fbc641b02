-- What is shown of the places of sound nodes.
use Rattle.std.specs.Prelude.{◌≡◌, ℕ, ◌<◌, true, false, ◌↔◌, List, length}
use Rattle.property.specs.Nodes.{Node, node, is_loop}
use Rattle.property.specs.Sizes as Sizes
use Rattle.property.specs.Sound.{Sound}
use Rattle.property.specs.Traces.{Trace, Beginning}
use Rattle.places.specs.Laps.{loop}
use Rattle.places.specs.Loops.{LeadsToLive, Fair}
use Rattle.places.specs.Walks.{Ends, walk}

-- a list is a trace of a node of kinds 2 to 5 exactly where the node's walk ends with it
abbrev pub WalksEndWithTraces : Type 0
WalksEndWithTraces =
    (alphabet : List ℕ) (nodes : List Node) → Sound alphabet nodes → (n : ℕ) → n < length nodes → is_loop (node nodes n) ≡ false
    → (t : List ℕ) → Trace nodes n t ↔ Ends (walk nodes n) t

-- a list is a beginning of a node of kind 6 or 7 exactly where it leads its loop to a live place
abbrev pub BeginningsLeadToLive : Type 0
BeginningsLeadToLive =
    (alphabet : List ℕ) (nodes : List Node) → Sound alphabet nodes → (n : ℕ) → n < length nodes → is_loop (node nodes n) ≡ true
    → (t : List ℕ) → Beginning nodes n t ↔ LeadsToLive (loop nodes n) t

-- a loop has as many places as its node's size says
abbrev pub PlacesAreSize : Type 0
PlacesAreSize =
    (alphabet : List ℕ) (nodes : List Node) → Sound alphabet nodes → (n : ℕ) → n < length nodes → is_loop (node nodes n) ≡ true
    → (loop nodes n).size ≡ Sizes.size nodes n

-- a table can be filled from the loop of each node of kind 6 or 7, the property's own among them
abbrev pub PlacesAreFair : Type 0
PlacesAreFair =
    (alphabet : List ℕ) (nodes : List Node) → Sound alphabet nodes → (n : ℕ) → n < length nodes → is_loop (node nodes n) ≡ true
    → Fair (loop nodes n) alphabet
