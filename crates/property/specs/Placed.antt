-- What a place holds, and what reading a property leaves in it and in the alphabet.
use Rattle.std.specs.Prelude.{◌≡◌, ℕ, Bool, List, [], ◌∷◌, map, length, take, Ok, Err, Result}
use Rattle.std.specs.List.{range_with_len}
use Rattle.letters.specs.Declarations.{letters_of}
use Rattle.letters.specs.declared.alphabet.Alphabet.{Alphabet}
use Rattle.records.specs.Readings.{Item, reading}
use Rattle.property.specs.declared.fault.PropertyFault.{PropertyFault}
use Rattle.property.specs.declared.node.Node.{Node}
use Rattle.property.specs.declared.place.Nodes.{Nodes}
use Rattle.property.specs.Checks.{Parts, alphabet_of}
use Rattle.property.specs.Closing.{closes}
use Rattle.property.specs.Meant.{all_meant}
use Rattle.property.specs.Nodes as N
use Rattle.property.specs.Sized.{cut}
use Rattle.property.specs.Sizes.{size}
use Rattle.property.specs.Sound.{Sound}

-- the nodes as the program has them
abbrev pub stored : Nodes → List Node
stored place = take place.count place.nodes

-- the nodes that they stand for
abbrev pub nodes_in : List ℕ → Nodes → List N.Node
nodes_in file place = all_meant file (stored place)

abbrev pub closing_in : Nodes → List Bool
closing_in place = take place.count place.closing

abbrev pub sizes_in : Nodes → List ℕ
sizes_in place = take place.count place.sizes

-- the size of each node in order, as it is kept
unfoldable pub sizes_of : List N.Node → List ℕ
sizes_of nodes = map (λ n. cut (size nodes n)) (range_with_len 0 (length nodes))

-- of each node in order whether it closes
unfoldable pub closings : List N.Node → List Bool
closings nodes = map (λ n. closes nodes n) (range_with_len 0 (length nodes))

-- the offset of the last record, or `none` where there is no record
unfoldable pub last_offset : ℕ → List Item → ℕ
last_offset none [] = none
last_offset none (i ∷ is) = last_offset i.offset is

abbrev pub Emptied : Nodes → Type 0
Emptied place = (stored place ≡ []) × (closing_in place ≡ []) × (place.last ≡ 0) × (sizes_in place ≡ [])

-- the parts of a property, in a place; they are sound
pub record HoldsParts (file : List ℕ) (parts : Parts) (place : Nodes) : Type 0 where
  pub nodes : nodes_in file place ≡ parts.nodes
  pub closing : closing_in place ≡ closings parts.nodes
  pub sizes : sizes_in place ≡ sizes_of parts.nodes
  pub last : place.last ≡ last_offset 0 (reading file).items
  pub sound : Sound (alphabet_of parts) parts.nodes

-- success, or the fault
abbrev pub answer : Result Parts PropertyFault → Result (Unit {0}) PropertyFault
answer (Ok parts) = Ok tt
answer (Err fault) = Err fault

-- a refusal leaves the alphabet as it was
abbrev pub AlphabetAfter : Result Parts PropertyFault → Alphabet → Alphabet → Type 0
AlphabetAfter (Ok parts) before later = letters_of later ≡ alphabet_of parts
AlphabetAfter (Err fault) before later = later ≡ before

-- a refusal empties the place
abbrev pub PlaceAfter : List ℕ → Result Parts PropertyFault → Nodes → Type 0
PlaceAfter file (Ok parts) place = HoldsParts file parts place
PlaceAfter file (Err fault) place = Emptied place
