-- What has been read so far, in the program's hands.
use Rattle.std.specs.Prelude.{◌≡◌, ℕ, suc, ◌<◌, Bool, true, cond, not, ◌||◌, List, [], ◌∷◌, length, take, Some, None, Ok, Err, Option, Result, nat_lt}
use Rattle.letters.specs.Alphabets.{among}
use Rattle.property.specs.declared.declared.Declared.{Declared}
use Rattle.property.specs.declared.fault.PropertyFault.{PropertyFault}
use Rattle.property.specs.declared.place.Nodes.{Nodes}
use Rattle.property.specs.Checks.{Parts, named_earlier}
use Rattle.property.specs.Nodes.{Node, node}
use Rattle.property.specs.Placed.{nodes_in, closings}

abbrev pub declared_in : Declared → List ℕ
declared_in d = take d.count d.letters

abbrev pub parts : List ℕ → List Node → Parts
parts letters nodes = record { declared = letters; nodes = nodes }

abbrev pub parts_of : List ℕ → Declared → Nodes → Parts
parts_of file declared place = parts (declared_in declared) (nodes_in file place)

-- an answer, with the parts that are there on success
abbrev pub with_parts : Result (Unit {0}) PropertyFault → Parts → Result Parts PropertyFault
with_parts (Ok done) s = Ok s
with_parts (Err fault) s = Err fault

abbrev pub refused : Option PropertyFault → Result (Unit {0}) PropertyFault
refused None = Ok tt
refused (Some fault) = Err fault

-- each node names nodes of the list alone
abbrev pub AllNamed : List Node → Type 0
AllNamed nodes = (n : ℕ) → n < length nodes → named_earlier nodes (node nodes n) ≡ true

-- what holds of nodes and of which of them close while they are put one after the other
pub record Kept (nodes : List Node) (closing : List Bool) : Type 0 where
  pub exact : closing ≡ closings nodes
  pub named : AllNamed nodes

-- a letter that may not stand at a branch: not above the one before, or not in the alphabet
abbrev pub out : List ℕ → ℕ → ℕ → Bool
out alphabet least l = nat_lt l least || not (among l alphabet)

-- the index of the first such letter, counted from `index`
unfoldable pub first_out : List ℕ → ℕ → ℕ → List ℕ → Option ℕ
first_out alphabet least index [] = None
first_out alphabet least index (l ∷ ls) = cond (out alphabet least l) (Some index) (first_out alphabet (suc l) (suc index) ls)
