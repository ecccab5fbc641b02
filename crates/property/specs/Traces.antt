-- The traces of a property: a constructor for each way to be one.
use Rattle.std.specs.Prelude.{◌≡◌, ℕ, ◌-◌, ◌<◌, List, [], ◌∷◌, ◌++◌, length}
use Rattle.property.specs.Nodes.{Node, Nothing, Choice, Sequence, Both, Lap, All, node, Branch}

pub data Trace (nodes : List Node) : ℕ → List ℕ → Type 0 where
  -- the empty list only
  nothing : {n : ℕ} → n < length nodes → node nodes n ≡ Nothing → Trace nodes n []
  -- a branch's letter, then a trace of its node
  choice : {n l m : ℕ} {bs : List (ℕ × ℕ)} {t : List ℕ} → node nodes n ≡ Choice bs → Branch bs l m → Trace nodes m t → Trace nodes n (l ∷ t)
  -- a trace of the first joined to one of the second
  sequence : {n a b : ℕ} {s t : List ℕ} → node nodes n ≡ Sequence a b → Trace nodes a s → Trace nodes b t → Trace nodes n (s ++ t)
  -- a trace of each
  both : {n a b : ℕ} {t : List ℕ} → node nodes n ≡ Both a b → Trace nodes a t → Trace nodes b t → Trace nodes n t
  all : {n a b : ℕ} {t : List ℕ} → node nodes n ≡ All a b → Trace nodes a t → Trace nodes b t → Trace nodes n t
  -- any number of its node's traces joined, also none
  no_lap : {n a : ℕ} → node nodes n ≡ Lap a → Trace nodes n []
  lap : {n a : ℕ} {s t : List ℕ} → node nodes n ≡ Lap a → Trace nodes a s → Trace nodes n t → Trace nodes n (s ++ t)

-- some further list, possibly empty, completes the list to a trace
abbrev pub Beginning : List Node → ℕ → List ℕ → Type 0
Beginning nodes n t = (u : List ℕ) × Trace nodes n (t ++ u)

-- the property is the last node
abbrev pub last_node : List Node → ℕ
last_node nodes = length nodes - 1

abbrev pub PropertyTrace : List Node → List ℕ → Type 0
PropertyTrace nodes t = Trace nodes (last_node nodes) t

abbrev pub PropertyBeginning : List Node → List ℕ → Type 0
PropertyBeginning nodes t = Beginning nodes (last_node nodes) t
