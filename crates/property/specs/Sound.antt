-- What holds of the nodes that pass the checks.
use Rattle.std.specs.Prelude.{◌≡◌, ℕ, suc, ◌<◌, ◌≤◌, true, false, List, [], ◌∷◌, length}
use Rattle.letters.specs.Alphabets.{among}
use Rattle.property.specs.Closing.{closes}
use Rattle.property.specs.Nodes.{Node, Nothing, Choice, Sequence, Both, Lap, All, node, is_loop}
use Rattle.property.specs.Traces.{last_node}

-- an earlier node of kinds 2 to 5, or of kinds 6 and 7
abbrev pub PlainEarlier : List Node → ℕ → ℕ → Type 0
PlainEarlier nodes n m = (m < n) × (is_loop (node nodes m) ≡ false)

abbrev pub LoopEarlier : List Node → ℕ → ℕ → Type 0
LoopEarlier nodes n m = (m < n) × (is_loop (node nodes m) ≡ true)

-- branches with strictly ascending letters of the alphabet, none below k, that name earlier nodes of kinds 2 to 5
abbrev pub SoundBranches : List ℕ → List Node → ℕ → ℕ → List (ℕ × ℕ) → Type 0
SoundBranches alphabet nodes n k [] = Unit {0}
SoundBranches alphabet nodes n k (b ∷ bs) =
    (k ≤ b.0) × (among b.0 alphabet ≡ true) × PlainEarlier nodes n b.1 × SoundBranches alphabet nodes n (suc b.0) bs

abbrev pub SoundNode : List ℕ → List Node → ℕ → Node → Type 0
SoundNode alphabet nodes n Nothing = Unit {0}
SoundNode alphabet nodes n (Choice bs) = SoundBranches alphabet nodes n 0 bs
SoundNode alphabet nodes n (Sequence a b) = PlainEarlier nodes n a × PlainEarlier nodes n b
SoundNode alphabet nodes n (Both a b) = PlainEarlier nodes n a × PlainEarlier nodes n b
SoundNode alphabet nodes n (Lap a) = PlainEarlier nodes n a × (closes nodes a ≡ true)
SoundNode alphabet nodes n (All a b) = LoopEarlier nodes n a × LoopEarlier nodes n b

-- each node is sound, there is one, and the last is of kind 6 or 7
pub record Sound (alphabet : List ℕ) (nodes : List Node) : Type 0 where
  pub each : (n : ℕ) → n < length nodes → SoundNode alphabet nodes n (node nodes n)
  pub some : 0 < length nodes
  pub property : is_loop (node nodes (last_node nodes)) ≡ true
