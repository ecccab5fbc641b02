-- Nodes that are appended change nothing about the earlier ones.
use Rattle.std.proofs.Common.{◌≡◌, ℕ, ◌<◌, ltb, List, ◌++◌, length, arith}
use lib.ListN.{get_or-append}
use Rattle.std.proofs.lemmas.Bool.{ltb-true, lt-ltb}
use Rattle.property.specs.Checks.{names}
use Rattle.property.specs.Closing.{closes}
use Rattle.property.specs.Drafts.{AllNamed}
use Rattle.property.specs.Nodes.{Node, Nothing, node}
use Rattle.property.specs.Sized.{NamesEarlier}
use Rattle.property.proofs.Closed.{all_weaker, closes_before}

pub node_append : (nodes more : List Node) (n : ℕ) → n < length nodes → node (nodes ++ more) n ≡ node nodes n
node_append nodes more n h = get_or-append nodes more Nothing n h

all_named : (nodes : List Node) → NamesEarlier nodes → AllNamed nodes
all_named nodes ok n h =
    all_weaker (λ m. ltb m n) (λ m. ltb m (length nodes)) (λ m e. lt-ltb m (length nodes) (let l : m < n = ltb-true m n e in omega arith)) (names (node nodes n)) (ok n h)

pub closes_append : (nodes more : List Node) → NamesEarlier nodes → (n : ℕ) → n < length nodes → closes (nodes ++ more) n ≡ closes nodes n
closes_append nodes more ok n h = closes_before nodes more (all_named nodes ok) n h
