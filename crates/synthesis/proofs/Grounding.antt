-- What a course's place has: its nodes and their sizes, by their numbers.
use Rattle.std.proofs.Common.{◌≡◌, ℕ, ◌<◌, ◌≤◌, ◌⊎◌, List, length, get_or, ap, ◌∙◌, inl, inr, arith, length-take}
use Rattle.std.proofs.lemmas.List.FromFn.{length-map-range_with_len, get_or-map-range_with_len}
use Rattle.std.proofs.lemmas.List.{length-map}
use Rattle.property.specs.Meant.{meant}
use Rattle.property.specs.Nodes as N
use Rattle.property.specs.Placed.{nodes_in, sizes_in, sizes_of, stored}
use Rattle.property.specs.Sized.{cut}
use Rattle.property.specs.Sizes.{size}
use Rattle.property.specs.declared.node.Node.{Node}
use Rattle.property.specs.declared.node.Node.TheVariants.{Sequence, Both, Lap, All}
use Rattle.property.specs.declared.place.Nodes.{Nodes}
use Rattle.places.proofs.Branches.{sound_as}
use Rattle.synthesis.specs.Kept.{Grounds}

module _ (file : List ℕ) (place : Nodes) where
  pub node_count : length (nodes_in file place) ≡ length (stored place)
  node_count = length-map (stored place) (meant file)

  pub few_nodes : length (nodes_in file place) ≤ 256
  few_nodes = omega (arith, node_count, length-take place.count place.nodes, place.within)

  -- the node that a node of the program stands for
  pub node_as : (n : ℕ) (x y : Node) → N.node (nodes_in file place) n ≡ meant file x → x ≡ y → N.node (nodes_in file place) n ≡ meant file y
  node_as n x y e f = e ∙ ap (meant file) f

  pub product_as : (n : ℕ) (x : Node) (a b : ℕ) → N.node (nodes_in file place) n ≡ meant file x → (x ≡ Both a b) ⊎ (x ≡ All a b)
      → (N.node (nodes_in file place) n ≡ N.Both a b) ⊎ (N.node (nodes_in file place) n ≡ N.All a b)
  product_as n x a b e (inl f) = inl (node_as n x (Both a b) e f)
  product_as n x a b e (inr f) = inr (node_as n x (All a b) e f)

  module _ (letters : List ℕ) (g : Grounds file place letters) where
    pub size_read : (xs : List ℕ) (n : ℕ) → xs ≡ sizes_in place → n < length (nodes_in file place) → get_or xs n 0 ≡ cut (size (nodes_in file place) n)
    unfolding sizes_of
    size_read xs n e h =
        ap (λ ys. get_or ys n 0) (e ∙ g.sizes)
        ∙ get_or-map-range_with_len (λ m. cut (size (nodes_in file place) m)) 0 (length (nodes_in file place)) n n 0 h (omega arith)

    pub size_count : (xs : List ℕ) → xs ≡ sizes_in place → length xs ≡ length (nodes_in file place)
    unfolding sizes_of
    size_count xs e = ap length (e ∙ g.sizes) ∙ length-map-range_with_len (λ m. cut (size (nodes_in file place) m)) 0 (length (nodes_in file place))

    -- a node names earlier ones
    pub sequence_earlier : (n a b : ℕ) → N.node (nodes_in file place) n ≡ N.Sequence a b → (a < n) × (b < n)
    sequence_earlier n a b e = let s = sound_as _ _ g.sound n (N.Sequence a b) e in (s.0.0, s.1.0)

    pub product_earlier : (n a b : ℕ) → (N.node (nodes_in file place) n ≡ N.Both a b) ⊎ (N.node (nodes_in file place) n ≡ N.All a b) → (a < n) × (b < n)
    product_earlier n a b (inl e) = let s = sound_as _ _ g.sound n (N.Both a b) e in (s.0.0, s.1.0)
    product_earlier n a b (inr e) = let s = sound_as _ _ g.sound n (N.All a b) e in (s.0.0, s.1.0)

    pub lap_earlier : (n a : ℕ) → N.node (nodes_in file place) n ≡ N.Lap a → a < n
    lap_earlier n a e = (sound_as _ _ g.sound n (N.Lap a) e).0.0

    -- so does the node that a node of the program stands for
    module _ (n : ℕ) (x : Node) (e : N.node (nodes_in file place) n ≡ meant file x) where
      pub sequence_names : (a b : ℕ) → x ≡ Sequence a b → (a < n) × (b < n)
      sequence_names a b f = sequence_earlier n a b (node_as n x (Sequence a b) e f)

      pub product_names : (a b : ℕ) → (x ≡ Both a b) ⊎ (x ≡ All a b) → (a < n) × (b < n)
      product_names a b f = product_earlier n a b (product_as n x a b e f)

      pub lap_names : (a : ℕ) → x ≡ Lap a → a < n
      lap_names a f = lap_earlier n a (node_as n x (Lap a) e f)
