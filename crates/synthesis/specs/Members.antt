-- The members of a Choice's family, one after the other.
use Rattle.std.specs.Prelude.{◌≡◌, ℕ, suc, ◌-◌, ◌<◌, ◌≤◌, true, List, length, Some, None, Option, slice_index}
use Rattle.property.specs.Nodes.{Choice, node}
use Rattle.property.specs.Sized.{cut, most_size}
use Rattle.property.specs.Sizes.{in_family, size, weight}
use Rattle.places.specs.Walks.{enter_target, locate, shift, walk, member_of, offset}
use Rattle.places.specs.declared.outcome.Outcome.{Outcome}
use Rattle.synthesis.specs.declared.course.Course.{Course}
use Rattle.synthesis.specs.Courses.{PlaceOf, Row, course, nodes_of}

-- the first place of each node up to n in the family of n
abbrev pub OffsetsKept : Course → ℕ → List ℕ → Type 0
OffsetsKept c n offsets =
    (m : ℕ) → m ≤ n → slice_index offsets m ≡ offset (λ k. in_family (nodes_of c) n k) (λ k. member_of (walk (nodes_of c) k) (node (nodes_of c) k)) m

-- n is a Choice whose size is kept as it is
pub record SmallChoice (c : Course) (n : ℕ) : Type 0 where
  pub within : n < length (nodes_of c)
  pub few : size (nodes_of c) n ≤ most_size
  pub choice : (bs : List (ℕ × ℕ)) × (node (nodes_of c) n ≡ Choice bs)

-- what a node counts in a family, from its size as it is kept
abbrev pub weight_kept : Course → ℕ → ℕ
weight_kept c m = weight (λ k. cut (size (nodes_of c) k)) m (node (nodes_of c) m)

-- m is the member of the family of n that the place p belongs to, and k its first place
abbrev pub Found : Course → ℕ → ℕ → ℕ → ℕ → Type 0
Found c n p m k =
    (m ≡ locate (λ j. in_family (nodes_of c) n j) (λ j. member_of (walk (nodes_of c) j) (node (nodes_of c) j)) (suc n) p)
    × (k ≡ offset (λ j. in_family (nodes_of c) n j) (λ j. member_of (walk (nodes_of c) j) (node (nodes_of c) j)) m)

-- the node, if there is one, is one of the file's
abbrev pub OfFile : Course → Option ℕ → Type 0
OfFile c None = Unit {0}
OfFile c (Some m) = m < length (nodes_of c)

-- the node, if there is one, is in the family of n
abbrev pub OfFamily : Course → ℕ → Option ℕ → Type 0
OfFamily c n None = Unit {0}
OfFamily c n (Some m) = in_family (nodes_of c) n m ≡ true

-- r is where a family with these first places goes on that comes to the node, or to none
abbrev pub FamilyGoesOn : Course → List ℕ → Option ℕ → Outcome → Type 0
FamilyGoesOn c offsets to r =
    (n : ℕ) → SmallChoice c n → OffsetsKept c n offsets → OfFamily c n to
    → r ≡ enter_target (λ k. in_family (nodes_of c) n k) (λ k. member_of (walk (nodes_of c) k) (node (nodes_of c) k)) to

-- the place p of n belongs to the earlier node m, whose places begin with k
pub record Belongs (c : Course) (n p m k : ℕ) : Type 0 where
  pub earlier : m < n
  pub past : k ≤ p
  pub place : PlaceOf c m (p - k)
  pub leads : (l : ℕ) → (course (nodes_of c) n).step p l ≡ shift k ((course (nodes_of c) m).step (p - k) l)

-- the letters lead from the place as `out` says, or it belongs to an earlier node
abbrev pub PartOf : Course → ℕ → ℕ → List Outcome → Option (ℕ × ℕ) → Type 0
PartOf c n p out None = Row c n p out
PartOf c n p out (Some m) = Belongs c n p m.0 m.1
