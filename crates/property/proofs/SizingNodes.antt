-- The size of a program's node, by its kind, from the sizes kept of the earlier ones.
use Rattle.std.proofs.Common.{zip, take, length-take-le, ◌≡◌, ℕ, ◌+◌, ◌*◌, ◌<◌, ◌≤◌, max, Bool, true, false, cond, ltb, ◌⊎◌, List, [], ◌∷◌, length, get_or, set, sym, refl, ap, ◌∙◌, subst, ap₂, inl, inr, arith, get_or-set_other, get_or-set_same}
use lib.ListN.{get_or-map}
use Rattle.std.proofs.lemmas.List.{get_or_past, get_or-take}
use Rattle.std.proofs.lemmas.Bool.{and_parts, ltb-true}
use Rattle.property.specs.declared.node.Node.{Node}
use Rattle.property.specs.declared.node.Node.TheVariants.{Nothing, Choice, Sequence, Both, Lap, All}
use Rattle.property.specs.Checks.{names}
use Rattle.std.specs.List.{list_all}
use Rattle.property.specs.Meant.{meant, all_meant}
use Rattle.property.specs.Nodes as N
use Rattle.property.specs.Numbered.{before}
use Rattle.property.specs.Sized.{NamesEarlier, Kept, counted, cut, marked_sum}
use Rattle.property.specs.Sizes.{in_family, size, size_by, total, weight}
use Rattle.property.proofs.Families.{earlier_at, itself_in_family}
use Rattle.property.proofs.Numbering.{before_lt, by_number_is, lt_or_ge}
use Rattle.property.proofs.SizingSums.{cut_again, cut_lap, cut_product, cut_sum, cut_sum_left, marked_sum_is, marked_weight, total_cut}

two_below : (n a b : ℕ) → list_all (λ m. ltb m n) (a ∷ b ∷ []) ≡ true → (a < n) × (b < n)
two_below n a b e =
    let p = and_parts (ltb a n) _ e in
    let q = and_parts (ltb b n) true p.1 in
    (ltb-true a n p.0, ltb-true b n q.0)

one_below : (n a : ℕ) → list_all (λ m. ltb m n) (a ∷ []) ≡ true → a < n
one_below n a e = ltb-true a n (and_parts (ltb a n) true e).0

-- what a node counts, from a size that is kept alike
weighed : (x : Node) (a b : ℕ) → cut a ≡ cut b → cut (counted x a) ≡ cut (counted x b)
weighed Nothing a b h = h
weighed (Choice start count) a b h = refl
weighed (Sequence c d) a b h = h
weighed (Both c d) a b h = h
weighed (Lap c) a b h = h
weighed (All c d) a b h = h

pub weight_meant : (file : List ℕ) (f : ℕ → ℕ) (m : ℕ) (x : Node) → counted x (f m) ≡ weight f m (meant file x)
weight_meant file f m Nothing = refl
weight_meant file f m (Choice start count) = refl
weight_meant file f m (Sequence c d) = refl
weight_meant file f m (Both c d) = refl
weight_meant file f m (Lap c) = refl
weight_meant file f m (All c d) = refl

cut_cond : (b : Bool) (x y : ℕ) → cut x ≡ cut y → cut (cond b x 0) ≡ cut (cond b y 0)
cut_cond true x y e = e
cut_cond false x y e = refl

module _ (file : List ℕ) (nodes : List Node) where
  node_meant : (n : ℕ) (x : Node) → get_or nodes n Nothing ≡ x → N.node (all_meant file nodes) n ≡ meant file x
  node_meant n x e = get_or-map (meant file) nodes n Nothing ∙ ap (meant file) e

  -- the size of a node of a kind
  size_is : (n : ℕ) (x : Node) → get_or nodes n Nothing ≡ x
      → size (all_meant file nodes) n ≡ size_by (all_meant file nodes) (before 0 n (size (all_meant file nodes))) n (meant file x)
  size_is n x e =
      by_number_is 0 (λ sizes k. size_by (all_meant file nodes) sizes k (N.node (all_meant file nodes) k)) n
      ∙ ap (size_by (all_meant file nodes) (before 0 n (size (all_meant file nodes))) n) (node_meant n x e)

  -- a Choice stands before the end
  pub choice_within : (n start count : ℕ) → get_or nodes n Nothing ≡ Choice start count → n < length nodes
  choice_within n start count e = elim (lt_or_ge n (length nodes)) [
    | inl h ↦ h
    | inr h ↦ let z : Nothing ≡ Choice start count = sym (get_or_past nodes n Nothing h) ∙ e in cc
  ]

  -- the node after those whose sizes are kept
  module _ (sizes : List ℕ) (kept : Kept (all_meant file nodes) sizes (length sizes)) where
    abbrev known : ℕ → ℕ
    known = before 0 (length sizes) (size (all_meant file nodes))

    kept_known : (m : ℕ) → m < length sizes → get_or sizes m 0 ≡ cut (known m)
    kept_known m h = kept m h ∙ ap cut (sym (before_lt 0 (length sizes) (size (all_meant file nodes)) m h))

    pub nothing_size : get_or nodes (length sizes) Nothing ≡ Nothing → 0 ≡ cut (size (all_meant file nodes) (length sizes))
    nothing_size e = sym (ap cut (size_is (length sizes) Nothing e))

    module _ (start count : ℕ) (marked : List Bool) (is : get_or nodes (length sizes) Nothing ≡ Choice start count) (long : length sizes ≤ length nodes) (told : length sizes < length marked)
        (marks : (m : ℕ) → m < length marked → get_or marked m false ≡ in_family (all_meant file nodes) (length sizes) m) where
      abbrev counts : ℕ → ℕ
      counts m = cond (in_family (all_meant file nodes) (length sizes) m) (weight known m (N.node (all_meant file nodes) m)) 0

      earlier_counts : (m : ℕ) → m < length sizes → cut (marked_weight nodes sizes marked m) ≡ cut (counts m)
      earlier_counts m l =
          ap (λ b. cut (cond b (counted (get_or nodes m Nothing) (get_or sizes m 0)) 0)) (marks m (omega arith))
          ∙ cut_cond (in_family (all_meant file nodes) (length sizes) m) _ _
          (weighed (get_or nodes m Nothing) (get_or sizes m 0) (known m) (ap cut (kept_known m l) ∙ cut_again (known m))
          ∙ ap cut (weight_meant file known m (get_or nodes m Nothing) ∙ sym (ap (weight known m) (node_meant m (get_or nodes m Nothing) refl))))

      own_count : 1 ≡ counts (length sizes)
      own_count = sym (
          ap (λ b. cond b (weight known (length sizes) (N.node (all_meant file nodes) (length sizes))) 0) (itself_in_family (all_meant file nodes) (length sizes))
          ∙ ap (weight known (length sizes)) (node_meant (length sizes) (Choice start count) is))

      pub choice_size : cut (marked_sum (zip (zip nodes sizes) marked) + 1) ≡ cut (size (all_meant file nodes) (length sizes))
      unfolding total
      choice_size =
          ap (λ t. cut (t + 1)) (marked_sum_is nodes sizes marked long (omega arith) ∙ total_cut (marked_weight nodes sizes marked) counts (length sizes) earlier_counts)
          ∙ cut_sum_left (total counts (length sizes)) 1
          ∙ ap (λ own. cut (total counts (length sizes) + own)) own_count
          ∙ sym (ap cut (size_is (length sizes) (Choice start count) is))

    module _ (ok : NamesEarlier (all_meant file nodes)) where
      named_below : (x : Node) → get_or nodes (length sizes) Nothing ≡ x → list_all (λ m. ltb m (length sizes)) (names (meant file x)) ≡ true
      named_below x e = sym (ap (λ y. list_all (λ m. ltb m (length sizes)) (names y)) (node_meant (length sizes) x e)) ∙ earlier_at (all_meant file nodes) ok (length sizes)

      pub sequence_below : (a b : ℕ) → get_or nodes (length sizes) Nothing ≡ Sequence a b → (a < length sizes) × (b < length sizes)
      sequence_below a b e = two_below (length sizes) a b (named_below (Sequence a b) e)

      pub product_below : (a b : ℕ) → (get_or nodes (length sizes) Nothing ≡ Both a b) ⊎ (get_or nodes (length sizes) Nothing ≡ All a b) → (a < length sizes) × (b < length sizes)
      product_below a b (inl e) = two_below (length sizes) a b (named_below (Both a b) e)
      product_below a b (inr e) = two_below (length sizes) a b (named_below (All a b) e)

      pub lap_below : (a : ℕ) → get_or nodes (length sizes) Nothing ≡ Lap a → a < length sizes
      lap_below a e = one_below (length sizes) a (named_below (Lap a) e)

      pub sequence_size : (a b : ℕ) → get_or nodes (length sizes) Nothing ≡ Sequence a b → cut (get_or sizes a 0 + get_or sizes b 0) ≡ cut (size (all_meant file nodes) (length sizes))
      sequence_size a b e =
          let h = sequence_below a b e in
          ap₂ (λ x y. cut (x + y)) (kept_known a h.0) (kept_known b h.1) ∙ cut_sum (known a) (known b) ∙ sym (ap cut (size_is (length sizes) (Sequence a b) e))

      known_product : (a b : ℕ) → (get_or nodes (length sizes) Nothing ≡ Both a b) ⊎ (get_or nodes (length sizes) Nothing ≡ All a b) → size (all_meant file nodes) (length sizes) ≡ known a * known b
      known_product a b (inl e) = size_is (length sizes) (Both a b) e
      known_product a b (inr e) = size_is (length sizes) (All a b) e

      pub product_size : (a b : ℕ) → (get_or nodes (length sizes) Nothing ≡ Both a b) ⊎ (get_or nodes (length sizes) Nothing ≡ All a b)
          → cut (get_or sizes a 0 * get_or sizes b 0) ≡ cut (size (all_meant file nodes) (length sizes))
      product_size a b e =
          let h = product_below a b e in
          ap₂ (λ x y. cut (x * y)) (kept_known a h.0) (kept_known b h.1) ∙ cut_product (known a) (known b) ∙ sym (ap cut (known_product a b e))

      pub lap_size : (a : ℕ) → get_or nodes (length sizes) Nothing ≡ Lap a → max (get_or sizes a 0) 1 ≡ cut (size (all_meant file nodes) (length sizes))
      lap_size a e = ap (λ s. max s 1) (kept_known a (lap_below a e)) ∙ cut_lap (known a) ∙ sym (ap cut (size_is (length sizes) (Lap a) e))

-- the sizes of one node more are in place
pub kept_more : (nodes : List N.Node) (sizes : List ℕ) (n own : ℕ) → n < length sizes → own ≡ cut (size nodes n) → Kept nodes sizes n → Kept nodes (set sizes n own) (n + 1)
kept_more nodes sizes n own h e kept m l = elim (lt_or_ge m n) [
  | inl k ↦ get_or-set_other sizes n m own 0 (λ q. omega arith) ∙ kept m k
  | inr k ↦
      let at : n ≡ m = omega arith in
      subst (λ j. get_or (set sizes n own) j 0 ≡ cut (size nodes j)) at (get_or-set_same sizes n own 0 h ∙ e)
]

-- the first sizes alone
pub kept_first : (nodes : List N.Node) (sizes : List ℕ) (n : ℕ) → n ≤ length sizes → Kept nodes sizes n → Kept nodes (take n sizes) (length (take n sizes))
kept_first nodes sizes n h kept m l =
    let k : m < n = omega (arith, length-take-le n sizes h) in
    get_or-take n sizes m 0 k ∙ kept m k
