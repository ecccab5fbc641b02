-- The test `in_family` tells the relation `Family`, whose members are no later than its node, and of kinds 2 to 5 as it is.
use Rattle.std.proofs.Common.{◌≡◌, ℕ, ◌<◌, ◌≤◌, true, false, List, ap, ◌∙◌, inl, inr, le_refl, eq-or-lt_of_le, arith}
use Rattle.property.specs.Nodes.{Node, Choice, node, Branch, is_loop}
use Rattle.property.specs.Sizes.{Family, itself, branch, in_family}
use Rattle.property.specs.Sound.{Sound}
use Rattle.property.proofs.Families.{branch_in_family, itself_in_family, tells}
use Rattle.places.proofs.Branches.{branch_earlier}

module _ (nodes : List Node) where
  pub family_more : {n m k : ℕ} {bs : List (ℕ × ℕ)} (l : ℕ) → Family nodes n m → node nodes m ≡ Choice bs → Branch bs l k → Family nodes n k
  family_more l itself e b = branch l e b itself
  family_more l (branch j e' b' f) e b = branch j e' b' (family_more l f e b)

  pub member_family : (n m : ℕ) → in_family nodes n m ≡ true → Family nodes n m
  member_family n m = tells nodes m n

  module _ (alphabet : List ℕ) (sound : Sound alphabet nodes) where
    pub family_member : {n m : ℕ} → Family nodes n m → in_family nodes n m ≡ true
    family_member (itself {n}) = itself_in_family nodes n
    family_member (branch {n} {k} {m} {bs} l e b f) = branch_in_family nodes n m l k bs e b (branch_earlier alphabet nodes sound l e b).0 (family_member f)

    family_le : {n m : ℕ} → Family nodes n m → m ≤ n
    family_le itself = le_refl _
    family_le (branch l e b f) = let lt = (branch_earlier alphabet nodes sound l e b).0 in let r = family_le f in omega arith

    family_plain : {n m : ℕ} → Family nodes n m → is_loop (node nodes n) ≡ false → is_loop (node nodes m) ≡ false
    family_plain itself p = p
    family_plain (branch l e b f) p = family_plain f (branch_earlier alphabet nodes sound l e b).1

    pub member_le : (n m : ℕ) → in_family nodes n m ≡ true → m ≤ n
    member_le n m i = family_le (member_family n m i)

    module _ (n : ℕ) (bs : List (ℕ × ℕ)) (e : node nodes n ≡ Choice bs) where
      pub member_plain : (m : ℕ) → in_family nodes n m ≡ true → is_loop (node nodes m) ≡ false
      member_plain m i = family_plain (member_family n m i) (ap (λ x. is_loop x) e)

      -- a member that is no Choice is earlier than the Choice
      pub member_earlier : (m : ℕ) → in_family nodes n m ≡ true → ((cs : List (ℕ × ℕ)) → node nodes m ≡ Choice cs → ⊥) → m < n
      member_earlier m i other = elim (eq-or-lt_of_le (member_le n m i)) [
        | inl q ↦ absurd (other bs (ap (λ v. node nodes v) q ∙ e))
        | inr h ↦ h
      ]
