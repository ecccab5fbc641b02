-- The equations of what is defined by node numbers.
use Rattle.std.proofs.Common.{◌≡◌, ℕ, ◌<◌, false, List, sym, ap, ◌∙◌, subst, inl, inr}
use Rattle.std.proofs.lemmas.Bool.{cases_lt}
use Rattle.property.specs.Nodes.{Node, node}
use Rattle.property.specs.Numbered.{before}
use Rattle.property.specs.Closing.{closes, closes_by}
use Rattle.property.specs.Sizes.{size, size_by}
use Rattle.property.proofs.Numbering.{before_lt, before_ge, by_number_is}
use Rattle.places.specs.Laps.{still, loop, loop_by}
use Rattle.places.specs.Walks.{nothing_walk, walk, walk_by}

-- what holds of the default and of the earlier values holds of all
pub before_all : {A : Type 0} (P : A → Type 0) (d : A) (n : ℕ) (f : ℕ → A) → P d → ((m : ℕ) → m < n → P (f m)) → (m : ℕ) → P (before d n f m)
before_all P d n f base each m = elim (cases_lt m n) [
  | inl h ↦ subst P (sym (before_lt d n f m h)) (each m h)
  | inr h ↦ subst P (sym (before_ge d n f m h)) base
]

module _ (nodes : List Node) where
  pub walk_is : (n : ℕ) → walk nodes n ≡ walk_by nodes (before nothing_walk n (λ m. walk nodes m)) n (node nodes n)
  unfolding walk
  walk_is n = by_number_is nothing_walk (λ walks n. walk_by nodes walks n (node nodes n)) n

  pub loop_is : (n : ℕ) → loop nodes n ≡ loop_by nodes (before still n (λ m. loop nodes m)) (node nodes n)
  unfolding loop
  loop_is n = by_number_is still (λ loops n. loop_by nodes loops (node nodes n)) n

  pub size_is : (n : ℕ) → size nodes n ≡ size_by nodes (before 0 n (λ m. size nodes m)) n (node nodes n)
  size_is n = by_number_is 0 (λ sizes n. size_by nodes sizes n (node nodes n)) n

  -- the size of a node of a kind
  pub size_of_kind : (n : ℕ) (x : Node) → node nodes n ≡ x → size nodes n ≡ size_by nodes (before 0 n (λ m. size nodes m)) n x
  size_of_kind n x e = size_is n ∙ ap (λ y. size_by nodes (before 0 n (λ m. size nodes m)) n y) e

  pub closes_is : (n : ℕ) → closes nodes n ≡ closes_by nodes (before false n (λ m. closes nodes m)) (node nodes n)
  closes_is n = by_number_is false (λ closing n. closes_by nodes closing (node nodes n)) n
