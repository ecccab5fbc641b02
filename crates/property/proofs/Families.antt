-- The test of a family tells exactly the relation.
use Rattle.std.proofs.Common.{◌≡◌, ℕ, ◌<◌, ◌≤◌, Bool, true, false, ◌||◌, eqb, ltb, List, [], ◌∷◌, map, length, sym, refl, ap, ◌∙◌, subst, inl, inr, arith}
use lib.ListN.{get_or-eq_default}
use Rattle.std.proofs.lemmas.Bool.{or_cases, or_left, or_right, and_parts, eqb-true, eq-eqb, ltb-true, false≢true}
use Rattle.property.specs.Checks.{names}
use Rattle.std.specs.List.{list_all}
use Rattle.property.specs.Nodes.{Node, Nothing, Choice, Sequence, Both, Lap, All, node, Branch}
use Rattle.property.specs.Numbered.{before}
use Rattle.property.specs.Sized.{NamesEarlier, FamilyTestIsExact}
use Rattle.property.specs.Sizes.{Family, itself, branch, some_branch, by_branches, in_family}
use Rattle.property.proofs.Numbering.{before_lt, before_ge, by_number_is, from_earlier, lt_or_ge}

-- a node past the last is Nothing
pub past_last : (nodes : List Node) (n : ℕ) → length nodes ≤ n → node nodes n ≡ Nothing
past_last nodes n h = get_or-eq_default nodes Nothing h

-- so the bound need not be asked for
pub earlier_at : (nodes : List Node) → NamesEarlier nodes → (n : ℕ) → list_all (λ m. ltb m n) (names (node nodes n)) ≡ true
earlier_at nodes ok n = elim (lt_or_ge n (length nodes)) [
  | inl h ↦ ok n h
  | inr h ↦ ap (λ x. list_all (λ m. ltb m n) (names x)) (past_last nodes n h)
]

pub branch_named : (test : ℕ → Bool) (bs : List (ℕ × ℕ)) (l k : ℕ) → list_all test (map (λ (b : ℕ × ℕ). b.1) bs) ≡ true → Branch bs l k → test k ≡ true
branch_named test [] l k e b = absurd b
branch_named test (c ∷ bs) l k e (inl b) = ap test (sym b.1) ∙ (and_parts (test c.1) _ e).0
branch_named test (c ∷ bs) l k e (inr b) = branch_named test bs l k (and_parts (test c.1) _ e).1 b

pub some_branch_true : (test : ℕ → Bool) (bs : List (ℕ × ℕ)) (l k : ℕ) → Branch bs l k → test k ≡ true → some_branch test bs ≡ true
unfolding some_branch
some_branch_true test [] l k h e = absurd h
some_branch_true test (b ∷ bs) l k (inl h) e = or_left (test b.1) (some_branch test bs) (ap test h.1 ∙ e)
some_branch_true test (b ∷ bs) l k (inr h) e = or_right (test b.1) (some_branch test bs) (some_branch_true test bs l k h e)

pub branch_some : (test : ℕ → Bool) (bs : List (ℕ × ℕ)) → some_branch test bs ≡ true → (l : ℕ) × (k : ℕ) × Branch bs l k × (test k ≡ true)
unfolding some_branch
branch_some test [] e = absurd (false≢true e)
branch_some test (b ∷ bs) e = elim (or_cases (test b.1) (some_branch test bs) e) [
  | inl h ↦ (b.0, b.1, inl (refl, refl), h)
  | inr h ↦ let r = branch_some test bs h in (r.0, r.1, inr r.2, r.3)
]

-- a test is met only by an earlier number
pub before_true : (n : ℕ) (test : ℕ → Bool) (m : ℕ) → before false n test m ≡ true → (m < n) × (test m ≡ true)
before_true n test m e = elim (lt_or_ge m n) [
  | inl h ↦ (h, sym (before_lt false n test m h) ∙ e)
  | inr h ↦ absurd (false≢true (sym (before_ge false n test m h) ∙ e))
]

module _ (nodes : List Node) where
  pub family_more : {n m k : ℕ} {bs : List (ℕ × ℕ)} (l : ℕ) → Family nodes n m → node nodes m ≡ Choice bs → Branch bs l k → Family nodes n k
  family_more l itself e b = branch l e b itself
  family_more l (branch j e' b' f) e b = branch j e' b' (family_more l f e b)

  pub in_family_is : (n m : ℕ) → in_family nodes n m ≡ (eqb n m || by_branches (before false n (λ k. in_family nodes k m)) (node nodes n))
  in_family_is n m = by_number_is false (λ reaches k. eqb k m || by_branches reaches (node nodes k)) n

  tells_node : (n m : ℕ) → ((k : ℕ) → k < n → in_family nodes k m ≡ true → Family nodes k m)
      → (x : Node) → node nodes n ≡ x → by_branches (before false n (λ k. in_family nodes k m)) x ≡ true → Family nodes n m
  tells_node n m ih Nothing q h = absurd (false≢true h)
  tells_node n m ih (Choice bs) q h =
      let r = branch_some (before false n (λ k. in_family nodes k m)) bs h in
      let s = before_true n (λ k. in_family nodes k m) r.1 r.3 in
      branch r.0 q r.2 (ih r.1 s.0 s.1)
  tells_node n m ih (Sequence a b) q h = absurd (false≢true h)
  tells_node n m ih (Both a b) q h = absurd (false≢true h)
  tells_node n m ih (Lap a) q h = absurd (false≢true h)
  tells_node n m ih (All a b) q h = absurd (false≢true h)

  -- the family of an earlier node that a branch names is in the family
  pub branch_in_family : (n m l k : ℕ) (bs : List (ℕ × ℕ)) → node nodes n ≡ Choice bs → Branch bs l k → k < n → in_family nodes k m ≡ true → in_family nodes n m ≡ true
  branch_in_family n m l k bs e b h f =
      in_family_is n m
      ∙ or_right (eqb n m) (by_branches (before false n (λ k. in_family nodes k m)) (node nodes n))
      (ap (by_branches (before false n (λ k. in_family nodes k m))) e
      ∙ some_branch_true (before false n (λ k. in_family nodes k m)) bs l k b
      (before_lt false n (λ k. in_family nodes k m) k h ∙ f))

  pub itself_in_family : (n : ℕ) → in_family nodes n n ≡ true
  itself_in_family n = in_family_is n n ∙ or_left (eqb n n) _ (eq-eqb n n refl)

  pub tells : (m n : ℕ) → in_family nodes n m ≡ true → Family nodes n m
  tells m = from_earlier (λ n. in_family nodes n m ≡ true → Family nodes n m) (λ n ih e. elim (or_cases (eqb n m) _ (sym (in_family_is n m) ∙ e)) [
    | inl h ↦ subst (λ x. Family nodes n x) (eqb-true n m h) itself
    | inr h ↦ tells_node n m ih (node nodes n) refl h
  ])

  module _ (ok : NamesEarlier nodes) where
    pub branch_earlier : {n m : ℕ} {bs : List (ℕ × ℕ)} (l : ℕ) → node nodes n ≡ Choice bs → Branch bs l m → m < n
    branch_earlier {n} {m} {bs} l e b =
        ltb-true m n (branch_named (λ k. ltb k n) bs l m (sym (ap (λ x. list_all (λ k. ltb k n) (names x)) e) ∙ earlier_at nodes ok n) b)

    pub family_le : {n m : ℕ} → Family nodes n m → m ≤ n
    family_le itself = omega arith
    family_le (branch {n = n} {k = k} l e b f) = let lt : k < n = branch_earlier l e b in let r = family_le f in omega arith

    told : {n m : ℕ} → Family nodes n m → in_family nodes n m ≡ true
    told {n} itself = itself_in_family n
    told {n} {m} (branch {k = k} {bs = bs} l e b f) = branch_in_family n m l k bs e b (branch_earlier l e b) (told f)

pub family_tested : FamilyTestIsExact
family_tested nodes ok n m = (tells nodes m n, told nodes ok)
