-- The branches of sound nodes: each letter has one branch at most, which names an earlier node of kinds 2 to 5.
use Rattle.std.proofs.Common.{◌≡◌, ℕ, suc, ◌≤◌, Bool, true, false, cond, eqb, List, [], ◌∷◌, length, Some, None, sym, refl, ap, ◌∙◌, subst, inl, inr, arith}
use lib.ListN.{get_or-eq_default}
use Rattle.std.proofs.lemmas.Bool.{cases_lt, eqb-true, eq-eqb, ne_eqb, true≢false}
use Rattle.letters.specs.Alphabets.{among}
use Rattle.property.specs.Nodes.{Node, Nothing, Choice, node, Branch}
use Rattle.property.specs.Sound.{PlainEarlier, SoundBranches, SoundNode, Sound}
use Rattle.rules.proofs.Follows.{none_some}
use Rattle.places.specs.Walks.{target}

pub target_branch : (bs : List (ℕ × ℕ)) (l m : ℕ) → target bs l ≡ Some m → Branch bs l m
unfolding target
target_branch [] l m e = absurd (none_some e)
target_branch (b ∷ bs) l m e = go (λ h. target_branch bs l m h) (eqb b.0 l) refl
  where
    go : (target bs l ≡ Some m → Branch bs l m) → (x : Bool) → eqb b.0 l ≡ x → Branch (b ∷ bs) l m
    go ih true h = let z : Some b.1 ≡ Some m = ap (λ x. cond x (Some b.1) (target bs l)) (sym h) ∙ e in inl (eqb-true b.0 l h, (cc))
    go ih false h = inr (ih (ap (λ x. cond x (Some b.1) (target bs l)) (sym h) ∙ e))

module _ (alphabet : List ℕ) (nodes : List Node) where
  branch_above : (n k : ℕ) (bs : List (ℕ × ℕ)) (l m : ℕ) → SoundBranches alphabet nodes n k bs → Branch bs l m → k ≤ l
  branch_above n k [] l m s h = absurd h
  branch_above n k (b ∷ bs) l m s (inl h) = omega (arith, s.0, h.0)
  branch_above n k (b ∷ bs) l m s (inr h) = let r = branch_above n (suc b.0) bs l m s.3 h in omega (arith, s.0)

  pub branch_target : (n k : ℕ) (bs : List (ℕ × ℕ)) (l m : ℕ) → SoundBranches alphabet nodes n k bs → Branch bs l m → target bs l ≡ Some m
  unfolding target
  branch_target n k [] l m s h = absurd h
  branch_target n k (b ∷ bs) l m s (inl h) = ap (λ x. cond x (Some b.1) (target bs l)) (eq-eqb b.0 l h.0) ∙ ap Some h.1
  branch_target n k (b ∷ bs) l m s (inr h) =
      let r = branch_above n (suc b.0) bs l m s.3 h in
      ap (λ x. cond x (Some b.1) (target bs l)) (ne_eqb b.0 l (λ e. omega arith)) ∙ branch_target n (suc b.0) bs l m s.3 h

  -- a letter outside the alphabet has no branch
  pub target_none : (n k : ℕ) (bs : List (ℕ × ℕ)) (l : ℕ) → SoundBranches alphabet nodes n k bs → among l alphabet ≡ false → target bs l ≡ None
  unfolding target
  target_none n k [] l s out = refl
  target_none n k (b ∷ bs) l s out =
      ap (λ x. cond x (Some b.1) (target bs l)) (ne_eqb b.0 l (λ e. true≢false (sym s.1 ∙ ap (λ x. among x alphabet) e ∙ out)))
      ∙ target_none n (suc b.0) bs l s.3 out

  each_earlier : (n k : ℕ) (bs : List (ℕ × ℕ)) (l m : ℕ) → SoundBranches alphabet nodes n k bs → Branch bs l m → PlainEarlier nodes n m
  each_earlier n k [] l m s b = absurd b
  each_earlier n k (c ∷ bs) l m s (inl b) = subst (λ x. PlainEarlier nodes n x) b.1 s.2
  each_earlier n k (c ∷ bs) l m s (inr b) = each_earlier n (suc c.0) bs l m s.3 b

  module _ (sound : Sound alphabet nodes) where
    -- past the last number there is nothing to be sound
    pub sound_at : (n : ℕ) → SoundNode alphabet nodes n (node nodes n)
    sound_at n = elim (cases_lt n (length nodes)) [
      | inl h ↦ sound.each n h
      | inr h ↦ subst (λ x. SoundNode alphabet nodes n x) (sym (get_or-eq_default nodes Nothing h)) tt
    ]

    pub sound_as : (n : ℕ) (x : Node) → node nodes n ≡ x → SoundNode alphabet nodes n x
    sound_as n x e = subst (λ y. SoundNode alphabet nodes n y) e (sound_at n)

    pub branch_earlier : {n m : ℕ} {bs : List (ℕ × ℕ)} (l : ℕ) → node nodes n ≡ Choice bs → Branch bs l m → PlainEarlier nodes n m
    branch_earlier {n} {m} {bs} l e b = each_earlier n 0 bs l m (sound_as n (Choice bs) e) b
