-- A letter outside the alphabet leads nowhere.
use Rattle.std.proofs.Common.{◌≡◌, ℕ, suc, ◌-◌, ◌/◌, ◌%◌, ◌<◌, Bool, true, false, cond, ltb, List, None, sym, refl, ap, ◌∙◌, subst, inl, inr}
use Rattle.letters.specs.Alphabets.{among}
use Rattle.property.specs.Nodes.{Node, Nothing, Choice, Sequence, Both, Lap, All, node}
use Rattle.property.specs.Numbered.{before}
use Rattle.property.specs.Sizes.{in_family}
use Rattle.property.specs.Sound.{Sound}
use Rattle.property.proofs.Numbering.{from_earlier}
use Rattle.places.specs.Laps.{again, lap_from, pair, still, loop, loop_by}
use Rattle.places.specs.Loops.{Loop}
use Rattle.places.specs.Walks.{Outcome, Dead, Done, At, Walk, then_second, meet, shift, Member, Branches, Whole, offset, locate, enter_target, step_member, member_of, nothing_walk, sequence_walk, both_walk, walk, walk_by}
use Rattle.places.proofs.Branches.{target_none, sound_as}
use Rattle.places.proofs.Equations.{before_all, walk_is, loop_is}
use Rattle.places.proofs.Traces.{choice_or_whole, branches_choice, whole_not_branches}

module _ (alphabet : List ℕ) (nodes : List Node) (sound : Sound alphabet nodes) where
  abbrev pub Heeds : Walk → Type 0
  Heeds w = (p l : ℕ) → among l alphabet ≡ false → w.step p l ≡ Dead

  sequence_heeds : (a b : Walk) → Heeds a → Heeds b → Heeds (sequence_walk a b)
  sequence_heeds a b ha hb p l out = go (ltb p b.size)
    where
      go : (x : Bool) → cond x (b.step p l) (then_second b (a.step (p - b.size) l)) ≡ Dead
      go true = hb p l out
      go false = ap (λ o. then_second b o) (ha (p - b.size) l out)

  both_heeds : (a b : Walk) → Heeds a → Heeds (both_walk a b)
  both_heeds a b ha p l out = ap (λ o. meet b.size o (b.step (p % b.size) l)) (ha (p / b.size) l out)

  member_heeds : (walks : ℕ → Walk) → ((m : ℕ) → Heeds (walks m)) → (is_member : ℕ → Bool) (m p l : ℕ) → among l alphabet ≡ false
      → (x : Member) → member_of (walks m) (node nodes m) ≡ x → step_member is_member (λ k. member_of (walks k) (node nodes k)) m p l x ≡ Dead
  member_heeds walks each is_member m p l out (Branches bs) e =
      ap (λ k. enter_target is_member (λ k. member_of (walks k) (node nodes k)) k)
      (target_none alphabet nodes m 0 bs l (sound_as alphabet nodes sound m (Choice bs) (branches_choice (walks m) (node nodes m) bs e)) out)
  member_heeds walks each is_member m p l out (Whole w) e = elim (choice_or_whole (walks m) (node nodes m)) [
    | inl c ↦ absurd (whole_not_branches w c.0 (sym e ∙ ap (λ x. member_of (walks m) x) c.1))
    | inr g ↦ let same : walks m ≡ w = cc in ap (λ o. shift (offset is_member (λ k. member_of (walks k) (node nodes k)) m) o) (whole same)
  ]
    where
      whole : walks m ≡ w → w.step (p - offset is_member (λ k. member_of (walks k) (node nodes k)) m) l ≡ Dead
      whole same = subst (λ v. Heeds v) same (each m) _ l out

  heeds_by : (walks : ℕ → Walk) → ((m : ℕ) → Heeds (walks m)) → (n : ℕ) (x : Node) → Heeds (walk_by nodes walks n x)
  heeds_by walks each n Nothing p l out = refl
  heeds_by walks each n (Choice bs) p l out = member_heeds walks each (λ m. in_family nodes n m) (locate (λ m. in_family nodes n m) (λ k. member_of (walks k) (node nodes k)) (suc n) p) p l out _ refl
  heeds_by walks each n (Sequence a b) p l out = sequence_heeds (walks a) (walks b) (each a) (each b) p l out
  heeds_by walks each n (Both a b) p l out = both_heeds (walks a) (walks b) (each a) p l out
  heeds_by walks each n (Lap a) p l out = refl
  heeds_by walks each n (All a b) p l out = refl

  pub walk_heeds : (n : ℕ) → Heeds (walk nodes n)
  walk_heeds = from_earlier (λ n. Heeds (walk nodes n)) step
    where
      step : (n : ℕ) → ((m : ℕ) → m < n → Heeds (walk nodes m)) → Heeds (walk nodes n)
      step n ih = subst (λ w. Heeds w) (sym (walk_is nodes n)) (heeds_by (before nothing_walk n (λ m. walk nodes m)) (before_all Heeds nothing_walk n (λ m. walk nodes m) (λ p l out. refl) ih) n (node nodes n))

  abbrev pub LoopHeeds : Loop → Type 0
  LoopHeeds r = (p l : ℕ) → among l alphabet ≡ false → r.next p l ≡ None

  lap_heeds : (w : Walk) → Heeds w → (o : Outcome) → LoopHeeds (lap_from w o)
  lap_heeds w h Dead p l out = refl
  lap_heeds w h Done p l out = refl
  lap_heeds w h (At s) p l out = ap (λ o. again s o) (h p l out)

  loop_heeds_by : (loops : ℕ → Loop) → ((m : ℕ) → LoopHeeds (loops m)) → (x : Node) → LoopHeeds (loop_by nodes loops x)
  loop_heeds_by loops each Nothing p l out = refl
  loop_heeds_by loops each (Choice bs) p l out = refl
  loop_heeds_by loops each (Sequence a b) p l out = refl
  loop_heeds_by loops each (Both a b) p l out = refl
  loop_heeds_by loops each (Lap a) p l out = lap_heeds (walk nodes a) (walk_heeds a) (walk nodes a).start p l out
  loop_heeds_by loops each (All a b) p l out = ap (λ o. pair (loops b).size o ((loops b).next (p % (loops b).size) l)) (each a (p / (loops b).size) l out)

  pub loop_heeded : (n : ℕ) → LoopHeeds (loop nodes n)
  loop_heeded = from_earlier (λ n. LoopHeeds (loop nodes n)) step
    where
      step : (n : ℕ) → ((m : ℕ) → m < n → LoopHeeds (loop nodes m)) → LoopHeeds (loop nodes n)
      step n ih = subst (λ r. LoopHeeds r) (sym (loop_is nodes n)) (loop_heeds_by (before still n (λ m. loop nodes m)) (before_all LoopHeeds still n (λ m. loop nodes m) (λ p l out. refl) ih) (node nodes n))
