-- The walk of a node of any kind, by its kind.
use Rattle.std.proofs.Common.{◌≡◌, ℕ, zero, suc, ◌+◌, ◌-◌, ◌/◌, ◌%◌, ◌<◌, ◌≤◌, Bool, true, false, cond, leb, List, length, Some, None, Option, sym, refl, ap, ◌∙◌, subst, ap₂, inl, inr, le_refl, arith}
use Rattle.std.proofs.lemmas.Bool.{cases_lt}
use Rattle.property.specs.Nodes.{Node, Nothing, Choice, Sequence, Both, Lap, All, node, is_loop}
use Rattle.property.specs.Numbered.{before}
use Rattle.property.specs.Sizes.{in_family, size, total}
use Rattle.property.specs.Sound.{Sound, PlainEarlier, LoopEarlier}
use Rattle.property.proofs.Numbering.{before_lt}
use Rattle.places.specs.Laps.{again, lap_from, pair, all_loop, still, loop, loop_by}
use Rattle.places.specs.Loops.{Loop}
use Rattle.places.specs.Walks.{Walk, walk, walk_by, nothing_walk, sequence_walk, both_walk, choice_walk, meet, shift, target, Member, Branches, Whole, places, offset, locate, enter, enter_member, enter_target, step_member, step_at, member_of}
use Rattle.places.specs.declared.outcome.Outcome.{Outcome}
use Rattle.places.specs.declared.outcome.Outcome.TheVariants.{Dead, Done, At}
use Rattle.places.proofs.Beginnings.{loop_told}
use Rattle.places.proofs.Branches.{target_branch, sound_as, branch_earlier}
use Rattle.places.proofs.Equations.{walk_is, loop_is}
use Rattle.places.proofs.Falling.{Below, Falls, below_more}
use Rattle.places.proofs.Sizes.{walk_size, loop_size}
use Rattle.places.proofs.Traces.{branches_choice, walk_told}
use Rattle.synthesis.specs.Kept.{course, round}
use Rattle.synthesis.specs.Outcomes.{lapped, onto}
pub use Rattle.synthesis.specs.Outcomes.{lap_start}

cond_le : (b : Bool) (x y k : ℕ) → x ≤ k → y ≤ k → cond b x y ≤ k
cond_le true x y k h g = h
cond_le false x y k h g = g

-- the families of two lists of members that agree up to n
module _ (is_member : ℕ → Bool) (f g : ℕ → Member) (n : ℕ) (same : (m : ℕ) → m ≤ n → f m ≡ g m) where
  pub offset_same : (m : ℕ) → m ≤ suc n → offset is_member f m ≡ offset is_member g m
  unfolding total
  offset_same zero h = refl
  offset_same (suc m) h = ap₂ (λ x y. x + cond (is_member m) (places y) 0) (offset_same m (omega arith)) (same m (omega arith))

  pub locate_same : (k p : ℕ) → k ≤ suc n → locate is_member f k p ≡ locate is_member g k p
  unfolding locate
  locate_same zero p h = refl
  locate_same (suc k) p h = ap₂ (λ x y. cond (leb x p) k y) (offset_same k (omega arith)) (locate_same k p (omega arith))

  enter_member_same : (m : ℕ) (x : Member) → m ≤ n → enter_member is_member f m x ≡ enter_member is_member g m x
  enter_member_same m (Branches bs) h = ap At (offset_same m (omega arith))
  enter_member_same m (Whole w) h = ap (λ k. shift k w.start) (offset_same m (omega arith))

  pub enter_same : (m : ℕ) → m ≤ n → enter is_member f m ≡ enter is_member g m
  enter_same m h = ap (λ x. enter_member is_member f m x) (same m h) ∙ enter_member_same m (g m) h

  enter_target_same : (o : Option ℕ) → ((k : ℕ) → o ≡ Some k → k ≤ n) → enter_target is_member f o ≡ enter_target is_member g o
  enter_target_same None h = refl
  enter_target_same (Some k) h = enter_same k (h k refl)

  step_member_same : (m p l : ℕ) (x : Member) → m ≤ n → ((bs : List (ℕ × ℕ)) (k : ℕ) → x ≡ Branches bs → target bs l ≡ Some k → k ≤ n)
      → step_member is_member f m p l x ≡ step_member is_member g m p l x
  step_member_same m p l (Branches bs) h leads = enter_target_same (target bs l) (λ k e. leads bs k refl e)
  step_member_same m p l (Whole w) h leads = ap (λ k. shift k (w.step (p - k) l)) (offset_same m (omega arith))

  locate_le : (k p : ℕ) → locate is_member g (suc k) p ≤ k
  unfolding locate
  locate_le zero p = cond_le (leb (offset is_member g 0) p) 0 0 0 (omega arith) (omega arith)
  locate_le (suc k) p = cond_le (leb (offset is_member g (suc k)) p) (suc k) _ (suc k) (omega arith) (let r = locate_le k p in omega arith)

  pub choice_step_same : (p l : ℕ) → ((m k : ℕ) (bs : List (ℕ × ℕ)) → m ≤ n → g m ≡ Branches bs → target bs l ≡ Some k → k ≤ n)
      → (choice_walk is_member f n).step p l ≡ (choice_walk is_member g n).step p l
  choice_step_same p l leads =
      let m = locate is_member g (suc n) p in
      let h : locate is_member g (suc n) p ≤ n = locate_le n p in
      ap (λ x. step_at is_member f x p l) (locate_same (suc n) p (le_refl _))
      ∙ ap (λ x. step_member is_member f m p l x) (same m h)
      ∙ step_member_same m p l (g m) h (λ bs k e t. leads m k bs h e t)

onto_pair : (k : ℕ) (x y : Option ℕ) → onto (pair k x y) ≡ meet k (onto x) (onto y)
onto_pair k None y = refl
onto_pair k (Some p) None = refl
onto_pair k (Some p) (Some q) = refl

round_all_step : (x y : Loop) (p l : ℕ) → (round (all_loop x y)).step p l ≡ (both_walk (round x) (round y)).step p l
round_all_step x y p l = onto_pair y.size (x.next (p / y.size) l) (y.next (p % y.size) l)

onto_again : (s : ℕ) (o : Outcome) → onto (again s o) ≡ lapped (At s) o
onto_again s Dead = refl
onto_again s Done = refl
onto_again s (At p) = refl

lap_from_start : (w : Walk) (o : Outcome) → (round (lap_from w o)).start ≡ lap_start o
lap_from_start w Dead = refl
lap_from_start w Done = refl
lap_from_start w (At s) = refl

lap_from_step : (w : Walk) (o : Outcome) (p l : ℕ) → (round (lap_from w o)).step p l ≡ lapped o (w.step p l)
lap_from_step w Dead p l = refl
lap_from_step w Done p l = refl
lap_from_step w (At s) p l = onto_again s (w.step p l)

onto_below : (k : ℕ) (o : Option ℕ) → ((q : ℕ) → o ≡ Some q → q < k) → Below k (onto o)
onto_below k None h = tt
onto_below k (Some q) h = h q refl

module _ (alphabet : List ℕ) (nodes : List Node) (sound : Sound alphabet nodes) where
  pub course_plain : (n : ℕ) → is_loop (node nodes n) ≡ false → course nodes n ≡ walk nodes n
  course_plain n p = ap (λ b. cond b (round (loop nodes n)) (walk nodes n)) p

  pub course_loop : (n : ℕ) → is_loop (node nodes n) ≡ true → course nodes n ≡ round (loop nodes n)
  course_loop n p = ap (λ b. cond b (round (loop nodes n)) (walk nodes n)) p

  pub course_size : (n : ℕ) → (course nodes n).size ≡ size nodes n
  course_size n = go (is_loop (node nodes n)) refl
    where
      go : (b : Bool) → is_loop (node nodes n) ≡ b → (course nodes n).size ≡ size nodes n
      go true p = ap (λ w. w.size) (course_loop n p) ∙ loop_size alphabet nodes sound n p
      go false p = ap (λ w. w.size) (course_plain n p) ∙ walk_size alphabet nodes sound n p

  -- a node of kinds 2 to 5, by the walks of the earlier nodes
  pub course_by : (n : ℕ) (x : Node) → node nodes n ≡ x → is_loop x ≡ false → course nodes n ≡ walk_by nodes (before nothing_walk n (λ m. walk nodes m)) n x
  course_by n x e p = course_plain n (ap (λ y. is_loop y) e ∙ p) ∙ walk_is nodes n ∙ ap (λ y. walk_by nodes (before nothing_walk n (λ m. walk nodes m)) n y) e

  -- and one of kinds 6 and 7, by the loops
  course_around : (n : ℕ) (x : Node) → node nodes n ≡ x → is_loop x ≡ true → course nodes n ≡ round (loop_by nodes (before still n (λ m. loop nodes m)) x)
  course_around n x e p =
      course_loop n (ap (λ y. is_loop y) e ∙ p) ∙ ap (λ r. round r) (loop_is nodes n ∙ ap (λ y. loop_by nodes (before still n (λ m. loop nodes m)) y) e)

  -- the walk of an earlier node
  walk_before : (n m : ℕ) → PlainEarlier nodes n m → before nothing_walk n (λ m. walk nodes m) m ≡ course nodes m
  walk_before n m s = before_lt nothing_walk n (λ m. walk nodes m) m s.0 ∙ sym (course_plain m s.1)

  round_before : (n m : ℕ) → LoopEarlier nodes n m → round (before still n (λ m. loop nodes m) m) ≡ course nodes m
  round_before n m s = ap (λ r. round r) (before_lt still n (λ m. loop nodes m) m s.0) ∙ sym (course_loop m s.1)

  pub course_nothing : (n : ℕ) → node nodes n ≡ Nothing → course nodes n ≡ nothing_walk
  course_nothing n e = course_by n Nothing e refl

  pub course_sequence : (n a b : ℕ) → node nodes n ≡ Sequence a b → course nodes n ≡ sequence_walk (course nodes a) (course nodes b)
  course_sequence n a b e =
      let s = sound_as alphabet nodes sound n (Sequence a b) e in
      course_by n (Sequence a b) e refl ∙ ap₂ (λ u v. sequence_walk u v) (walk_before n a s.0) (walk_before n b s.1)

  pub course_both : (n a b : ℕ) → node nodes n ≡ Both a b → course nodes n ≡ both_walk (course nodes a) (course nodes b)
  course_both n a b e =
      let s = sound_as alphabet nodes sound n (Both a b) e in
      course_by n (Both a b) e refl ∙ ap₂ (λ u v. both_walk u v) (walk_before n a s.0) (walk_before n b s.1)

  pub course_all_start : (n a b : ℕ) → node nodes n ≡ All a b → (course nodes n).start ≡ (both_walk (course nodes a) (course nodes b)).start
  course_all_start n a b e =
      let s = sound_as alphabet nodes sound n (All a b) e in
      ap (λ w. w.start) (course_around n (All a b) e refl) ∙ ap₂ (λ u v. (both_walk u v).start) (round_before n a s.0) (round_before n b s.1)

  pub course_all_step : (n a b p l : ℕ) → node nodes n ≡ All a b → (course nodes n).step p l ≡ (both_walk (course nodes a) (course nodes b)).step p l
  course_all_step n a b p l e =
      let s = sound_as alphabet nodes sound n (All a b) e in
      ap (λ w. w.step p l) (course_around n (All a b) e refl)
      ∙ round_all_step (before still n (λ m. loop nodes m) a) (before still n (λ m. loop nodes m) b) p l
      ∙ ap₂ (λ u v. (both_walk u v).step p l) (round_before n a s.0) (round_before n b s.1)

  pub course_lap_start : (n a : ℕ) → node nodes n ≡ Lap a → (course nodes n).start ≡ lap_start (course nodes a).start
  course_lap_start n a e =
      let s = sound_as alphabet nodes sound n (Lap a) e in
      ap (λ w. w.start) (course_around n (Lap a) e refl)
      ∙ lap_from_start (walk nodes a) (walk nodes a).start
      ∙ ap (λ w. lap_start w.start) (sym (course_plain a s.0.1))

  pub course_lap_step : (n a p l : ℕ) → node nodes n ≡ Lap a → (course nodes n).step p l ≡ lapped (course nodes a).start ((course nodes a).step p l)
  course_lap_step n a p l e =
      let s = sound_as alphabet nodes sound n (Lap a) e in
      ap (λ w. w.step p l) (course_around n (Lap a) e refl)
      ∙ lap_from_step (walk nodes a) (walk nodes a).start p l
      ∙ ap (λ w. lapped w.start (w.step p l)) (sym (course_plain a s.0.1))

  pub members_agree : (n : ℕ) (bs : List (ℕ × ℕ)) → node nodes n ≡ Choice bs → (m : ℕ) → m ≤ n
      → member_of (before nothing_walk n (λ k. walk nodes k) m) (node nodes m) ≡ member_of (walk nodes m) (node nodes m)
  members_agree n bs e m h = elim (cases_lt m n) [
    | inl k ↦ ap (λ w. member_of w (node nodes m)) (before_lt nothing_walk n (λ k. walk nodes k) m k)
    | inr k ↦ let q : m ≡ n = omega arith in
        let c : node nodes m ≡ Choice bs = ap (λ x. node nodes x) q ∙ e in
        ap (λ x. member_of (before nothing_walk n (λ k. walk nodes k) m) x) c ∙ sym (ap (λ x. member_of (walk nodes m) x) c)
  ]

  pub course_choice_start : (n : ℕ) (bs : List (ℕ × ℕ)) → node nodes n ≡ Choice bs
      → (course nodes n).start ≡ (choice_walk (λ m. in_family nodes n m) (λ m. member_of (walk nodes m) (node nodes m)) n).start
  course_choice_start n bs e =
      ap (λ w. w.start) (course_by n (Choice bs) e refl)
      ∙ enter_same (λ m. in_family nodes n m) (λ m. member_of (before nothing_walk n (λ k. walk nodes k) m) (node nodes m)) (λ m. member_of (walk nodes m) (node nodes m)) n
      (members_agree n bs e) n (le_refl _)

  pub course_choice_step : (n p l : ℕ) (bs : List (ℕ × ℕ)) → node nodes n ≡ Choice bs
      → (course nodes n).step p l ≡ (choice_walk (λ m. in_family nodes n m) (λ m. member_of (walk nodes m) (node nodes m)) n).step p l
  course_choice_step n p l bs e =
      ap (λ w. w.step p l) (course_by n (Choice bs) e refl)
      ∙ choice_step_same (λ m. in_family nodes n m) (λ m. member_of (before nothing_walk n (λ k. walk nodes k) m) (node nodes m)) (λ m. member_of (walk nodes m) (node nodes m)) n
      (members_agree n bs e) p l leads
    where
      leads : (m k : ℕ) (cs : List (ℕ × ℕ)) → m ≤ n → member_of (walk nodes m) (node nodes m) ≡ Branches cs → target cs l ≡ Some k → k ≤ n
      leads m k cs h c t =
          let r = branch_earlier alphabet nodes sound l (branches_choice (walk nodes m) (node nodes m) cs c) (target_branch cs l k t) in
          omega (arith, r.0)

  course_tells : (n : ℕ) → n < length nodes → is_loop (node nodes n) ≡ false → Falls (course nodes n)
  course_tells n h p = subst (λ w. Falls w) (sym (course_plain n p)) (walk_told alphabet nodes sound n h p).falling

  -- a place where the walk starts, or that a letter leads to, is one of its places
  pub course_starts : (n : ℕ) → n < length nodes → Below (size nodes n) (course nodes n).start
  course_starts n h = subst (λ k. Below k (course nodes n).start) (course_size n) (go (is_loop (node nodes n)) refl)
    where
      go : (b : Bool) → is_loop (node nodes n) ≡ b → Below (course nodes n).size (course nodes n).start
      go true p = subst (λ w. Below w.size w.start) (sym (course_loop n p)) (loop_told alphabet nodes sound n h p).bounded
      go false p = (course_tells n h p).starts

  -- and each letter leads to a lower one, where the node is no loop
  pub course_falls : (n p l : ℕ) → n < length nodes → is_loop (node nodes n) ≡ false → p < size nodes n → Below p ((course nodes n).step p l)
  course_falls n p l h q i = (course_tells n h q).falls p l (subst (λ k. p < k) (sym (course_size n)) i)

  pub course_stays : (n p l : ℕ) → n < length nodes → p < size nodes n → Below (size nodes n) ((course nodes n).step p l)
  course_stays n p l h i = go (is_loop (node nodes n)) refl
    where
      go : (b : Bool) → is_loop (node nodes n) ≡ b → Below (size nodes n) ((course nodes n).step p l)
      go true q =
          let z = loop_size alphabet nodes sound n q in
          subst (λ w. Below (size nodes n) (w.step p l)) (sym (course_loop n q))
          (onto_below _ _ (λ r e. subst (λ k. r < k) z ((loop_told alphabet nodes sound n h q).stays p l r (subst (λ k. p < k) (sym z) i) e)))
      go false q = below_more p (size nodes n) _ (omega arith) (course_falls n p l h q i)
