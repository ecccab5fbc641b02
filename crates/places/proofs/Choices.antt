-- The walk of a Choice goes through the places of its family, member by member.
use Rattle.std.proofs.Common.{◌≡◌, ℕ, zero, suc, ◌+◌, ◌-◌, ◌<◌, ◌≤◌, Bool, true, false, cond, leb, List, [], ◌∷◌, Some, None, Option, sym, refl, ap, ◌∙◌, subst, inl, inr, le_refl, arith}
use native.Mathlib.Decide.{le_ind}
use Rattle.std.proofs.lemmas.Bool.{cases_lt, cond-true, cond-false, le-leb, lt-leb}
use Rattle.property.specs.Sizes.{total}
use Rattle.places.specs.Walks.{Outcome, Dead, Done, At, Walk, run, Member, Branches, Whole, places, shift, target, offset, locate, enter, enter_member, enter_target, step_member, step_at, choice_walk}
use Rattle.places.proofs.Falling.{Below, Falls, below_more}

module _ (is_member : ℕ → Bool) (member : ℕ → Member) where
  pub offset_rises : (i j : ℕ) → i ≤ j → offset is_member member i ≤ offset is_member member j
  unfolding total
  offset_rises i j h = le_ind (λ k. offset is_member member i ≤ offset is_member member k) (le_refl _) (λ k _ g. omega arith) j h

  pub offset_next : (m : ℕ) → is_member m ≡ true → offset is_member member (suc m) ≡ offset is_member member m + places (member m)
  unfolding total
  offset_next m e = ap (λ b. offset is_member member m + cond b (places (member m)) 0) e

  pub locate_at : (n m p : ℕ) → m < n → offset is_member member m ≤ p → p < offset is_member member (suc m) → locate is_member member n p ≡ m
  unfolding locate
  locate_at zero m p h lo hi = absurd (omega arith)
  locate_at (suc n) m p h lo hi = elim (cases_lt m n) [
    | inl k ↦ cond-false (leb (offset is_member member n) p) _ _ (lt-leb (offset is_member member n) p (let g = offset_rises (suc m) n k in omega arith)) ∙ locate_at n m p k lo hi
    | inr k ↦ let e : n ≡ m = omega arith in cond-true (leb (offset is_member member n) p) n (locate is_member member n p) (le-leb (offset is_member member n) p (rw e lo)) ∙ e
  ]

  -- the member that a place belongs to
  pub record Located (n p m : ℕ) : Type 0 where
    pub below : m < n
    pub low : offset is_member member m ≤ p
    pub high : p < offset is_member member (suc m)
    pub is_one : is_member m ≡ true

  located_here : (n p : ℕ) (b : Bool) → is_member n ≡ b → offset is_member member n ≤ p → p < offset is_member member (suc n) → Located (suc n) p n
  unfolding total
  located_here n p true e lo hi = record { below = omega arith; low = lo; high = hi; is_one = e }
  located_here n p false e lo hi = let z : offset is_member member (suc n) ≡ offset is_member member n + 0 = ap (λ b. offset is_member member n + cond b (places (member n)) 0) e in absurd (omega arith)

  pub located : (n p : ℕ) → p < offset is_member member n → Located n p (locate is_member member n p)
  unfolding total locate
  located zero p h = absurd (omega arith)
  located (suc n) p h = elim (cases_lt p (offset is_member member n)) [
    | inl k ↦ let r = located n p k in
        subst (λ x. Located (suc n) p x) (sym (cond-false (leb (offset is_member member n) p) n (locate is_member member n p) (lt-leb (offset is_member member n) p k)))
        (record { below = omega arith; low = r.low; high = r.high; is_one = r.is_one })
    | inr k ↦ subst (λ x. Located (suc n) p x) (sym (cond-true (leb (offset is_member member n) p) n (locate is_member member n p) (le-leb (offset is_member member n) p k))) (located_here n p (is_member n) refl k h)
  ]

  -- what makes the members a family: branches lead to earlier members, and each other member's walk falls
  pub record Closed : Type 0 where
    pub whole_falls : (m : ℕ) (w : Walk) → is_member m ≡ true → member m ≡ Whole w → Falls w
    pub leads : (m l k : ℕ) (bs : List (ℕ × ℕ)) → is_member m ≡ true → member m ≡ Branches bs → target bs l ≡ Some k → (k < m) × (is_member k ≡ true)

  shift_below : (k j : ℕ) (o : Outcome) → Below j o → Below (k + j) (shift k o)
  shift_below k j Dead h = tt
  shift_below k j Done h = tt
  shift_below k j (At p) h = omega arith

  module _ (c : Closed) where
    enter_member_below : (m : ℕ) (x : Member) → member m ≡ x → is_member m ≡ true → Below (offset is_member member m + places x) (enter_member is_member member m x)
    enter_member_below m (Branches bs) e i = omega arith
    enter_member_below m (Whole w) e i = shift_below _ _ _ (c.whole_falls m w i e).starts

    pub enter_below : (m : ℕ) → is_member m ≡ true → Below (offset is_member member (suc m)) (enter is_member member m)
    enter_below m i = rw (offset_next m i) (enter_member_below m (member m) refl i)

    enter_target_below : (m p : ℕ) (k : Option ℕ) → offset is_member member m ≤ p → ((j : ℕ) → k ≡ Some j → (j < m) × (is_member j ≡ true)) → Below p (enter_target is_member member k)
    enter_target_below m p None lo f = tt
    enter_target_below m p (Some j) lo f =
        let g = f j refl in
        below_more (offset is_member member (suc j)) p (enter is_member member j) (let r = offset_rises (suc j) m g.0 in omega arith) (enter_below j g.1)

    step_member_falls : (m p l : ℕ) (x : Member) → member m ≡ x → is_member m ≡ true → offset is_member member m ≤ p → p < offset is_member member m + places x
        → Below p (step_member is_member member m p l x)
    step_member_falls m p l (Branches bs) e i lo hi = enter_target_below m p (target bs l) lo (λ j t. c.leads m l j bs i e t)
    step_member_falls m p l (Whole w) e i lo hi =
        below_more (offset is_member member m + (p - offset is_member member m)) p _ (omega arith) (shift_below _ _ _ ((c.whole_falls m w i e).falls (p - offset is_member member m) l (omega arith)))

    pub choice_falls : (n : ℕ) → is_member n ≡ true → Falls (choice_walk is_member member n)
    choice_falls n i = record { starts = enter_below n i; falls = λ p l h. go p l (located (suc n) p h) }
      where
        go : (p l : ℕ) → Located (suc n) p (locate is_member member (suc n) p) → Below p ((choice_walk is_member member n).step p l)
        go p l r = step_member_falls (locate is_member member (suc n) p) p l _ refl r.is_one r.low (let e = offset_next (locate is_member member (suc n) p) r.is_one in omega arith)

    -- inside a member that is no Choice the walk goes as the member's
    pub in_whole : (n m : ℕ) (w : Walk) → m ≤ n → is_member m ≡ true → member m ≡ Whole w → (o : Outcome) (t : List ℕ) → Below w.size o
        → run (choice_walk is_member member n).step (shift (offset is_member member m) o) t ≡ shift (offset is_member member m) (run w.step o t)
    in_whole n m w h i e o [] b = refl
    in_whole n m w h i e Dead (l ∷ t) b = refl
    in_whole n m w h i e Done (l ∷ t) b = refl
    in_whole n m w h i e (At p) (l ∷ t) b =
        ap (λ o. run (choice_walk is_member member n).step o t) step_is
        ∙ in_whole n m w h i e (w.step p l) t (below_more p w.size _ (omega arith) ((c.whole_falls m w i e).falls p l b))
      where
        size_is : offset is_member member (suc m) ≡ offset is_member member m + w.size
        size_is = offset_next m i ∙ ap (λ x. offset is_member member m + places x) e

        found : locate is_member member (suc n) (offset is_member member m + p) ≡ m
        found = locate_at (suc n) m (offset is_member member m + p) (omega arith) (omega arith) (omega (arith, size_is))

        step_is : (choice_walk is_member member n).step (offset is_member member m + p) l ≡ shift (offset is_member member m) (w.step p l)
        step_is =
            ap (λ x. step_at is_member member x (offset is_member member m + p) l) found
            ∙ ap (λ x. step_member is_member member m (offset is_member member m + p) l x) e
            ∙ ap (λ q. shift (offset is_member member m) (w.step q l)) (omega arith)

    -- at a Choice the letter's branch is taken
    pub at_branches : (n m l : ℕ) (bs : List (ℕ × ℕ)) → m ≤ n → is_member m ≡ true → member m ≡ Branches bs
        → (choice_walk is_member member n).step (offset is_member member m) l ≡ enter_target is_member member (target bs l)
    at_branches n m l bs h i e =
        ap (λ x. step_at is_member member x (offset is_member member m) l) found ∙ ap (λ x. step_member is_member member m (offset is_member member m) l x) e
      where
        size_is : offset is_member member (suc m) ≡ offset is_member member m + 1
        size_is = offset_next m i ∙ ap (λ x. offset is_member member m + places x) e

        found : locate is_member member (suc n) (offset is_member member m) ≡ m
        found = locate_at (suc n) m (offset is_member member m) (omega arith) (omega arith) (omega (arith, size_is))
