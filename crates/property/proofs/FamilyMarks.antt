-- Marking the family of a node: by branches, from the node down.
use Rattle.std.proofs.Common.{◌≡◌, ℕ, suc, ◌+◌, ◌-◌, ◌<◌, ◌≤◌, min, Bool, true, false, ◌&&◌, ◌||◌, eqb, ◌⊎◌, List, ◌++◌, length, get_or, set, sym, refl, ap, ◌∙◌, subst, inl, inr, arith, get_or-set_other, get_or-set_same}
use Rattle.std.proofs.lemmas.List.{get_or_past}
use Rattle.std.proofs.lemmas.Bool.{and_parts, and_from, or_cases, or_left, or_right, eqb-true, eqb-false, eq-eqb, cases_eq, false≢true}
use Rattle.std.proofs.lemmas.Bool.Decides.{same_from_decides}
use Rattle.records.specs.Records.{two_bytes}
use Rattle.property.specs.Nodes.{Node, Nothing, Choice, Sequence, Both, Lap, All, node, Branch, branches}
use Rattle.property.specs.Numbered.{before}
use Rattle.property.specs.Sized.{MarksAlso, named_before, names_before}
use Rattle.property.specs.Sizes.{some_branch, by_branches, in_family}
use Rattle.property.proofs.Branching.{one_branch, no_branch}
use Rattle.property.proofs.Families.{before_true, branch_in_family, branch_some, in_family_is, itself_in_family, past_last, some_branch_true}
use Rattle.std.proofs.Math.Bool.{or-false}
use Rattle.property.proofs.Numbering.{before_lt, before_ge, from_earlier, lt_or_ge}

-- what is marked and what the branches that are left name are together what is to be marked
abbrev pub Marking : List ℕ → List ℕ → ℕ → List Bool → List Bool → Type 0
Marking body rest end was marked = (m : ℕ) → (get_or marked m false || names_before (branches rest) end m) ≡ (get_or was m false || names_before (branches body) end m)

module _ (body rest x left : List ℕ) (end : ℕ) (was marked : List Bool) (so_far : Marking body rest end was marked) (cut : rest ≡ x ++ left) (long : length x ≡ 3) where
  -- what is to be marked, with the next branch taken from those that are left
  next : (m : ℕ) → (get_or marked m false || (before false end (λ k. eqb k m) (two_bytes x 1) || names_before (branches left) end m)) ≡ (get_or was m false || names_before (branches body) end m)
  unfolding some_branch
  next m = sym (ap (λ bs. get_or marked m false || names_before bs end m) (one_branch rest x left cut long)) ∙ so_far m

  pub marking_skip : end ≤ two_bytes x 1 → Marking body left end was marked
  marking_skip h m =
      sym (ap (λ b. get_or marked m false || (b || names_before (branches left) end m)) (before_ge false end (λ k. eqb k m) (two_bytes x 1) h)) ∙ next m

  pub marking_more : two_bytes x 1 < end → end ≤ length marked → Marking body left end was (set marked (two_bytes x 1) true)
  marking_more h fits m =
      one (eqb (two_bytes x 1) m) refl
      ∙ sym (ap (λ b. get_or marked m false || (b || names_before (branches left) end m)) (before_lt false end (λ k. eqb k m) (two_bytes x 1) h))
      ∙ next m
    where
      one : (b : Bool) → eqb (two_bytes x 1) m ≡ b
          → (get_or (set marked (two_bytes x 1) true) m false || names_before (branches left) end m) ≡ (get_or marked m false || (eqb (two_bytes x 1) m || names_before (branches left) end m))
      one true e =
          let set_here : get_or (set marked (two_bytes x 1) true) m false ≡ true =
          subst (λ k. get_or (set marked (two_bytes x 1) true) k false ≡ true) (eqb-true (two_bytes x 1) m e) (get_or-set_same marked (two_bytes x 1) true false (omega arith)) in
          or_left (get_or (set marked (two_bytes x 1) true) m false) _ set_here ∙ sym (or_right (get_or marked m false) _ (or_left (eqb (two_bytes x 1) m) _ e))
      one false e =
          ap (λ b. b || names_before (branches left) end m) (get_or-set_other marked (two_bytes x 1) m true false (λ q. eqb-false (two_bytes x 1) m e (sym q)))
          ∙ sym (ap (λ b. get_or marked m false || (b || names_before (branches left) end m)) e)

  -- where the end is marked, marking it once more changes nothing
  again : end < length marked → get_or marked end false ≡ true → Marking body left end was marked → Marking body left end was (set marked end true)
  again fits here as_it_is m = ap (λ b. b || names_before (branches left) end m) (one (eqb end m) refl) ∙ as_it_is m
    where
      one : (b : Bool) → eqb end m ≡ b → get_or (set marked end true) m false ≡ get_or marked m false
      one true e =
          subst (λ k. get_or (set marked end true) k false ≡ get_or marked k false) (eqb-true end m e)
          (get_or-set_same marked end true false fits ∙ sym here)
      one false e = get_or-set_other marked end m true false (λ q. eqb-false end m e (sym q))

  -- the branch marks what it names, or the end
  pub marking_step : end < length marked → get_or marked end false ≡ true → Marking body left end was (set marked (min (two_bytes x 1) end) true)
  marking_step fits here = elim (lt_or_ge (two_bytes x 1) end) [
    | inl l ↦ subst (λ k. Marking body left end was (set marked k true)) (omega (arith, l)) (marking_more l (omega (arith, fits)))
    | inr h ↦ subst (λ k. Marking body left end was (set marked k true)) (omega (arith, h)) (again fits here (marking_skip h))
  ]

-- a further mark leaves what is marked
pub marked_still : (marked : List Bool) (k n : ℕ) → n < length marked → get_or marked n false ≡ true → get_or (set marked k true) n false ≡ true
marked_still marked k n fits e = one (eqb k n) refl
  where
    one : (b : Bool) → eqb k n ≡ b → get_or (set marked k true) n false ≡ true
    one true q =
        let same : k ≡ n = eqb-true k n q in
        subst (λ i. get_or (set marked k true) i false ≡ true) same (get_or-set_same marked k true false (omega (arith, same, fits)))
    one false q = get_or-set_other marked k n true false (λ p. eqb-false k n q (sym p)) ∙ e

pub marking_all : (body rest : List ℕ) (end : ℕ) (was marked : List Bool) → Marking body rest end was marked → length rest < 3 → MarksAlso (names_before (branches body) end) was marked
unfolding some_branch
marking_all body rest end was marked so_far short m =
    sym (or-false (get_or marked m false)) ∙ sym (ap (λ bs. get_or marked m false || names_before bs end m) (no_branch rest short)) ∙ so_far m

-- n alone is marked
abbrev pub Alone : ℕ → List Bool → Type 0
Alone n marked = (m : ℕ) → m < length marked → get_or marked m false ≡ eqb n m

-- the nodes from m on have been looked at, in the marking of the family of n
pub record Swept (nodes : List Node) (n : ℕ) (marked : List Bool) (m : ℕ) : Type 0 where
  pub here : get_or marked n false ≡ true
  pub only : (k : ℕ) → get_or marked k false ≡ true → in_family nodes n k ≡ true
  pub closed : (k l j : ℕ) (bs : List (ℕ × ℕ)) → m ≤ k → get_or marked k false ≡ true → node nodes k ≡ Choice bs → Branch bs l j → j < k → get_or marked j false ≡ true

module _ (nodes : List Node) (n : ℕ) where
  -- a node past the last is its whole family
  pub swept_past : (marked : List Bool) → length nodes ≤ n → Alone n marked → (m : ℕ) → m < length marked → get_or marked m false ≡ in_family nodes n m
  swept_past marked h alone m l =
      alone m l
      ∙ sym (or-false (eqb n m))
      ∙ sym (in_family_is nodes n m ∙ ap (λ x. eqb n m || by_branches (before false n (λ k. in_family nodes k m)) x) (past_last nodes n h))

  pub swept_none : (marked : List Bool) → n < length marked → Alone n marked → Swept nodes n marked (n + 1)
  swept_none marked h alone = record {
    here = alone n h ∙ eq-eqb n n refl;
    only = λ k e. subst (λ x. in_family nodes n x ≡ true) (the_one k e) (itself_in_family nodes n);
    closed = λ k l j bs far e q b lt. let one : n ≡ k = the_one k e in absurd (omega arith);
  }
    where
      the_one : (k : ℕ) → get_or marked k false ≡ true → n ≡ k
      the_one k e = elim (lt_or_ge k (length marked)) [
        | inl l ↦ eqb-true n k (sym (alone k l) ∙ e)
        | inr l ↦ absurd (false≢true (sym (get_or_past marked k false l) ∙ e))
      ]

  -- a node that meets a test by branches has a branch that meets it
  branch_of : (test : ℕ → Bool) (m : ℕ) (x : Node) → node nodes m ≡ x → by_branches test x ≡ true
      → (l : ℕ) × (j : ℕ) × (bs : List (ℕ × ℕ)) × (node nodes m ≡ Choice bs) × Branch bs l j × (test j ≡ true)
  branch_of test m Nothing q e = absurd (false≢true e)
  branch_of test m (Choice bs) q e = let r = branch_some test bs e in (r.0, r.1, bs, q, r.2, r.3)
  branch_of test m (Sequence a b) q e = absurd (false≢true e)
  branch_of test m (Both a b) q e = absurd (false≢true e)
  branch_of test m (Lap a) q e = absurd (false≢true e)
  branch_of test m (All a b) q e = absurd (false≢true e)

  named_branch : (m k : ℕ) → by_branches (before false m (λ j. eqb j k)) (node nodes m) ≡ true → (l : ℕ) × (bs : List (ℕ × ℕ)) × (node nodes m ≡ Choice bs) × Branch bs l k × (k < m)
  named_branch m k e =
      let r = branch_of (before false m (λ j. eqb j k)) m (node nodes m) refl e in
      let t = before_true m (λ j. eqb j k) r.1 r.5 in
      let same : r.1 ≡ k = eqb-true r.1 k t.1 in
      (r.0, r.2, r.3, subst (λ j. Branch r.2 r.0 j) same r.4, subst (λ j. j < m) same t.0)

  -- the members are not after the node
  not_after : (m k : ℕ) → in_family nodes k m ≡ true → m ≤ k
  not_after m = from_earlier (λ k. in_family nodes k m ≡ true → m ≤ k)
      (λ k ih f. elim (or_cases (eqb k m) _ (sym (in_family_is nodes k m) ∙ f)) [
        | inl q ↦ let e : k ≡ m = eqb-true k m q in omega arith
        | inr q ↦
            let r = branch_of (before false k (λ j. in_family nodes j m)) k (node nodes k) refl q in
            let t = before_true k (λ j. in_family nodes j m) r.1 r.5 in
            omega (arith, t.0, ih r.1 t.0 t.1)
      ])

  reached : (marked : List Bool) (done m : ℕ) → done ≤ suc m → Swept nodes n marked done → (k : ℕ) → in_family nodes k m ≡ true → get_or marked k false ≡ true → get_or marked m false ≡ true
  reached marked done m h s = from_earlier (λ k. in_family nodes k m ≡ true → get_or marked k false ≡ true → get_or marked m false ≡ true)
      (λ k ih f e. elim (or_cases (eqb k m) _ (sym (in_family_is nodes k m) ∙ f)) [
        | inl q ↦ subst (λ x. get_or marked x false ≡ true) (eqb-true k m q) e
        | inr q ↦
            let r = branch_of (before false k (λ j. in_family nodes j m)) k (node nodes k) refl q in
            let t = before_true k (λ j. in_family nodes j m) r.1 r.5 in
            ih r.1 t.0 t.1 (s.closed k r.0 r.1 r.2 (omega (arith, t.0, not_after m r.1 t.1)) e r.3 r.4 t.0)
      ])

  -- the marks tell which of the nodes that have been looked at are in the family, and of the next one too
  pub swept_tells : (marked : List Bool) (done m : ℕ) → done ≤ suc m → Swept nodes n marked done → get_or marked m false ≡ in_family nodes n m
  swept_tells marked done m h s =
      same_from_decides {P = in_family nodes n m ≡ true} (get_or marked m false) (in_family nodes n m) (s.only m, λ f. reached marked done m h s n f s.here) (λ e. e, λ e. e)

  pub swept_all : (marked : List Bool) (done : ℕ) → done ≤ 0 → Swept nodes n marked done → (m : ℕ) → get_or marked m false ≡ in_family nodes n m
  swept_all marked done h s m = swept_tells marked done m (omega arith) s

  -- an earlier node that a branch of a node in the family names is in the family
  family_more : (l k : ℕ) (bs : List (ℕ × ℕ)) (m j : ℕ) → node nodes m ≡ Choice bs → Branch bs l k → k < m → in_family nodes j m ≡ true → in_family nodes j k ≡ true
  family_more l k bs m j q b lt = from_earlier (λ j. in_family nodes j m ≡ true → in_family nodes j k ≡ true)
      (λ j ih f. elim (or_cases (eqb j m) _ (sym (in_family_is nodes j m) ∙ f)) [
        | inl e ↦ subst (λ x. in_family nodes x k ≡ true) (sym (eqb-true j m e)) (branch_in_family nodes m k l k bs q b lt (itself_in_family nodes k))
        | inr e ↦
            let r = branch_of (before false j (λ i. in_family nodes i m)) j (node nodes j) refl e in
            let t = before_true j (λ i. in_family nodes i m) r.1 r.5 in
            branch_in_family nodes j k r.0 r.1 r.2 r.3 r.4 t.0 (ih r.1 t.0 t.1)
      ]) j

  module _ (was marked : List Bool) (m : ℕ) (s : Swept nodes n was (suc m)) (also : MarksAlso (named_before nodes was m) was marked) where
    -- what is marked was marked, or is named by m, which was
    came : (k : ℕ) → get_or marked k false ≡ true
        → (get_or was k false ≡ true) ⊎ ((get_or was m false ≡ true) × (by_branches (before false m (λ j. eqb j k)) (node nodes m) ≡ true))
    came k e = elim (or_cases (get_or was k false) _ (sym (also k) ∙ e)) [ inl h ↦ inl h | inr h ↦ inr (and_parts (get_or was m false) _ h) ]

    stays : (k : ℕ) → get_or was k false ≡ true → get_or marked k false ≡ true
    stays k e = also k ∙ or_left (get_or was k false) _ e

    new : (l j : ℕ) (bs : List (ℕ × ℕ)) → get_or was m false ≡ true → node nodes m ≡ Choice bs → Branch bs l j → j < m → get_or marked j false ≡ true
    new l j bs e q b lt =
        also j
        ∙ or_right (get_or was j false) _
        (and_from (get_or was m false) _ e
        (ap (by_branches (before false m (λ k. eqb k j))) q
        ∙ some_branch_true (before false m (λ k. eqb k j)) bs l j b (before_lt false m (λ k. eqb k j) j lt ∙ eq-eqb j j refl)))

    closed_more : (k l j : ℕ) (bs : List (ℕ × ℕ)) → m ≤ k → get_or marked k false ≡ true → node nodes k ≡ Choice bs → Branch bs l j → j < k → get_or marked j false ≡ true
    closed_more k l j bs far e q b lt = elim (came k e) [
      | inl old ↦ elim (cases_eq k m) [
        | inl at ↦ new l j bs (subst (λ x. get_or was x false ≡ true) at old) (ap (node nodes) (sym at) ∙ q) b (omega arith)
        | inr at ↦ stays j (s.closed k l j bs (omega arith) old q b lt)
      ]
      | inr p ↦ let r = named_branch m k p.1 in absurd (omega (arith, r.4))
    ]

    swept_here : Swept nodes n marked m
    swept_here = record {
      here = stays n s.here;
      only = λ k e. elim (came k e) [
        | inl old ↦ s.only k old
        | inr p ↦ let r = named_branch m k p.1 in family_more r.0 k r.1 m n r.2 r.3 r.4 (s.only m p.0)
      ];
      closed = closed_more;
    }

  pub swept_more : (was marked : List Bool) (m : ℕ) → 0 < m → Swept nodes n was m → MarksAlso (named_before nodes was (m - 1)) was marked → Swept nodes n marked (m - 1)
  swept_more was marked m h s also =
      let up : m ≡ suc (m - 1) = omega arith in
      swept_here was marked (m - 1) (subst (Swept nodes n was) up s) also

  -- a node that is not marked marks no others
  pub swept_skip : (marked : List Bool) (m : ℕ) → 0 < m → Swept nodes n marked m → get_or marked (m - 1) false ≡ false → Swept nodes n marked (m - 1)
  swept_skip marked m h s e =
      swept_more marked marked m h s
      (λ k. sym (or-false (get_or marked k false)) ∙ sym (ap (λ b. get_or marked k false || (b && by_branches (before false (m - 1) (λ j. eqb j k)) (node nodes (m - 1)))) e))
