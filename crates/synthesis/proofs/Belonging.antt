-- The places of a Choice's family whose size is kept as it is: where each member's begin, and which member a place belongs to.
use Rattle.std.proofs.Common.{◌≡◌, ℕ, zero, suc, ◌+◌, ◌-◌, ◌*◌, ◌<◌, ◌≤◌, min, Bool, true, false, cond, eqb, List, length, get_or, take, drop, set, replicate, Some, None, Option, sym, refl, ap, ◌∙◌, subst, inl, inr, arith, length-set, get_or-set_other, get_or-set_same}
use lib.ListN.{length-replicate, get_or-replicate}
use Rattle.std.proofs.lemmas.Bool.{cases_lt, eqb-false, eqb-true}
use Rattle.records.specs.Records.{branch_bytes}
use Rattle.property.specs.declared.node.Node as P
use Rattle.property.specs.declared.node.Node.TheVariants as V
use Rattle.property.specs.Checks.{most_nodes}
use Rattle.property.specs.Meant.{meant}
use Rattle.property.specs.Nodes.{Node, Choice, node, branches, is_loop}
use Rattle.property.specs.Numbered.{before}
use Rattle.property.specs.Sized.{cut, most_size}
use Rattle.property.specs.Sizes.{in_family, size, size_by, total, weight}
use Rattle.property.proofs.Numbering.{before_lt}
use Rattle.property.proofs.FamilyMarks.{Swept, swept_none}
use Rattle.property.proofs.SizingSums.{total_cut}
use Rattle.places.specs.declared.outcome.Outcome.{Outcome}
use Rattle.places.specs.declared.outcome.Outcome.TheVariants.{Dead, Done, At}
use Rattle.places.specs.Walks.{Walk, Member, Whole, places, shift, target, walk, member_of, offset, enter, enter_target, enter_member, step_member}
use Rattle.places.proofs.Sizes.{places_weight}
use Rattle.places.proofs.Branches.{branch_earlier, target_branch}
use Rattle.places.proofs.Choices.{Located, located, locate_at, offset_next, offset_rises}
use Rattle.places.proofs.Equations.{size_is}
use Rattle.places.proofs.Falling.{Below}
use Rattle.places.proofs.Families.{family_member, family_more, member_earlier, member_family, member_le, member_plain}
use Rattle.places.proofs.Sizes.{walk_size}
use Rattle.places.proofs.Traces.{choice_or_whole, whole_not_branches}
use Rattle.synthesis.specs.declared.course.Course.{Course}
use Rattle.synthesis.specs.Courses.{PlaceOf, course, letters_of, nodes_of}
use Rattle.synthesis.specs.Members.{Belongs, Found, FamilyGoesOn, OfFamily, OfFile, OffsetsKept, SmallChoice, weight_kept}
use Rattle.synthesis.specs.Outcomes.{Like, kept}
use Rattle.synthesis.proofs.Courses.{course_choice_step, course_plain, course_starts}
use Rattle.synthesis.proofs.Grounding.{node_as}

abbrev pub Other : P.Node → Type 0
Other x = (start count : ℕ) → x ≡ V.Choice start count → ⊥

whole_other : (file : List ℕ) (w : Walk) (x : P.Node) → Other x → member_of w (meant file x) ≡ Whole w
whole_other file w V.Nothing other = refl
whole_other file w (V.Choice start count) other = absurd (other start count refl)
whole_other file w (V.Sequence a b) other = refl
whole_other file w (V.Both a b) other = refl
whole_other file w (V.Lap a) other = refl
whole_other file w (V.All a b) other = refl

module _ (c : Course) (m : ℕ) (x : P.Node) (e : node (nodes_of c) m ≡ meant c.checked.file.now x) where
  pub whole_of_other : Other x → member_of (walk (nodes_of c) m) (node (nodes_of c) m) ≡ Whole (walk (nodes_of c) m)
  whole_of_other other = ap (λ y. member_of (walk (nodes_of c) m) y) e ∙ whole_other c.checked.file.now (walk (nodes_of c) m) x other

  -- the Choice whose branches stand in the body
  pub choice_at : (start count : ℕ) (body : List ℕ) → x ≡ V.Choice start count → body ≡ take (branch_bytes * count) (drop start c.checked.file.now)
      → node (nodes_of c) m ≡ Choice (branches body)
  choice_at start count body q b = node_as c.checked.file.now c.checked.nodes.now m x (V.Choice start count) e q ∙ ap (λ y. Choice (branches y)) (sym b)

-- one more is written
pub set_more : {A : Type 0} (d : A) (f : ℕ → A) (xs : List A) (j : ℕ) (v : A) → j < length xs → ((i : ℕ) → i < j → get_or xs i d ≡ f i) → v ≡ f j
    → (i : ℕ) → i < j + 1 → get_or (set xs j v) i d ≡ f i
set_more d f xs j v long so e i h = elim (cases_lt i j) [
  | inl l ↦ get_or-set_other xs j i v d (λ q. omega arith) ∙ so i l
  | inr l ↦ let at : j ≡ i = omega arith in subst (λ k. get_or (set xs j v) k d ≡ f k) at (get_or-set_same xs j v d long ∙ e)
]

module _ (is_member : ℕ → Bool) (member : ℕ → Member) where
  offset_skip : (m : ℕ) → is_member m ≡ false → offset is_member member (suc m) ≡ offset is_member member m
  unfolding total
  offset_skip m e = let z : offset is_member member (suc m) ≡ offset is_member member m + 0 = ap (λ b. offset is_member member m + cond b (places (member m)) 0) e in omega arith

-- in the family of n the first places of the nodes before m are written, and the next is `so_far`
abbrev pub Written : Course → ℕ → List ℕ → ℕ → ℕ → Type 0
Written c n offsets m so_far =
    (so_far ≡ offset (λ k. in_family (nodes_of c) n k) (λ k. member_of (walk (nodes_of c) k) (node (nodes_of c) k)) m)
    × ((k : ℕ) → k < m → get_or offsets k 0 ≡ offset (λ j. in_family (nodes_of c) n j) (λ j. member_of (walk (nodes_of c) j) (node (nodes_of c) j)) k)

-- in the family of n the place p is before the first place of m
abbrev pub Falling : Course → ℕ → ℕ → ℕ → ℕ → Type 0
Falling c n p m first =
    (first ≡ offset (λ k. in_family (nodes_of c) n k) (λ k. member_of (walk (nodes_of c) k) (node (nodes_of c) k)) m) × (p < first)

pub falling_end : (c : Course) (n p m first : ℕ) → Falling c n p m first → m ≤ 0 → ⊥
unfolding total
falling_end c n p zero first so h = omega (arith, so.0, so.1)
falling_end c n p (suc m) first so h = omega arith

-- n alone is marked, and no node has been looked at
pub swept_first : (nodes : List Node) (n : ℕ) → n < most_nodes → Swept nodes n (set (replicate most_nodes false) n true) (n + 1)
swept_first nodes n h = swept_none nodes n (set (replicate most_nodes false) n true) (omega (arith, long)) (λ m l. alone m (omega (arith, long)) (eqb n m) refl)
  where
    long : length (set (replicate most_nodes false) n true) ≡ most_nodes
    long = length-set (replicate most_nodes false) n true ∙ length-replicate {A = Bool} most_nodes false

    alone : (m : ℕ) → m < most_nodes → (b : Bool) → eqb n m ≡ b → get_or (set (replicate most_nodes false) n true) m false ≡ eqb n m
    alone m l true e =
        subst (λ k. get_or (set (replicate most_nodes false) n true) k false ≡ true) (eqb-true n m e)
        (get_or-set_same (replicate most_nodes false) n true false (omega (arith, length-replicate {A = Bool} most_nodes false)))
        ∙ sym e
    alone m l false e =
        get_or-set_other (replicate most_nodes false) n m true false (λ q. eqb-false n m e (sym q)) ∙ get_or-replicate most_nodes m false false l ∙ sym e

-- a start that is kept where places are few, further on
shift_kept : (k j : ℕ) (o s : Outcome) → k + j ≤ most_size → Like j o s → Below j o → kept (shift k s) ≡ shift k o
shift_kept k j Dead s few like b = ap (λ x. kept (shift k x)) like
shift_kept k j Done s few like b = ap (λ x. kept (shift k x)) like
shift_kept k j (At p) s few like b =
    let q : like.0 ≡ p = like.3 (omega arith) in
    ap (λ x. kept (shift k x)) like.1 ∙ ap At (let z : min (k + like.0) most_size ≡ k + p = omega arith in z)

module _ (c : Course) (n : ℕ) (small : SmallChoice c n) where
  abbrev is_in : ℕ → Bool
  is_in k = in_family (nodes_of c) n k

  abbrev part : ℕ → Member
  part k = member_of (walk (nodes_of c) k) (node (nodes_of c) k)

  plain : (m : ℕ) → is_in m ≡ true → is_loop (node (nodes_of c) m) ≡ false
  plain m i = member_plain (nodes_of c) (letters_of c) c.checked.grounds.sound n small.choice.0 small.choice.1 m i

  not_after : (m : ℕ) → is_in m ≡ true → m ≤ n
  not_after m i = member_le (nodes_of c) (letters_of c) c.checked.grounds.sound n m i

  plain_size : (m : ℕ) → is_in m ≡ true → (walk (nodes_of c) m).size ≡ size (nodes_of c) m
  plain_size m i = walk_size (letters_of c) (nodes_of c) c.checked.grounds.sound m (plain m i)

  earlier : (m : ℕ) → is_in m ≡ true → ((cs : List (ℕ × ℕ)) → node (nodes_of c) m ≡ Choice cs → ⊥) → m < n
  earlier m i other = member_earlier (nodes_of c) (letters_of c) c.checked.grounds.sound n small.choice.0 small.choice.1 m i other

  abbrev known : ℕ → ℕ
  known = before 0 n (λ k. size (nodes_of c) k)

  each : (m : ℕ) (b : Bool) → is_in m ≡ b → cut (cond (is_in m) (places (part m)) 0) ≡ cut (cond (is_in m) (weight known m (node (nodes_of c) m)) 0)
  each m true i =
      ap (λ v. cut (cond (is_in m) v 0))
      (places_weight (walk (nodes_of c) m) known m (node (nodes_of c) m) (λ other. plain_size m i ∙ sym (before_lt 0 n (λ k. size (nodes_of c) k) m (earlier m i other))))
  each m false i = ap (λ b. cut (cond b (places (part m)) 0)) i ∙ sym (ap (λ b. cut (cond b (weight known m (node (nodes_of c) m)) 0)) i)

  -- the places of the family are those of the Choice
  whole_family : offset is_in part (suc n) ≡ size (nodes_of c) n
  whole_family =
      let same : cut (offset is_in part (suc n)) ≡ cut (size (nodes_of c) n) =
      total_cut (λ m. cond (is_in m) (places (part m)) 0) (λ m. cond (is_in m) (weight known m (node (nodes_of c) m)) 0) (suc n) (λ m h. each m (is_in m) refl)
      ∙ sym (ap cut (size_is (nodes_of c) n ∙ ap (λ x. size_by (nodes_of c) known n x) small.choice.1)) in
      omega (arith, small.few)

  inside : (m : ℕ) → is_in m ≡ true → offset is_in part m + places (part m) ≤ most_size
  inside m i =
      omega (
        arith,
        offset_next is_in part m i,
        whole_family,
        small.few,
        offset_rises is_in part (suc m) (suc n) (let h = not_after m i in omega arith),
      )

  whole_inside : (m : ℕ) → is_in m ≡ true → part m ≡ Whole (walk (nodes_of c) m) → offset is_in part m + size (nodes_of c) m ≤ most_size
  whole_inside m i w = omega (arith, inside m i, ap places w, plain_size m i)

  -- what a member counts, from its size as it is kept
  weighs : (m : ℕ) → is_in m ≡ true → weight_kept c m ≡ places (part m)
  weighs m i =
      sym (places_weight (walk (nodes_of c) m) (λ k. cut (size (nodes_of c) k)) m (node (nodes_of c) m) (λ other. elim (choice_or_whole (walk (nodes_of c) m) (node (nodes_of c) m)) [
        | inl q ↦ absurd (other q.0 q.1)
        | inr w ↦ plain_size m i ∙ (let z : size (nodes_of c) m ≡ cut (size (nodes_of c) m) = omega (arith, whole_inside m i w) in z)
      ]))

  pub enters_choice : (offsets : List ℕ) (m : ℕ) (cs : List (ℕ × ℕ)) → OffsetsKept c n offsets → is_in m ≡ true → node (nodes_of c) m ≡ Choice cs
      → At (get_or offsets m 0) ≡ enter is_in part m
  enters_choice offsets m cs ok i e = ap At (ok m (not_after m i)) ∙ sym (ap (λ x. enter_member is_in part m (member_of (walk (nodes_of c) m) x)) e)

  same_walk : (m : ℕ) → is_in m ≡ true → course (nodes_of c) m ≡ walk (nodes_of c) m
  same_walk m i = course_plain (letters_of c) (nodes_of c) c.checked.grounds.sound m (plain m i)

  pub enters_whole : (offsets : List ℕ) (m : ℕ) (s : Outcome) → OffsetsKept c n offsets → is_in m ≡ true → part m ≡ Whole (walk (nodes_of c) m) → m < length (nodes_of c)
      → Like (size (nodes_of c) m) (course (nodes_of c) m).start s → kept (shift (get_or offsets m 0) s) ≡ enter is_in part m
  enters_whole offsets m s ok i w h like =
      ap (λ k. kept (shift k s)) (ok m (not_after m i))
      ∙ shift_kept (offset is_in part m) (size (nodes_of c) m) (course (nodes_of c) m).start s (whole_inside m i w) like (course_starts (letters_of c) (nodes_of c) c.checked.grounds.sound m h)
      ∙ ap (λ v. shift (offset is_in part m) v.start) (same_walk m i)
      ∙ sym (ap (λ x. enter_member is_in part m x) w)

  set_written : (offsets : List ℕ) (m so_far : ℕ) → m < length offsets → Written c n offsets m so_far → (k : ℕ) → k < m + 1
      → get_or (set offsets m so_far) k 0 ≡ offset is_in part k
  set_written offsets m so_far long so = set_more 0 (λ k. offset is_in part k) offsets m so_far long so.1 so.0

  module _ (offsets : List ℕ) (m so_far : ℕ) (so : Written c n offsets m so_far) where
    pub written_fits : (b : Bool) → b ≡ is_in m → b ≡ true → so_far + weight_kept c m ≤ most_size
    written_fits b e t = omega (arith, so.0, inside m (sym e ∙ t), weighs m (sym e ∙ t))

    pub written_more : (b : Bool) → b ≡ is_in m → b ≡ true → m < length offsets → Written c n (set offsets m so_far) (m + 1) (so_far + weight_kept c m)
    written_more b e t long =
        let next : offset is_in part (suc m) ≡ offset is_in part m + places (part m) = offset_next is_in part m (sym e ∙ t) in
        let one : suc m ≡ m + 1 = omega arith in
        let same = ap (λ k. offset is_in part k) one in
        (omega (arith, so.0, weighs m (sym e ∙ t), next, same), set_written offsets m so_far long so)

    pub written_skip : (b : Bool) → b ≡ is_in m → b ≡ false → m < length offsets → Written c n (set offsets m so_far) (m + 1) so_far
    written_skip b e t long =
        let one : suc m ≡ m + 1 = omega arith in
        (so.0 ∙ sym (offset_skip is_in part m (sym e ∙ t)) ∙ ap (λ k. offset is_in part k) one, set_written offsets m so_far long so)

  -- the place is before the end of the family
  pub falling_all : (p k : ℕ) → p < size (nodes_of c) n → k ≡ cut (size (nodes_of c) n) → Falling c n p (n + 1) k
  falling_all p k h e =
      let one : suc n ≡ n + 1 = omega arith in
      let whole : k ≡ offset is_in part (suc n) = omega (arith, whole_family, small.few) in
      (whole ∙ ap (λ j. offset is_in part j) one, omega (arith, small.few))

  -- one node down
  module _ (p m first : ℕ) (so : Falling c n p m first) (b : Bool) (e : b ≡ is_in (m - 1)) (h : 0 < m) where
    from_next : first ≡ offset is_in part (suc (m - 1))
    from_next = let one : m ≡ suc (m - 1) = omega arith in so.0 ∙ ap (λ k. offset is_in part k) one

    pub falling_skip : b ≡ false → Falling c n p (m - 1) first
    falling_skip t = (from_next ∙ offset_skip is_in part (m - 1) (sym e ∙ t), so.1)

    module _ (t : b ≡ true) (k : ℕ) (w : k ≡ weight_kept c (m - 1)) where
      falls : first ≡ offset is_in part (m - 1) + k
      falls = omega (arith, from_next, offset_next is_in part (m - 1) (sym e ∙ t), weighs (m - 1) (sym e ∙ t))

      pub falling_fits : k ≤ first
      falling_fits = omega (arith, falls)

      first_is : first - k ≡ offset is_in part (m - 1)
      first_is = omega (arith, falls)

      pub falling_more : p < first - k → Falling c n p (m - 1) (first - k)
      falling_more low = (first_is, low)

      pub falling_found : first - k ≤ p → m ≤ n + 1 → Found c n p (m - 1) (first - k)
      falling_found low last =
          (sym (locate_at is_in part (suc n) (m - 1) p (omega arith) (omega (arith, first_is)) (omega (arith, so.1, from_next))), first_is)

  -- the member that a place belongs to
  module _ (p m k : ℕ) (h : p < size (nodes_of c) n) (at : Found c n p m k) where
    found : Located is_in part (suc n) p m
    found = subst (λ x. Located is_in part (suc n) p x) (sym at.0) (located is_in part (suc n) p (omega (arith, whole_family)))

    found_within : m < length (nodes_of c)
    found_within = omega (arith, found.below, small.within)

    step_here : (l : ℕ) → (course (nodes_of c) n).step p l ≡ step_member is_in part m p l (part m)
    step_here l =
        course_choice_step (letters_of c) (nodes_of c) c.checked.grounds.sound n p l small.choice.0 small.choice.1
        ∙ sym (ap (λ x. step_member is_in part x p l (part x)) at.0)

    belongs : part m ≡ Whole (walk (nodes_of c) m) → Belongs c n p m k
    belongs w = record {
      earlier = before_n;
      past = omega (arith, at.1, found.low);
      place = record {
        within = omega (arith, before_n, small.within);
        few = omega (arith, whole_inside m found.is_one w);
        inside = omega (arith, at.1, found.low, found.high, offset_next is_in part m found.is_one, ap places w, plain_size m found.is_one);
      };
      leads = λ l.
          step_here l
          ∙ ap (λ x. step_member is_in part m p l x) w
          ∙ sym (ap (λ v. shift (offset is_in part m) (v.step (p - offset is_in part m) l)) (same_walk m found.is_one))
          ∙ sym (ap (λ j. shift j ((course (nodes_of c) m).step (p - j) l)) at.1);
    }
      where
        before_n : m < n
        before_n = earlier m found.is_one (λ cs e. whole_not_branches (walk (nodes_of c) m) cs (sym w ∙ ap (λ x. member_of (walk (nodes_of c) m) x) e))

    module _ (cs : List (ℕ × ℕ)) (e : node (nodes_of c) m ≡ Choice cs) (l : ℕ) where
      leads_by : (course (nodes_of c) n).step p l ≡ enter_target is_in part (target cs l)
      leads_by = step_here l ∙ ap (λ x. step_member is_in part m p l (member_of (walk (nodes_of c) m) x)) e

      family_to : (to : Option ℕ) → target cs l ≡ to → OfFamily c n to
      family_to None q = tt
      family_to (Some k) q =
          family_member (nodes_of c) (letters_of c) c.checked.grounds.sound (family_more (nodes_of c) l (member_family (nodes_of c) n m found.is_one) e (target_branch cs l k q))

      leads_in_family : OfFamily c n (target cs l)
      leads_in_family = family_to (target cs l) refl

      file_to : (to : Option ℕ) → target cs l ≡ to → OfFile c to
      file_to None q = tt
      file_to (Some k) q = let b = (branch_earlier (letters_of c) (nodes_of c) c.checked.grounds.sound l e (target_branch cs l k q)).0 in omega (arith, found_within)

      leads_in_file : OfFile c (target cs l)
      leads_in_file = file_to (target cs l) refl

-- what is known of the member m that the place p of n belongs to, and of its first place k
pub record Stands (c : Course) (n p m k : ℕ) : Type 0 where
  pub within : m < length (nodes_of c)
  pub whole : member_of (walk (nodes_of c) m) (node (nodes_of c) m) ≡ Whole (walk (nodes_of c) m) → Belongs c n p m k
  pub names : (cs : List (ℕ × ℕ)) → node (nodes_of c) m ≡ Choice cs → (l : ℕ) → OfFile c (target cs l)
  pub leads : (offsets : List ℕ) → OffsetsKept c n offsets → (cs : List (ℕ × ℕ)) → node (nodes_of c) m ≡ Choice cs
      → (l : ℕ) (r : Outcome) → FamilyGoesOn c offsets (target cs l) r → r ≡ (course (nodes_of c) n).step p l

pub small_choice : (c : Course) (n p : ℕ) → PlaceOf c n p → ((bs : List (ℕ × ℕ)) × (node (nodes_of c) n ≡ Choice bs)) → SmallChoice c n
small_choice c n p place choice = record { within = place.within; few = place.few; choice = choice }

pub stands : (c : Course) (n p : ℕ) → PlaceOf c n p → ((bs : List (ℕ × ℕ)) × (node (nodes_of c) n ≡ Choice bs))
    → (m k : ℕ) → Found c n p m k → Stands c n p m k
stands c n p place choice m k at = record {
  within = found_within c n small p m k place.inside at;
  whole = belongs c n small p m k place.inside at;
  names = leads_in_file c n small p m k place.inside at;
  leads = λ offsets ok cs e l r goes.
      goes n small ok (leads_in_family c n small p m k place.inside at cs e l)
      ∙ sym (leads_by c n small p m k place.inside at cs e l);
}
  where
    small : SmallChoice c n
    small = small_choice c n p place choice
