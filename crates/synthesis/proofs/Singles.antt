-- Where the letters lead from the only place of a node, by its kind.
use Rattle.std.proofs.Common.{◌≡◌, ℕ, suc, ◌+◌, ◌-◌, ◌*◌, ◌/◌, ◌%◌, ◌<◌, ◌≤◌, Bool, true, false, cond, ◌&&◌, eqb, ◌⊎◌, List, length, get_or, Some, None, Option, sym, refl, ap, ◌∙◌, subst, ap₂, inl, inr, mul-zero, zero-mul, arith}
use native.Mathlib.Nat.{zero-div, zero-mod}
use lib.Bits.{bit_and}
use Rattle.std.proofs.lemmas.Nat.{mul-le}
use Rattle.std.proofs.lemmas.Bool.{cases_eq, eq-eqb, ne_eqb, lt-ltb, le-ltb}
use Rattle.property.specs.Nodes.{Node, Nothing, Choice, Sequence, Both, Lap, All, node, is_loop}
use Rattle.property.specs.Sized.{cut}
use Rattle.property.specs.Sizes.{in_family, size}
use Rattle.property.specs.Sound.{Sound}
use Rattle.property.proofs.Families.{branch_in_family, itself_in_family}
use Rattle.places.specs.Walks.{Walk, Member, member_of, places, shift, target, then_second, meet, walk, offset, enter_member, enter_target, step_at, step_member}
use Rattle.places.specs.Laps.{loop}
use Rattle.places.specs.declared.outcome.Outcome.{Outcome}
use Rattle.places.specs.declared.outcome.Outcome.TheVariants.{Dead, Done, At}
use Rattle.places.proofs.Branches.{sound_as, target_branch, branch_earlier}
use Rattle.places.proofs.Choices.{offset_rises, offset_next, locate_at}
use Rattle.places.proofs.Falling.{Below}
use Rattle.places.proofs.Sizes.{walk_size}
use Rattle.synthesis.specs.Kept.{bit, course}
use Rattle.synthesis.specs.Outcomes.{Like, lapped, leads_on, onto}
use Rattle.synthesis.specs.Singles.{is_at, is_done, ends_at}
use Rattle.synthesis.proofs.Bitwise.{bit_zero, and_bit}
use Rattle.synthesis.proofs.Starting.{size_nothing, size_sequence, size_both, size_all, size_lap, size_family, size_choice}
use Rattle.synthesis.proofs.Courses.{course_plain, course_loop, course_size, course_sequence, course_both, course_all_step, course_lap_step, course_choice_step, course_starts, course_stays, course_falls}

product_one : (x y : ℕ) → x * y ≡ 1 → (x ≡ 1) × (y ≡ 1)
product_one x y e = elim (cases_eq x 0) [
  | inl p ↦ absurd (omega (arith, sym e ∙ ap (λ v. v * y) p ∙ zero-mul y))
  | inr p ↦ elim (cases_eq y 0) [
    | inl q ↦ absurd (omega (arith, sym e ∙ ap (λ v. x * v) q ∙ mul-zero x))
    | inr q ↦
        let x_some : 0 < x = omega (arith, p) in
        let y_some : 0 < y = omega (arith, q) in
        let x_few : x * 1 ≤ x * y = mul-le x 1 x y (omega arith) (omega arith) in
        let y_few : 1 * y ≤ x * y = mul-le 1 y x y (omega arith) (omega arith) in
        (omega arith, omega arith)
  ]
]

-- a start that is no place is kept as it is
start_done : (k j : ℕ) (x s : Outcome) → Below 0 x → Like k x s → is_done s ≡ leads_on (shift j x)
start_done k j Dead s b h = ap is_done h
start_done k j Done s b h = ap is_done h
start_done k j (At p) s b h = absurd (omega arith)

either_way : (t : Bool) (w j : ℕ) → bit w j ≡ false → bit (cond t w 0) j ≡ false
either_way true w j h = h
either_way false w j h = bit_zero j

start_on : (k w j : ℕ) (x s : Outcome) → Below 0 x → Like k x s → bit w j ≡ true → bit (cond (is_done s) w 0) j ≡ leads_on x
start_on k w j Dead s b h e = ap (λ v. bit (cond (is_done v) w 0) j) h ∙ bit_zero j
start_on k w j Done s b h e = ap (λ v. bit (cond (is_done v) w 0) j) h ∙ e
start_on k w j (At p) s b h e = absurd (omega arith)

second_on : (k w j : ℕ) (b : Walk) (o s : Outcome) → Below 0 o → Below 0 b.start → Like k b.start s → bit w j ≡ leads_on o
    → bit (cond (is_done s) w 0) j ≡ leads_on (then_second b o)
second_on k w j b Dead s l i h e = either_way (is_done s) w j e
second_on k w j b Done s l i h e = start_on k w j b.start s i h e
second_on k w j b (At p) s l i h e = absurd (omega arith)

meet_ends : (k : ℕ) (x y : Outcome) → Below 0 x → Below 0 y → (leads_on x && leads_on y) ≡ leads_on (meet k x y)
meet_ends k Dead y i h = refl
meet_ends k Done Dead i h = refl
meet_ends k Done Done i h = refl
meet_ends k Done (At q) i h = absurd (omega arith)
meet_ends k (At p) y i h = absurd (omega arith)

meet_places : (k : ℕ) (x y : Outcome) → (x ≡ Done → ⊥) → (y ≡ Done → ⊥) → (leads_on x && leads_on y) ≡ leads_on (meet k x y)
meet_places k Dead y i h = refl
meet_places k Done y i h = absurd (i refl)
meet_places k (At p) Dead i h = refl
meet_places k (At p) Done i h = absurd (h refl)
meet_places k (At p) (At q) i h = refl

onto_place : (o : Option ℕ) → onto o ≡ Done → ⊥
onto_place None e = let z : ◌≡◌ {A = ℕ} 0 1 = cc in omega arith
onto_place (Some q) e = let z : ◌≡◌ {A = ℕ} 0 1 = cc in omega arith

-- whether a letter leads on says where
plain_one : (o : Outcome) → Below 0 o → cond (leads_on o) Done Dead ≡ o
plain_one Dead b = refl
plain_one Done b = refl
plain_one (At p) b = absurd (omega arith)

loop_one : (o : Outcome) → (o ≡ Done → ⊥) → Below 1 o → cond (leads_on o) (At 0) Dead ≡ o
loop_one Dead n b = refl
loop_one Done n b = absurd (n refl)
loop_one (At p) n b = let e : 0 ≡ p = omega arith in ap At e

lap_at : (s : ℕ) (o : Outcome) → leads_on o ≡ leads_on (lapped (At s) o)
lap_at s Dead = refl
lap_at s Done = refl
lap_at s (At p) = refl

module _ (alphabet : List ℕ) (nodes : List Node) (sound : Sound alphabet nodes) where
  pub nothing_none : (n : ℕ) → node nodes n ≡ Nothing → size nodes n ≡ 1 → ⊥
  nothing_none n e one = omega (arith, size_nothing alphabet nodes sound n e)

  -- a branch names an earlier node
  pub choice_below : (n l m : ℕ) (bs : List (ℕ × ℕ)) → node nodes n ≡ Choice bs → target bs l ≡ Some m → m < n
  choice_below n l m bs e t = (branch_earlier alphabet nodes sound l e (target_branch bs l m t)).0

  -- a loop's letter never ends it
  loop_place : (n p l : ℕ) → is_loop (node nodes n) ≡ true → (course nodes n).step p l ≡ Done → ⊥
  loop_place n p l q e = onto_place ((loop nodes n).next p l) (sym (ap (λ w. w.step p l) (course_loop alphabet nodes sound n q)) ∙ e)

  -- from the only place of a node of kinds 2 to 5 the letters lead to no other
  plain_falls : (n l : ℕ) → n < length nodes → is_loop (node nodes n) ≡ false → size nodes n ≡ 1 → Below 0 ((course nodes n).step 0 l)
  plain_falls n l h q one = course_falls alphabet nodes sound n 0 l h q (omega arith)

  -- the bits w of a node say by which letters it leads on
  abbrev Says : ℕ → ℕ → ℕ → ℕ → Type 0
  Says n l j w = size nodes n ≡ 1 → bit w j ≡ leads_on ((course nodes n).step 0 l)

  pub sequence_ones : (n a b l j v w k : ℕ) (s : Outcome) → n < length nodes → node nodes n ≡ Sequence a b → k ≡ cut (size nodes b) → Like (size nodes b) (course nodes b).start s
      → Says a l j v → Says b l j w → Says n l j (cond (eqb k 1) w (cond (is_done s) v 0))
  sequence_ones n a b l j v w k s h e z like va wb one = elim (cases_eq (size nodes b) 1) [
    | inl q ↦ ap (λ t. bit (cond t w (cond (is_done s) v 0)) j) (eq-eqb k 1 (omega arith)) ∙ wb q ∙ sym (ap leads_on (in_second q))
    | inr q ↦ ap (λ t. bit (cond t w (cond (is_done s) v 0)) j) (ne_eqb k 1 (λ p. q (omega arith))) ∙ past (omega (arith, sums, q))
  ]
    where
      sums : size nodes n ≡ size nodes a + size nodes b
      sums = size_sequence alphabet nodes sound n a b e

      in_second : size nodes b ≡ 1 → (course nodes n).step 0 l ≡ (course nodes b).step 0 l
      in_second q =
          ap (λ x. x.step 0 l) (course_sequence alphabet nodes sound n a b e)
          ∙ ap (λ t. cond t ((course nodes b).step 0 l) (then_second (course nodes b) ((course nodes a).step (0 - (course nodes b).size) l)))
          (lt-ltb 0 (course nodes b).size (omega (arith, course_size alphabet nodes sound b, q)))

      in_first : size nodes b ≡ 0 → (course nodes n).step 0 l ≡ then_second (course nodes b) ((course nodes a).step 0 l)
      in_first q =
          let none : 0 - (course nodes b).size ≡ 0 = omega arith in
          ap (λ x. x.step 0 l) (course_sequence alphabet nodes sound n a b e)
          ∙ ap (λ t. cond t ((course nodes b).step 0 l) (then_second (course nodes b) ((course nodes a).step (0 - (course nodes b).size) l)))
          (le-ltb 0 (course nodes b).size (omega (arith, course_size alphabet nodes sound b, q)))
          ∙ ap (λ x. then_second (course nodes b) ((course nodes a).step x l)) none

      past : size nodes b ≡ 0 → bit (cond (is_done s) v 0) j ≡ leads_on ((course nodes n).step 0 l)
      past q =
          let a_one : size nodes a ≡ 1 = omega (arith, sums) in
          let f = sound_as alphabet nodes sound n (Sequence a b) e in
          second_on (size nodes b) v j (course nodes b) ((course nodes a).step 0 l) s
          (plain_falls a l (omega (arith, f.0.0)) f.0.1 a_one)
          (subst (λ x. Below x (course nodes b).start) q (course_starts alphabet nodes sound b (omega (arith, f.1.0)))) like (va a_one)
          ∙ sym (ap leads_on (in_first q))

  product_step : (a b l : ℕ)
      → meet (course nodes b).size ((course nodes a).step (0 / (course nodes b).size) l) ((course nodes b).step (0 % (course nodes b).size) l) ≡ meet (course nodes b).size ((course nodes a).step 0 l) ((course nodes b).step 0 l)
  product_step a b l = ap₂ (λ x y. meet (course nodes b).size ((course nodes a).step x l) ((course nodes b).step y l)) (zero-div (course nodes b).size) (zero-mod (course nodes b).size)

  pub product_ones : (n a b l j v w : ℕ) → n < length nodes → (node nodes n ≡ Both a b) ⊎ (node nodes n ≡ All a b) → Says a l j v → Says b l j w → Says n l j (bit_and v w)
  product_ones n a b l j v w h (inl e) va wb one =
      let s = sound_as alphabet nodes sound n (Both a b) e in
      let f = product_one (size nodes a) (size nodes b) (sym (size_both alphabet nodes sound n a b e) ∙ one) in
      and_bit v w j
      ∙ ap₂ (λ x y. x && y) (va f.0) (wb f.1)
      ∙ meet_ends (course nodes b).size ((course nodes a).step 0 l) ((course nodes b).step 0 l)
      (plain_falls a l (omega (arith, s.0.0)) s.0.1 f.0) (plain_falls b l (omega (arith, s.1.0)) s.1.1 f.1)
      ∙ sym (ap leads_on (ap (λ x. x.step 0 l) (course_both alphabet nodes sound n a b e) ∙ product_step a b l))
  product_ones n a b l j v w h (inr e) va wb one =
      let s = sound_as alphabet nodes sound n (All a b) e in
      let f = product_one (size nodes a) (size nodes b) (sym (size_all alphabet nodes sound n a b e) ∙ one) in
      and_bit v w j
      ∙ ap₂ (λ x y. x && y) (va f.0) (wb f.1)
      ∙ meet_places (course nodes b).size ((course nodes a).step 0 l) ((course nodes b).step 0 l) (loop_place a 0 l s.0.1) (loop_place b 0 l s.1.1)
      ∙ sym (ap leads_on (course_all_step alphabet nodes sound n a b 0 l e ∙ product_step a b l))

  lap_from_start : (n a l j w : ℕ) (x s : Outcome) → node nodes n ≡ Lap a → (course nodes a).start ≡ x → Below (size nodes a) x → Like (size nodes a) x s → Says a l j w → Says n l j (cond (is_at s) w 0)
  lap_from_start n a l j w Dead s e c b k wa one =
      ap (λ v. bit (cond (is_at v) w 0) j) k
      ∙ bit_zero j
      ∙ sym (ap leads_on (course_lap_step alphabet nodes sound n a 0 l e ∙ ap (λ y. lapped y ((course nodes a).step 0 l)) c))
  lap_from_start n a l j w Done s e c b k wa one =
      ap (λ v. bit (cond (is_at v) w 0) j) k
      ∙ bit_zero j
      ∙ sym (ap leads_on (course_lap_step alphabet nodes sound n a 0 l e ∙ ap (λ y. lapped y ((course nodes a).step 0 l)) c))
  lap_from_start n a l j w (At i) s e c b k wa one =
      let a_one : size nodes a ≡ 1 = omega (arith, size_lap alphabet nodes sound n a e) in
      ap (λ v. bit (cond (is_at v) w 0) j) k.1
      ∙ wa a_one
      ∙ lap_at i ((course nodes a).step 0 l)
      ∙ sym (ap leads_on (course_lap_step alphabet nodes sound n a 0 l e ∙ ap (λ y. lapped y ((course nodes a).step 0 l)) c))

  -- a Lap leads on as its node where that starts at a place, and else nowhere
  pub lap_ones : (n a l j w : ℕ) (s : Outcome) → n < length nodes → node nodes n ≡ Lap a → Like (size nodes a) (course nodes a).start s → Says a l j w → Says n l j (cond (is_at s) w 0)
  lap_ones n a l j w s h e k wa =
      lap_from_start n a l j w (course nodes a).start s e refl (course_starts alphabet nodes sound a (omega (arith, (sound_as alphabet nodes sound n (Lap a) e).0.0))) k wa

  module _ (n : ℕ) (bs : List (ℕ × ℕ)) (e : node nodes n ≡ Choice bs) where
    abbrev is_one : ℕ → Bool
    is_one m = in_family nodes n m

    abbrev part : ℕ → Member
    part m = member_of (walk nodes m) (node nodes m)

    module _ (one : size nodes n ≡ 1) where
      last_part : offset is_one part (suc n) ≡ offset is_one part n + 1
      last_part = sym (size_family alphabet nodes sound n bs e) ∙ size_choice alphabet nodes sound n bs e

      first : offset is_one part n ≡ 0
      first = omega (arith, size_choice alphabet nodes sound n bs e)

      at_first : (l : ℕ) → (course nodes n).step 0 l ≡ enter_target is_one part (target bs l)
      at_first l =
          course_choice_step alphabet nodes sound n 0 l bs e
          ∙ ap (λ x. step_at is_one part x 0 l) (locate_at is_one part (suc n) n 0 (omega arith) (omega (arith, first)) (omega (arith, last_part)))
          ∙ ap (λ x. step_member is_one part n 0 l (member_of (walk nodes n) x)) e

      -- a member that is no Choice has no place
      whole : (m : ℕ) (s : Outcome) → m < length nodes → is_loop (node nodes m) ≡ false → (walk nodes m).size ≡ 0 → Like (size nodes m) (course nodes m).start s
          → is_done s ≡ leads_on (shift (offset is_one part m) (walk nodes m).start)
      whole m s h p z k =
          let none : size nodes m ≡ 0 = sym (walk_size alphabet nodes sound m p) ∙ z in
          start_done (size nodes m) (offset is_one part m) (course nodes m).start s (subst (λ x. Below x (course nodes m).start) none (course_starts alphabet nodes sound m h)) k
          ∙ ap (λ w. leads_on (shift (offset is_one part m) w.start)) (course_plain alphabet nodes sound m p)

      member_done : (m : ℕ) (s : Outcome) → m < length nodes → is_loop (node nodes m) ≡ false → Like (size nodes m) (course nodes m).start s
          → (x : Node) → places (member_of (walk nodes m) x) ≡ 0 → is_done s ≡ leads_on (enter_member is_one part m (member_of (walk nodes m) x))
      member_done m s h p k Nothing z = whole m s h p z k
      member_done m s h p k (Choice cs) z = absurd (omega arith)
      member_done m s h p k (Sequence a b) z = whole m s h p z k
      member_done m s h p k (Both a b) z = whole m s h p z k
      member_done m s h p k (Lap a) z = whole m s h p z k
      member_done m s h p k (All a b) z = whole m s h p z k

      target_done : (l : ℕ) (starts : List Outcome) → n < length nodes → ((m : ℕ) → m < length nodes → Like (size nodes m) (course nodes m).start (get_or starts m Dead))
          → (o : Option ℕ) → target bs l ≡ o → ends_at starts o ≡ leads_on (enter_target is_one part o)
      target_done l starts h kept None t = refl
      target_done l starts h kept (Some m) t =
          let b = target_branch bs l m t in
          let f = branch_earlier alphabet nodes sound l e b in
          let i = branch_in_family nodes n m l m bs e b f.0 (itself_in_family nodes m) in
          let up : offset is_one part (suc m) ≤ offset is_one part n = offset_rises is_one part (suc m) n f.0 in
          let next : offset is_one part (suc m) ≡ offset is_one part m + places (part m) = offset_next is_one part m i in
          let z : places (part m) ≡ 0 = omega (arith, first, up, next) in
          member_done m (get_or starts m Dead) (omega (arith, f.0)) f.1 (kept m (omega (arith, f.0))) (node nodes m) z

      pub choice_ones : (l : ℕ) (starts : List Outcome) → n < length nodes → ((m : ℕ) → m < length nodes → Like (size nodes m) (course nodes m).start (get_or starts m Dead))
          → ends_at starts (target bs l) ≡ leads_on ((course nodes n).step 0 l)
      choice_ones l starts h kept = target_done l starts h kept (target bs l) refl ∙ sym (ap leads_on (at_first l))

  -- where a letter leads, from whether it leads on
  pub one_row : (n l w j : ℕ) → n < length nodes → size nodes n ≡ 1 → Says n l j w → cond (bit w j) (cond (is_loop (node nodes n)) (At 0) Done) Dead ≡ (course nodes n).step 0 l
  one_row n l w j h one says = ap (λ t. cond t (cond (is_loop (node nodes n)) (At 0) Done) Dead) (says one) ∙ by_kind (is_loop (node nodes n)) refl
    where
      by_kind : (t : Bool) → is_loop (node nodes n) ≡ t → cond (leads_on ((course nodes n).step 0 l)) (cond t (At 0) Done) Dead ≡ (course nodes n).step 0 l
      by_kind true q = loop_one ((course nodes n).step 0 l) (loop_place n 0 l q) (subst (λ x. Below x ((course nodes n).step 0 l)) one (course_stays alphabet nodes sound n 0 l h (omega arith)))
      by_kind false q = plain_one ((course nodes n).step 0 l) (plain_falls n l h q one)
