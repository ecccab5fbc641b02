-- Where the walk of a node starts, as it is kept, from the starts of the earlier nodes.
use Rattle.std.proofs.Common.{◌≡◌, ℕ, zero, suc, ◌+◌, ◌-◌, ◌*◌, ◌<◌, ◌≤◌, min, max, ◌⊎◌, List, length, get_or, set, sym, refl, ap, ◌∙◌, subst, ap₂, inl, inr, mul_comm, mul-suc, arith, get_or-set_other, get_or-set_same}
use lib.Arith.{digits_lt}
use Rattle.std.proofs.lemmas.Bool.{cases_lt}
use Rattle.property.specs.Nodes.{Node, Nothing, Choice, Sequence, Both, Lap, All, node}
use Rattle.property.specs.Numbered.{before}
use Rattle.property.specs.Sized.{most_size, cut}
use Rattle.property.specs.Sizes.{in_family, size}
use Rattle.property.specs.Sound.{Sound}
use Rattle.property.proofs.Families.{itself_in_family}
use Rattle.property.proofs.Numbering.{before_lt}
use Rattle.places.specs.Walks.{Walk, walk, nothing_walk, then_second, meet, places, offset, enter_member, member_of}
use Rattle.places.specs.declared.outcome.Outcome.{Outcome}
use Rattle.places.specs.declared.outcome.Outcome.TheVariants.{Dead, Done, At}
use Rattle.places.proofs.Branches.{sound_as}
use Rattle.places.proofs.Choices.{offset_next}
use Rattle.places.proofs.Equations.{size_of_kind}
use Rattle.places.proofs.Falling.{Below}
use Rattle.synthesis.specs.Courses.{StartsBefore, checked_nodes, course}
use Rattle.synthesis.specs.Outcomes.{Like, after_first, kept, lap_start}
use Rattle.synthesis.specs.declared.course.CheckedFile.{CheckedFile}
use Rattle.synthesis.proofs.Courses.{offset_same, members_agree, course_by, course_size, course_starts, course_nothing, course_sequence, course_both, course_all_start, course_lap_start, course_choice_start}

like_same : (j k : ℕ) (o s r : Outcome) → j ≡ k → o ≡ s → Like k s r → Like j o r
like_same j k o s r e f l = subst (λ x. Like x o r) (sym e) (subst (λ x. Like k x r) (sym f) l)

pub like_more : (j k : ℕ) (o r : Outcome) → j ≤ k → Like j o r → Like k o r
like_more j k Dead r h l = l
like_more j k Done r h l = l
like_more j k (At p) r h l = (l.0, l.1, l.2, λ g. l.3 (omega arith))

-- what is kept of an outcome is kept as it is
pub like_kept : (k : ℕ) (o r : Outcome) → Like k o r → r ≡ kept r
like_kept k Dead r l = l ∙ sym (ap kept l)
like_kept k Done r l = l ∙ sym (ap kept l)
like_kept k (At p) r l = let z : l.0 ≡ min l.0 most_size = omega (arith, l.2) in l.1 ∙ ap At z ∙ sym (ap kept l.1)

pub then_second_is : (w : Walk) (o : Outcome) → then_second w o ≡ after_first w.size w.start o
then_second_is w Dead = refl
then_second_is w Done = refl
then_second_is w (At p) = refl

pub like_sequence : (j k : ℕ) (o s r t x : Outcome) → Below j o → Like j o r → Like k s t → x ≡ kept (after_first (cut k) t r) → Like (j + k) (after_first k s o) x
like_sequence j k Dead s r t x b l m e = e ∙ ap (λ y. kept (after_first (cut k) t y)) l
like_sequence j k Done s r t x b l m e =
    subst (λ y. Like (j + k) s y) (sym (e ∙ ap (λ y. kept (after_first (cut k) t y)) l ∙ sym (like_kept k s t m))) (like_more k (j + k) s t (omega arith) m)
like_sequence j k (At p) s r t x b l m e =
    let z : p < j = b in
    (min (cut k + l.0) most_size, e ∙ ap (λ y. kept (after_first (cut k) t y)) l.1, omega arith, λ g. let q : l.0 ≡ p = l.3 (omega arith) in omega arith)

factor_le : (j k : ℕ) → 1 ≤ k → j ≤ j * k
factor_le j zero h = absurd (omega arith)
factor_le j (suc k) h = omega (arith, mul-suc j k)

exact_product : (j k p q x y : ℕ) → p < j → q < k → (j ≤ most_size → x ≡ p) → (k ≤ most_size → y ≡ q) → j * k ≤ most_size → min (x * cut k + y) most_size ≡ p * k + q
exact_product j k p q x y b d f g h =
    let u : j ≤ j * k = factor_le j k (omega arith) in
    let v : k ≤ k * j = factor_le k j (omega arith) in
    let w : k * j ≡ j * k = mul_comm k j in
    let m : p * k + q < j * k = digits_lt b d in
    let c : cut k ≡ k = omega arith in
    ap (λ z. min z most_size) (ap₂ (λ a z. a * z + y) (f (omega arith)) c ∙ ap (λ z. p * k + z) (g (omega arith))) ∙ omega arith

pub like_product : (j k : ℕ) (o s r t x : Outcome) → Below j o → Below k s → Like j o r → Like k s t → x ≡ kept (meet (cut k) r t) → Like (j * k) (meet k o s) x
like_product j k Dead s r t x b d l m e = e ∙ ap (λ y. kept (meet (cut k) y t)) l
like_product j k Done Dead r t x b d l m e = e ∙ ap₂ (λ y z. kept (meet (cut k) y z)) l m
like_product j k Done Done r t x b d l m e = e ∙ ap₂ (λ y z. kept (meet (cut k) y z)) l m
like_product j k Done (At q) r t x b d l m e = e ∙ ap₂ (λ y z. kept (meet (cut k) y z)) l m.1
like_product j k (At p) Dead r t x b d l m e = e ∙ ap₂ (λ y z. kept (meet (cut k) y z)) l.1 m
like_product j k (At p) Done r t x b d l m e = e ∙ ap₂ (λ y z. kept (meet (cut k) y z)) l.1 m
like_product j k (At p) (At q) r t x b d l m e = (
  min (l.0 * cut k + m.0) most_size,
  e ∙ ap₂ (λ y z. kept (meet (cut k) y z)) l.1 m.1,
  omega arith,
  exact_product j k p q l.0 m.0 b d l.3 m.3,
)

pub like_lap : (k : ℕ) (o r : Outcome) → Like k o r → Like (max 1 k) (lap_start o) (lap_start r)
like_lap k Dead r l = (0, ap lap_start l, omega arith, λ g. refl)
like_lap k Done r l = (0, ap lap_start l, omega arith, λ g. refl)
like_lap k (At p) r l = (l.0, ap lap_start l.1, l.2, λ g. l.3 (omega arith))

module _ (alphabet : List ℕ) (nodes : List Node) (sound : Sound alphabet nodes) where
  size_before : (n m : ℕ) → m < n → before 0 n (λ k. size nodes k) m ≡ size nodes m
  size_before n m h = before_lt 0 n (λ k. size nodes k) m h

  pub size_nothing : (n : ℕ) → node nodes n ≡ Nothing → size nodes n ≡ 0
  size_nothing n e = size_of_kind nodes n Nothing e

  pub size_sequence : (n a b : ℕ) → node nodes n ≡ Sequence a b → size nodes n ≡ size nodes a + size nodes b
  size_sequence n a b e =
      let s = sound_as alphabet nodes sound n (Sequence a b) e in
      size_of_kind nodes n (Sequence a b) e ∙ ap₂ (λ x y. x + y) (size_before n a s.0.0) (size_before n b s.1.0)

  pub size_both : (n a b : ℕ) → node nodes n ≡ Both a b → size nodes n ≡ size nodes a * size nodes b
  size_both n a b e =
      let s = sound_as alphabet nodes sound n (Both a b) e in
      size_of_kind nodes n (Both a b) e ∙ ap₂ (λ x y. x * y) (size_before n a s.0.0) (size_before n b s.1.0)

  pub size_all : (n a b : ℕ) → node nodes n ≡ All a b → size nodes n ≡ size nodes a * size nodes b
  size_all n a b e =
      let s = sound_as alphabet nodes sound n (All a b) e in
      size_of_kind nodes n (All a b) e ∙ ap₂ (λ x y. x * y) (size_before n a s.0.0) (size_before n b s.1.0)

  pub size_product : (n a b : ℕ) → (node nodes n ≡ Both a b) ⊎ (node nodes n ≡ All a b) → size nodes n ≡ size nodes a * size nodes b
  size_product n a b (inl e) = size_both n a b e
  size_product n a b (inr e) = size_all n a b e

  pub size_lap : (n a : ℕ) → node nodes n ≡ Lap a → size nodes n ≡ max 1 (size nodes a)
  size_lap n a e = let s = sound_as alphabet nodes sound n (Lap a) e in size_of_kind nodes n (Lap a) e ∙ ap (λ x. max 1 x) (size_before n a s.0.0)

  -- a Choice's places are those of its family, its own the last
  pub size_family : (n : ℕ) (bs : List (ℕ × ℕ)) → node nodes n ≡ Choice bs
      → size nodes n ≡ offset (λ m. in_family nodes n m) (λ m. member_of (walk nodes m) (node nodes m)) (suc n)
  size_family n bs e =
      sym (course_size alphabet nodes sound n)
      ∙ ap (λ w. w.size) (course_by alphabet nodes sound n (Choice bs) e refl)
      ∙ offset_same (λ m. in_family nodes n m) (λ m. member_of (before nothing_walk n (λ k. walk nodes k) m) (node nodes m)) (λ m. member_of (walk nodes m) (node nodes m)) n
      (members_agree alphabet nodes sound n bs e) (suc n) (omega arith)

  pub size_choice : (n : ℕ) (bs : List (ℕ × ℕ)) → node nodes n ≡ Choice bs
      → size nodes n ≡ offset (λ m. in_family nodes n m) (λ m. member_of (walk nodes m) (node nodes m)) n + 1
  size_choice n bs e =
      size_family n bs e
      ∙ offset_next (λ m. in_family nodes n m) (λ m. member_of (walk nodes m) (node nodes m)) n (itself_in_family nodes n)
      ∙ ap (λ x. offset (λ m. in_family nodes n m) (λ m. member_of (walk nodes m) (node nodes m)) n + places (member_of (walk nodes n) x)) e

  pub choice_starts_at : (n : ℕ) (bs : List (ℕ × ℕ)) → node nodes n ≡ Choice bs
      → (course nodes n).start ≡ At (offset (λ m. in_family nodes n m) (λ m. member_of (walk nodes m) (node nodes m)) n)
  choice_starts_at n bs e =
      course_choice_start alphabet nodes sound n bs e
      ∙ ap (λ x. enter_member (λ m. in_family nodes n m) (λ m. member_of (walk nodes m) (node nodes m)) n (member_of (walk nodes n) x)) e

-- the start of a node, by its kind
module _ (f : CheckedFile) (starts : List Outcome) (n : ℕ) (within : n < length (checked_nodes f)) (before_n : StartsBefore (checked_nodes f) starts n) where
  abbrev StartsWith : Outcome → Type 0
  StartsWith r = Like (size (checked_nodes f) n) (course (checked_nodes f) n).start r

  pub start_nothing : node (checked_nodes f) n ≡ Nothing → StartsWith Done
  start_nothing e = subst (λ w. Like (size (checked_nodes f) n) w.start Done) (sym (course_nothing _ _ f.grounds.sound n e)) refl

  pub start_choice : (bs : List (ℕ × ℕ)) (k : ℕ) → node (checked_nodes f) n ≡ Choice bs → k ≡ cut (size (checked_nodes f) n) → (1 ≤ k) × StartsWith (At (k - 1))
  start_choice bs k e z =
      let s = size_choice _ _ f.grounds.sound n bs e in
      (omega arith, subst (λ o. Like (size (checked_nodes f) n) o (At (k - 1))) (sym (choice_starts_at _ _ f.grounds.sound n bs e)) (k - 1, refl, omega arith, λ h. omega arith))

  below : (m : ℕ) → m < n → Below (size (checked_nodes f) m) (course (checked_nodes f) m).start
  below m h = course_starts _ _ f.grounds.sound m (omega arith)

  pub start_sequence : (a b k : ℕ) (r : Outcome) → node (checked_nodes f) n ≡ Sequence a b → k ≡ cut (size (checked_nodes f) b)
      → (get_or starts b Dead ≡ kept (get_or starts b Dead) → r ≡ kept (after_first k (get_or starts b Dead) (get_or starts a Dead))) → StartsWith r
  start_sequence a b k r e z v =
      let s = sound_as _ _ f.grounds.sound n (Sequence a b) e in
      like_same _ _ _ _ r (size_sequence _ _ f.grounds.sound n a b e)
      (ap (λ w. w.start) (course_sequence _ _ f.grounds.sound n a b e)
      ∙ then_second_is (course (checked_nodes f) b) (course (checked_nodes f) a).start
      ∙ ap (λ k. after_first k (course (checked_nodes f) b).start (course (checked_nodes f) a).start) (course_size _ _ f.grounds.sound b))
      (like_sequence (size (checked_nodes f) a) (size (checked_nodes f) b) _ _ _ _ r (below a s.0.0) (before_n a s.0.0) (before_n b s.1.0)
      (v (like_kept _ _ _ (before_n b s.1.0)) ∙ ap (λ j. kept (after_first j (get_or starts b Dead) (get_or starts a Dead))) z))

  product_start : (a b : ℕ) (r : Outcome) → a < n → b < n → size (checked_nodes f) n ≡ size (checked_nodes f) a * size (checked_nodes f) b
      → (course (checked_nodes f) n).start ≡ meet (course (checked_nodes f) b).size (course (checked_nodes f) a).start (course (checked_nodes f) b).start
      → r ≡ kept (meet (cut (size (checked_nodes f) b)) (get_or starts a Dead) (get_or starts b Dead)) → StartsWith r
  product_start a b r ha hb z e v =
      like_same _ _ _ _ r z (e ∙ ap (λ k. meet k (course (checked_nodes f) a).start (course (checked_nodes f) b).start) (course_size _ _ f.grounds.sound b))
      (like_product (size (checked_nodes f) a) (size (checked_nodes f) b) _ _ _ _ r (below a ha) (below b hb) (before_n a ha) (before_n b hb) v)

  pub start_product : (a b k : ℕ) (r : Outcome) → (node (checked_nodes f) n ≡ Both a b) ⊎ (node (checked_nodes f) n ≡ All a b) → k ≡ cut (size (checked_nodes f) b)
      → r ≡ kept (meet k (get_or starts a Dead) (get_or starts b Dead)) → StartsWith r
  start_product a b k r (inl e) z v =
      let s = sound_as _ _ f.grounds.sound n (Both a b) e in
      product_start a b r s.0.0 s.1.0 (size_both _ _ f.grounds.sound n a b e) (ap (λ w. w.start) (course_both _ _ f.grounds.sound n a b e))
      (v ∙ ap (λ j. kept (meet j (get_or starts a Dead) (get_or starts b Dead))) z)
  start_product a b k r (inr e) z v =
      let s = sound_as _ _ f.grounds.sound n (All a b) e in
      product_start a b r s.0.0 s.1.0 (size_all _ _ f.grounds.sound n a b e) (course_all_start _ _ f.grounds.sound n a b e)
      (v ∙ ap (λ j. kept (meet j (get_or starts a Dead) (get_or starts b Dead))) z)

  pub start_lap : (a : ℕ) (r : Outcome) → node (checked_nodes f) n ≡ Lap a → r ≡ lap_start (get_or starts a Dead) → StartsWith r
  start_lap a r e v =
      let s = sound_as _ _ f.grounds.sound n (Lap a) e in
      like_same _ _ _ _ r (size_lap _ _ f.grounds.sound n a e) (course_lap_start _ _ f.grounds.sound n a e)
      (subst (λ x. Like (max 1 (size (checked_nodes f) a)) (lap_start (course (checked_nodes f) a).start) x) (sym v) (like_lap _ _ _ (before_n a s.0.0)))

-- the start of one node more is in place
pub starts_more : (nodes : List Node) (starts : List Outcome) (n : ℕ) (r : Outcome) → n < length starts → Like (size nodes n) (course nodes n).start r → StartsBefore nodes starts n
    → (m : ℕ) → m < n + 1 → Like (size nodes m) (course nodes m).start (get_or (set starts n r) m Dead)
starts_more nodes starts n r h l before_n m i = elim (cases_lt m n) [
  | inl k ↦ subst (λ o. Like (size nodes m) (course nodes m).start o) (sym (get_or-set_other starts n m r Dead (λ q. omega arith))) (before_n m k)
  | inr k ↦
      let q : n ≡ m = omega arith in
      subst (λ j. Like (size nodes j) (course nodes j).start (get_or (set starts n r) j Dead)) q
      (subst (λ o. Like (size nodes n) (course nodes n).start o) (sym (get_or-set_same starts n r Dead h)) l)
]
