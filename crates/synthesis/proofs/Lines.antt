-- The row of a place, from the rows of the nodes that its node names.
use Rattle.std.proofs.Common.{◌≡◌, ℕ, ◌+◌, ◌-◌, ◌*◌, ◌/◌, ◌%◌, ◌<◌, ◌≤◌, min, max, true, false, cond, ltb, ◌⊎◌, List, length, get_or, sym, refl, ap, ◌∙◌, subst, ap₂, inl, inr, mul_comm, arith}
use Rattle.std.proofs.lemmas.Nat.{div_below, mod_below, mul-le}
use Rattle.std.proofs.lemmas.Bool.{cases_lt, lt-ltb, le-ltb}
use Rattle.letters.specs.Alphabets.{most_letters}
use Rattle.property.specs.Nodes.{Node, Sequence, Both, Lap, All, node}
use Rattle.property.specs.Sized.{most_size, cut}
use Rattle.property.specs.Sizes.{size}
use Rattle.places.specs.Walks.{Walk, then_second, sequence_walk, both_walk, meet, shift}
use Rattle.places.specs.declared.outcome.Outcome.{Outcome}
use Rattle.places.specs.declared.outcome.Outcome.TheVariants.{Dead, Done, At}
use Rattle.places.proofs.Falling.{Below}
use Rattle.synthesis.specs.declared.course.Course.{Course}
use Rattle.synthesis.specs.Courses.{PlaceOf, Row, course, nodes_of, letters_of}
use Rattle.synthesis.specs.Members.{Belongs}
use Rattle.synthesis.specs.Outcomes.{Like, after_first, kept, lapped}
use Rattle.synthesis.proofs.Grounding.{sequence_earlier, product_earlier, lap_earlier}
use Rattle.synthesis.proofs.Starting.{size_sequence, size_product, size_lap}
use Rattle.synthesis.proofs.Courses.{course_size, course_sequence, course_both, course_all_step, course_lap_step, course_starts, course_stays}

-- a place that is kept as it is
pub kept_below : (k : ℕ) (o : Outcome) → k ≤ most_size → Below k o → kept o ≡ o
kept_below k Dead h b = refl
kept_below k Done h b = refl
kept_below k (At p) h b = let e : min p most_size ≡ p = omega arith in ap At e

pub like_same : (k : ℕ) (o q : Outcome) → k ≤ most_size → Like k o q → q ≡ o
like_same k Dead q h e = e
like_same k Done q h e = e
like_same k (At p) q h e = e.1 ∙ ap At (e.3 h)

after_first_is : (w : Walk) (k : ℕ) (s o : Outcome) → k ≡ w.size → s ≡ w.start → after_first k s o ≡ then_second w o
after_first_is w k s Dead e f = refl
after_first_is w k s Done e f = f
after_first_is w k s (At p) e f = ap (λ x. At (x + p)) e

cut_few : (x k : ℕ) → x ≤ most_size → k ≡ cut x → k ≡ x
cut_few x k h e = omega arith

positive : (x y z p : ℕ) → z ≡ x * y → p < z → 0 < x
positive x y z p q l = elim (cases_lt 0 x) [
  | inl h ↦ h
  | inr h ↦ let m = mul-le x y 0 y h (omega arith) in absurd (omega arith)
]

module _ (c : Course) where
  abbrev nodes : List Node
  nodes = nodes_of c

  -- the nodes that a Sequence names
  pub record Summed (n a b : ℕ) : Type 0 where
    pub first : a < n
    pub second : b < n
    pub sum : size nodes n ≡ size nodes a + size nodes b

  pub sequence_parts : (n a b : ℕ) → node nodes n ≡ Sequence a b → Summed n a b
  sequence_parts n a b e =
      let s = sequence_earlier c.checked.file.now c.checked.nodes.now (letters_of c) c.checked.grounds n a b e in
      record { first = s.0; second = s.1; sum = size_sequence (letters_of c) nodes c.checked.grounds.sound n a b e }

  -- the nodes that a Both or an All names
  pub record Multiplied (n a b : ℕ) : Type 0 where
    pub first : a < n
    pub second : b < n
    pub product : size nodes n ≡ size nodes a * size nodes b

  abbrev pub Product : ℕ → ℕ → ℕ → Type 0
  Product n a b = (node nodes n ≡ Both a b) ⊎ (node nodes n ≡ All a b)

  pub product_parts : (n a b : ℕ) → Product n a b → Multiplied n a b
  product_parts n a b e =
      let s = product_earlier c.checked.file.now c.checked.nodes.now (letters_of c) c.checked.grounds n a b e in
      record { first = s.0; second = s.1; product = size_product (letters_of c) nodes c.checked.grounds.sound n a b e }

  -- the node that a Lap names
  pub record Lapped (n a : ℕ) : Type 0 where
    pub first : a < n
    pub largest : size nodes n ≡ max 1 (size nodes a)

  pub lap_part : (n a : ℕ) → node nodes n ≡ Lap a → Lapped n a
  lap_part n a e = record {
    first = lap_earlier c.checked.file.now c.checked.nodes.now (letters_of c) c.checked.grounds n a e;
    largest = size_lap (letters_of c) nodes c.checked.grounds.sound n a e;
  }

  -- the kept start of a node of few places
  pub start_is : (n : ℕ) → n < length nodes → size nodes n ≤ most_size → get_or c.starts n Dead ≡ (course nodes n).start
  start_is n h few = like_same (size nodes n) (course nodes n).start (get_or c.starts n Dead) few (c.starts_kept n h)

  pub start_kept : (n : ℕ) → n < length nodes → size nodes n ≤ most_size → get_or c.starts n Dead ≡ kept (get_or c.starts n Dead)
  start_kept n h few =
      let e = start_is n h few in
      e ∙ sym (kept_below (size nodes n) (course nodes n).start few (course_starts (letters_of c) nodes c.checked.grounds.sound n h)) ∙ ap kept (sym e)

  -- where a letter leads from a place is kept as it is
  step_kept : (n p l : ℕ) → PlaceOf c n p → kept ((course nodes n).step p l) ≡ (course nodes n).step p l
  step_kept n p l h =
      kept_below (size nodes n) ((course nodes n).step p l) h.few (course_stays (letters_of c) nodes c.checked.grounds.sound n p l h.within h.inside)

  few_letters : (j : ℕ) → j < length (letters_of c) → j < most_letters
  few_letters j h = let k = c.checked.grounds.few_letters in omega arith

  -- a place of a Choice that belongs to another node
  pub row_choice : (n p m k : ℕ) (was out : List Outcome) → PlaceOf c n p → Belongs c n p m k → Row c m (p - k) was → length out ≡ most_letters
      → ((j : ℕ) → j < length out → get_or out j Dead ≡ kept (shift k (get_or was j Dead))) → Row c n p out
  row_choice n p m k was out h b r len each j l =
      let letter = get_or (letters_of c) j 0 in
      let i = few_letters j l in
      each j (omega arith)
      ∙ ap (λ o. kept (shift k o)) (r j l)
      ∙ ap kept (sym (b.leads letter))
      ∙ step_kept n p letter h

  module _ (n a b p k : ℕ) (h : PlaceOf c n p) (e : node nodes n ≡ Sequence a b) (size_kept : k ≡ cut (size nodes b)) where
    sequence_size : k ≡ size nodes b
    sequence_size = let s = sequence_parts n a b e in cut_few (size nodes b) k (omega (arith, h.few, s.sum)) size_kept

    pub sequence_second : p < k → PlaceOf c b p
    sequence_second l =
        let s = sequence_parts n a b e in
        let z = sequence_size in
        record { within = omega (arith, h.within, s.second); few = omega (arith, h.few, s.sum); inside = omega arith }

    pub sequence_first : k ≤ p → PlaceOf c a (p - k)
    sequence_first l =
        let s = sequence_parts n a b e in
        let z = sequence_size in
        record { within = omega (arith, h.within, s.first); few = omega (arith, h.few, s.sum); inside = omega (arith, h.inside, s.sum) }

    whole : course nodes n ≡ sequence_walk (course nodes a) (course nodes b)
    whole = course_sequence (letters_of c) nodes c.checked.grounds.sound n a b e

    second_size : k ≡ (course nodes b).size
    second_size = sequence_size ∙ sym (course_size (letters_of c) nodes c.checked.grounds.sound b)

    pub row_second : (out : List Outcome) → p < k → Row c b p out → Row c n p out
    row_second out l r j i =
        let letter = get_or (letters_of c) j 0 in
        let t : ltb p (course nodes b).size ≡ true = subst (λ x. ltb p x ≡ true) second_size (lt-ltb p k l) in
        r j i
        ∙ sym (ap (λ x. cond x ((course nodes b).step p letter) (then_second (course nodes b) ((course nodes a).step (p - (course nodes b).size) letter))) t)
        ∙ sym (ap (λ w. w.step p letter) whole)

    pub row_first : (was out : List Outcome) → k ≤ p → Row c a (p - k) was → length out ≡ most_letters
        → (get_or c.starts b Dead ≡ kept (get_or c.starts b Dead)
        → (j : ℕ) → j < length out → get_or out j Dead ≡ kept (after_first k (get_or c.starts b Dead) (get_or was j Dead)))
        → Row c n p out
    row_first was out l r len each j i =
        let s = sequence_parts n a b e in
        let letter = get_or (letters_of c) j 0 in
        let within : b < length nodes = omega (arith, h.within, s.second) in
        let few : size nodes b ≤ most_size = omega (arith, h.few, s.sum) in
        let x = few_letters j i in
        let t : ltb p (course nodes b).size ≡ false = subst (λ x. ltb p x ≡ false) second_size (le-ltb p k l) in
        each (start_kept b within few) j (omega arith)
        ∙ ap (λ o. kept (after_first k (get_or c.starts b Dead) o)) (r j i)
        ∙ ap kept (
        after_first_is (course nodes b) k (get_or c.starts b Dead) ((course nodes a).step (p - k) letter) second_size (start_is b within few)
        ∙ ap (λ x. then_second (course nodes b) ((course nodes a).step (p - x) letter)) second_size
        ∙ sym (ap (λ x. cond x ((course nodes b).step p letter) (then_second (course nodes b) ((course nodes a).step (p - (course nodes b).size) letter))) t)
        ∙ sym (ap (λ w. w.step p letter) whole))
        ∙ step_kept n p letter h

  module _ (n a b p k : ℕ) (h : PlaceOf c n p) (e : Product n a b) (size_kept : k ≡ cut (size nodes b)) where
    first_positive : 0 < size nodes a
    first_positive = positive (size nodes a) (size nodes b) (size nodes n) p (product_parts n a b e).product h.inside

    second_positive : 0 < size nodes b
    second_positive = positive (size nodes b) (size nodes a) (size nodes n) p ((product_parts n a b e).product ∙ mul_comm (size nodes a) (size nodes b)) h.inside

    first_few : size nodes a ≤ most_size
    first_few = omega (arith, h.few, (product_parts n a b e).product, mul-le (size nodes a) 1 (size nodes a) (size nodes b) (omega arith) second_positive)

    second_few : size nodes b ≤ most_size
    second_few = omega (arith, h.few, (product_parts n a b e).product, mul-le 1 (size nodes b) (size nodes a) (size nodes b) first_positive (omega arith))

    product_size : k ≡ size nodes b
    product_size = cut_few (size nodes b) k second_few size_kept

    pub product_positive : 0 < k
    product_positive = let z = product_size in omega (arith, second_positive)

    pub product_first : PlaceOf c a (p / k)
    product_first =
        let s = product_parts n a b e in
        let l : p < size nodes a * k = subst (λ x. p < size nodes a * x) (sym product_size) (omega (arith, h.inside, s.product)) in
        record { within = omega (arith, h.within, s.first); few = first_few; inside = div_below p k (size nodes a) product_positive l }

    pub product_second : PlaceOf c b (p % k)
    product_second =
        let s = product_parts n a b e in
        let z = product_size in
        record { within = omega (arith, h.within, s.second); few = second_few; inside = omega (arith, mod_below p k product_positive) }

    both_step : (l : ℕ) → Product n a b → (course nodes n).step p l ≡ (both_walk (course nodes a) (course nodes b)).step p l
    both_step l (inl q) = ap (λ w. w.step p l) (course_both (letters_of c) nodes c.checked.grounds.sound n a b q)
    both_step l (inr q) = course_all_step (letters_of c) nodes c.checked.grounds.sound n a b p l q

    product_step : (l : ℕ) → (course nodes n).step p l ≡ meet k ((course nodes a).step (p / k) l) ((course nodes b).step (p % k) l)
    product_step l =
        both_step l e
        ∙ ap (λ x. meet x ((course nodes a).step (p / x) l) ((course nodes b).step (p % x) l))
        (course_size (letters_of c) nodes c.checked.grounds.sound b ∙ sym product_size)

    pub row_product : (first second out : List Outcome) → Row c a (p / k) first → Row c b (p % k) second → length out ≡ most_letters
        → ((j : ℕ) → j < length out → get_or out j Dead ≡ kept (meet k (get_or first j Dead) (get_or second j Dead))) → Row c n p out
    row_product first second out r q len each j i =
        let letter = get_or (letters_of c) j 0 in
        let x = few_letters j i in
        each j (omega arith)
        ∙ ap₂ (λ x y. kept (meet k x y)) (r j i) (q j i)
        ∙ ap kept (sym (product_step letter))
        ∙ step_kept n p letter h

  module _ (n a p : ℕ) (h : PlaceOf c n p) (e : node nodes n ≡ Lap a) (many_places : cut (size nodes n) ≡ 1 → ⊥) where
    lap_size : size nodes n ≡ size nodes a
    lap_size =
        let s = lap_part n a e in
        let more : size nodes n ≡ 1 → ⊥ = λ q. many_places (ap cut q) in
        omega (arith, s.largest)

    pub lap_place : PlaceOf c a p
    lap_place =
        let s = lap_part n a e in
        let z = lap_size in
        record { within = omega (arith, h.within, s.first); few = omega (arith, h.few); inside = omega (arith, h.inside) }

    pub row_lap : (was out : List Outcome) → Row c a p was → length out ≡ most_letters
        → ((j : ℕ) → j < length out → get_or out j Dead ≡ lapped (get_or c.starts a Dead) (get_or was j Dead)) → Row c n p out
    row_lap was out r len each j i =
        let letter = get_or (letters_of c) j 0 in
        let x = few_letters j i in
        let q = lap_place in
        each j (omega arith)
        ∙ ap₂ lapped (start_is a q.within q.few) (r j i)
        ∙ sym (course_lap_step (letters_of c) nodes c.checked.grounds.sound n a p letter e)
