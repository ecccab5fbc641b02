-- The property's node, whose walk is that of a loop.
use Rattle.std.proofs.Common.{◌≡◌, ℕ, ◌+◌, ◌<◌, ◌≤◌, cond, List, length, get_or, set, Some, None, Option, refl, ap, ◌∙◌, subst, inl, inr, arith, length-set, get_or-set_other, get_or-set_same}
use Rattle.std.proofs.lemmas.Bool.{cases_lt, ne_eqb}
use Rattle.letters.specs.Alphabets.{most_letters}
use Rattle.property.specs.Sized.{most_size}
use Rattle.property.specs.Sizes.{size}
use Rattle.property.specs.Traces.{last_node}
use Rattle.rules.specs.Tabled.{no_row, row_named}
use Rattle.places.specs.Loops.{Loop}
use Rattle.places.specs.declared.outcome.Outcome.{Outcome}
use Rattle.places.specs.declared.outcome.Outcome.TheVariants.{Dead, At}
use Rattle.places.proofs.Falling.{Below}
use Rattle.places.proofs.Sizes.{loop_size}
use Rattle.synthesis.specs.declared.course.Course.{Course}
use Rattle.synthesis.specs.Courses.{PlaceOf, Row, course, round, nodes_of, letters_of, loop_of}
use Rattle.synthesis.specs.Drawn.{cell_of}
use Rattle.synthesis.specs.Outcomes.{onto}
use Rattle.synthesis.proofs.Courses.{course_loop, course_stays}
use Rattle.synthesis.proofs.Lines.{start_is}

named_back : (k : ℕ) (x : Option ℕ) → k ≤ most_size → Below k (onto x) → row_named (cell_of (onto x)) ≡ x
named_back k None h b = refl
named_back k (Some q) h b = ap (λ t. cond t None (Some q)) (ne_eqb q no_row (λ e. omega arith))

pub at_same : {p q : ℕ} → At p ≡ At q → p ≡ q
at_same e = cc

-- the cells before j say where their letters lead from the place p
pub record Drawn (r : Loop) (letters : List ℕ) (p : ℕ) (cells : List ℕ) (j : ℕ) : Type 0 where
  pub long : length cells ≡ most_letters
  pub each : (k : ℕ) → k < j → k < length letters → row_named (get_or cells k no_row) ≡ r.next p (get_or letters k 0)

module _ (c : Course) where
  abbrev root : ℕ
  root = last_node (nodes_of c)

  pub root_within : root < length (nodes_of c)
  root_within = let s = c.checked.grounds.sound.some in omega arith

  pub root_size : (loop_of c).size ≡ size (nodes_of c) root
  root_size = loop_size (letters_of c) (nodes_of c) c.checked.grounds.sound root c.checked.grounds.sound.property

  root_course : course (nodes_of c) root ≡ round (loop_of c)
  root_course = course_loop (letters_of c) (nodes_of c) c.checked.grounds.sound root c.checked.grounds.sound.property

  -- few places
  root_few : size (nodes_of c) root ≤ most_size
  root_few = let z = root_size in omega (arith, c.checked.grounds.fillable.small)

  pub root_start : get_or c.starts root Dead ≡ At (loop_of c).boundary
  root_start = start_is c root root_within root_few ∙ ap (λ w. w.start) root_course

  pub root_place : (p : ℕ) → p < (loop_of c).size → PlaceOf c root p
  root_place p h = record { within = root_within; few = root_few; inside = subst (λ k. p < k) root_size h }

  line_at : (p : ℕ) (out : List Outcome) → PlaceOf c root p → Row c root p out → (j : ℕ) → j < length (letters_of c)
      → row_named (cell_of (get_or out j Dead)) ≡ (loop_of c).next p (get_or (letters_of c) j 0)
  line_at p out h r j i =
      let letter = get_or (letters_of c) j 0 in
      let e : (course (nodes_of c) root).step p letter ≡ onto ((loop_of c).next p letter) = ap (λ w. w.step p letter) root_course in
      ap (λ o. row_named (cell_of o)) (r j i ∙ e)
      ∙ named_back (size (nodes_of c) root) ((loop_of c).next p letter) h.few
      (subst (λ o. Below (size (nodes_of c) root) o) e (course_stays (letters_of c) (nodes_of c) c.checked.grounds.sound root p letter h.within h.inside))

  pub drawn_more : (p n : ℕ) (out : List Outcome) (cells : List ℕ) (j v : ℕ) → n ≡ root → PlaceOf c root p → Row c n p out → j < most_letters
      → v ≡ cell_of (get_or out j Dead) → Drawn (loop_of c) (letters_of c) p cells j → Drawn (loop_of c) (letters_of c) p (set cells j v) (j + 1)
  drawn_more p n out cells j v at h r i e d = record { long = length-set cells j v ∙ d.long; each = each }
    where
      here : j < length (letters_of c) → row_named v ≡ (loop_of c).next p (get_or (letters_of c) j 0)
      here l = ap row_named e ∙ line_at p out h (subst (λ x. Row c x p out) at r) j l

      each : (k : ℕ) → k < j + 1 → k < length (letters_of c) → row_named (get_or (set cells j v) k no_row) ≡ (loop_of c).next p (get_or (letters_of c) k 0)
      each k l within = elim (cases_lt k j) [
        | inl below ↦ ap row_named (get_or-set_other cells j k v no_row (λ q. omega arith)) ∙ d.each k below within
        | inr above ↦
            let same : j ≡ k = omega arith in
            subst (λ x. row_named (get_or (set cells j v) x no_row) ≡ (loop_of c).next p (get_or (letters_of c) x 0)) same
            (ap row_named (get_or-set_same cells j v no_row (omega (arith, d.long))) ∙ here (omega (arith, within)))
      ]
