-- One row more, all that a place leads to, and all rows.
use Rattle.std.proofs.Common.{◌≡◌, ℕ, zero, suc, ◌+◌, ◌-◌, ◌<◌, ◌≤◌, ◌≢◌, List, [], ◌∷◌, length, get_or, set, Some, sym, refl, ap, ◌∙◌, inl, inr, arith, length-set, get_or-set_other, get_or-set_same, below_more}
use Rattle.std.proofs.lemmas.Bool.{cases_eq}
use Rattle.places.specs.Loops.{Loop, Reached, Fair}
use Rattle.synthesis.specs.Marks.{Marked, zeros, Exact}
use Rattle.synthesis.specs.Numbers.{Numbered, Followed, Grown, Rows}
use Rattle.synthesis.specs.Table.{AllAre}
use Rattle.synthesis.proofs.Marking.{zeros_set, marked_within, marked_set, set_marked}

module _ (r : Loop) (live rows order : List ℕ) (count : ℕ) (n : Numbered r live rows order count) where
  -- a place without a row leaves room
  pub room_left : (q : ℕ) → q < r.size → get_or rows q 0 ≡ 0 → count < r.size
  room_left q h e = let z = zeros_set rows q 1 (omega (arith, n.rows_long)) e (omega arith) in omega (arith, n.room)

  module _ (q : ℕ) (h : q < r.size) (e : get_or rows q 0 ≡ 0) (v : Marked live q) (t : Reached r q) where
    full : count < r.size
    full = room_left q h e

    here : q < length rows
    here = omega (arith, n.rows_long)

    there : count < length order
    there = omega (arith, n.order_long, full)

    pub numbered_more : Numbered r live (set rows q (count + 1)) (set order count q) (count + 1)
    numbered_more = record {
      rows_long = length-set rows q (count + 1) ∙ n.rows_long;
      order_long = length-set order count q ∙ n.order_long;
      room = let z = zeros_set rows q (count + 1) here e (omega arith) in omega (arith, n.room);
      some_row = omega arith;
      start = let d : 0 ≢ count = omega (arith, n.some_row) in get_or-set_other order count 0 q 0 d ∙ n.start;
      placed = below_more _ _
          (λ i k.
          let d : i ≢ count = omega arith in
          let x : get_or order i 0 ≢ q = λ s. let y : get_or rows (get_or order i 0) 0 ≡ get_or rows q 0 = ap (λ (x : ℕ). get_or rows x 0) s in omega (arith, n.placed i k) in
          rw (get_or-set_other order count i q 0 d, get_or-set_other rows q (get_or order i 0) (count + 1) 0 x) (n.placed i k))
          (rw (get_or-set_same order count q 0 there) (get_or-set_same rows q (count + 1) 0 here));
      within = λ p m. elim (cases_eq p q) [
        | inl s ↦ rw (s, get_or-set_same rows q (count + 1) 0 here) (omega arith)
        | inr d ↦ rw (get_or-set_other rows q p (count + 1) 0 d) (let k = n.within p (rw (get_or-set_other rows q p (count + 1) 0 d) at m) in omega arith)
      ];
      back = λ p m. elim (cases_eq p q) [
        | inl s ↦ let z : count + 1 - 1 ≡ count = omega arith in rw (s, get_or-set_same rows q (count + 1) 0 here, z) (get_or-set_same order count q 0 there)
        | inr d ↦
            let m₀ : Marked rows p = rw (get_or-set_other rows q p (count + 1) 0 d) at m in
            let k = n.within p m₀ in
            let z : get_or rows p 0 - 1 ≢ count = λ s. omega arith in
            rw (get_or-set_other rows q p (count + 1) 0 d) (get_or-set_other order count (get_or rows p 0 - 1) q 0 z ∙ n.back p m₀)
      ];
      reached = λ p m. elim (marked_set rows q (count + 1) p m) [ inl s ↦ rw s t | inr m₀ ↦ n.reached p m₀ ];
      lives = λ p m. elim (marked_set rows q (count + 1) p m) [ inl s ↦ rw s v | inr m₀ ↦ n.lives p m₀ ];
    }

    pub grown_more : Grown rows order count (set rows q (count + 1)) (set order count q) (count + 1)
    grown_more = record {
      more = omega arith;
      same = λ i k. let d : i ≢ count = omega arith in get_or-set_other order count i q 0 d;
      kept = λ p m. set_marked rows q (count + 1) p here (omega arith) m;
    }

    pub has_row : Marked (set rows q (count + 1)) q
    has_row = rw (get_or-set_same rows q (count + 1) 0 here) (omega arith)

pub grown_none : (rows order : List ℕ) (count : ℕ) → Grown rows order count rows order count
grown_none rows order count = record { more = omega arith; same = λ i k. refl; kept = λ p m. m }

pub grown_on : {a b c d e f : List ℕ} {i j k : ℕ} → Grown a b i c d j → Grown c d j e f k → Grown a b i e f k
grown_on x y = record { more = omega (arith, x.more, y.more); same = λ i h. y.same i (omega (arith, x.more)) ∙ x.same i h; kept = λ p m. y.kept p (x.kept p m) }

-- the boundary alone
pub first_row : (r : Loop) (live rows order : List ℕ) → r.boundary < r.size → length rows ≡ r.size → length order ≡ r.size → AllAre 0 rows → zeros rows ≡ length rows → Marked live r.boundary
    → Numbered r live (set rows r.boundary 1) (set order 0 r.boundary) 1
first_row r live rows order h rows_long order_long clear z v =
    let b = r.boundary in
    let here : b < length rows = omega arith in
    let there : 0 < length order = omega arith in
    let only : (p : ℕ) → Marked (set rows b 1) p → p ≡ b = λ p m. elim (marked_set rows b 1 p m) [ inl s ↦ s | inr n ↦ absurd (omega (arith, clear p (marked_within rows p n))) ] in
    record {
      rows_long = length-set rows b 1 ∙ rows_long;
      order_long = length-set order 0 b ∙ order_long;
      room = omega (arith, zeros_set rows b 1 here (clear b here) (omega arith));
      some_row = omega arith;
      start = get_or-set_same order 0 b 0 there;
      placed = λ i k. let s : i ≡ 0 = omega arith in rw (s, get_or-set_same order 0 b 0 there, get_or-set_same rows b 1 0 here) (omega arith);
      within = λ p m. rw (only p m, get_or-set_same rows b 1 0 here) (omega arith);
      back = λ p m. rw (only p m, get_or-set_same rows b 1 0 here) (get_or-set_same order 0 b 0 there);
      reached = λ p m. rw (only p m) ([], refl);
      lives = λ p m. rw (only p m) v;
    }

pub zeros_clear : (m : List ℕ) → AllAre 0 m → zeros m ≡ length m
unfolding zeros
zeros_clear [] h = refl
zeros_clear (zero ∷ m) h = ap suc (zeros_clear m (λ k l. h (suc k) (omega arith)))
zeros_clear (suc x ∷ m) h = absurd (omega (arith, h 0 (omega arith)))

-- all that row numbers below `head` have is followed
pub record Numbering (r : Loop) (live rows order : List ℕ) (count head : ℕ) : Type 0 where
  pub numbered : Numbered r live rows order count
  pub so_far : head ≤ count
  pub closed : (i : ℕ) → i < head → Followed r live rows (get_or order i 0)

pub numbering_more : (r : Loop) (live rows order rows_after order_after : List ℕ) (count count_after head : ℕ) → Numbering r live rows order count head → head < count
    → Numbered r live rows_after order_after count_after → Grown rows order count rows_after order_after count_after → Followed r live rows_after (get_or order head 0)
    → Numbering r live rows_after order_after count_after (head + 1)
numbering_more r live rows order rows_after order_after count count_after head a h n grown followed = record {
  numbered = n;
  so_far = omega (arith, grown.more);
  closed = below_more _ _
      (λ i k l q e v. grown.kept q (a.closed i k l q (ap (λ p. r.next p l) (sym (grown.same i (omega (arith, a.so_far)))) ∙ e) v))
      (λ l q e v. followed l q (ap (λ p. r.next p l) (sym (grown.same head h)) ∙ e) v);
}

-- all rows
pub record Whole (r : Loop) (live rows order : List ℕ) (count : ℕ) : Type 0 where
  pub numbered : Numbered r live rows order count
  pub closed : (p : ℕ) → Marked rows p → Followed r live rows p

pub numbering_all : (r : Loop) (live rows order : List ℕ) (count head : ℕ) → Numbering r live rows order count head → count ≤ head → Whole r live rows order count
numbering_all r live rows order count head a h = record {
  numbered = a.numbered;
  closed = λ p m l q e v.
      let k = a.numbered.within p m in
      a.closed (get_or rows p 0 - 1) (omega arith) l q (ap (λ x. r.next x l) (a.numbered.back p m) ∙ e) v;
}

-- the letters before the index j are followed
pub record Following (r : Loop) (letters live rows₀ order₀ : List ℕ) (count₀ : ℕ) (rows order : List ℕ) (count place j : ℕ) : Type 0 where
  pub numbered : Numbered r live rows order count
  pub grown : Grown rows₀ order₀ count₀ rows order count
  pub followed : (i : ℕ) → i < j → (q : ℕ) → r.next place (get_or letters i 0) ≡ Some q → Marked live q → Marked rows q

pub following_more : (r : Loop) (letters live rows₀ order₀ : List ℕ) (count₀ : ℕ) (rows order : List ℕ) (count place j : ℕ) (rows_after order_after : List ℕ) (count_after : ℕ)
    → Following r letters live rows₀ order₀ count₀ rows order count place j
    → Numbered r live rows_after order_after count_after → Grown rows order count rows_after order_after count_after
    → ((q : ℕ) → r.next place (get_or letters j 0) ≡ Some q → Marked live q → Marked rows_after q)
    → Following r letters live rows₀ order₀ count₀ rows_after order_after count_after place (j + 1)
following_more r letters live rows₀ order₀ count₀ rows order count place j rows_after order_after count_after a n grown followed = record {
  numbered = n;
  grown = grown_on a.grown grown;
  followed = below_more _ _ (λ i h q e v. grown.kept q (a.followed i h q e v)) followed;
}

pub rows_of : (r : Loop) (letters live rows order : List ℕ) (count : ℕ) → Fair r letters → Exact r live → Whole r live rows order count → Rows r rows order count
rows_of r letters live rows order count fair exact w = let n = w.numbered in record {
  rowed = record {
    long = n.rows_long;
    reached = n.reached;
    live = λ p m. exact.sound p (n.lives p m);
    closed = λ p l q m e v. w.closed p m l q e (exact.complete q (fair.stays p l q (omega (arith, marked_within rows p m, n.rows_long)) e) v);
  };
  order_long = n.order_long;
  few = omega (arith, n.room);
  some_row = n.some_row;
  start = n.start;
  placed = n.placed;
  within = n.within;
  back = n.back;
}
