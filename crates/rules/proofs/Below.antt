-- Tests of all numbers below one, and the largest of a function's values below it.
use Rattle.std.proofs.Common.{◌≡◌, ℕ, zero, suc, ◌+◌, ◌<◌, ◌≤◌, max, Bool, true, false, Decides, MatchBool, List, length, get_or, sym, refl, ap, ◌∙◌, ⊎_elim, ap₂, map, unwrap_or, add-one, arith}
use Rattle.std.proofs.lemmas.Bool.{both_ways, cases_Bool, cases_lt}
use Rattle.std.proofs.lemmas.Bool.Decides.{Decides-below_and}
use Rattle.std.specs.List.{AllWithin, HoldsAt, fold, reduce, range_with_len}
use Rattle.std.proofs.Math.Nat.{max_comm}
use Rattle.rules.specs.Tabled.{largest}
use Rattle.rules.specs.Rows.{all_below}

pub all_decides : (f : ℕ → Bool) (n : ℕ) → Decides (all_below f n) ((k : ℕ) → k < n → f k ≡ true)
unfolding all_below
all_decides f n = Decides-below_and f (λ k. f k ≡ true) (all_below f) (λ k. ((λ h. h), (λ h. h))) refl (λ k. refl) n

all_fails : (f : ℕ → Bool) (i n : ℕ) → i < n → f i ≡ false → false ≡ all_below f n
all_fails f i n below fails =
    ⊎_elim
    (λ all. absurd (both_ways (f i) fails ((all_decides f n).0 all i below)))
    (λ none. sym none)
    (cases_Bool (all_below f n))

largest_none : (f : ℕ → ℕ) → largest f 0 ≡ 0
unfolding largest
largest_none f = refl

largest_more : (f : ℕ → ℕ) (i : ℕ) → largest f (i + 1) ≡ max (f i) (largest f i)
unfolding largest
largest_more f i = rw add-one

pub largest_over : (f : ℕ → ℕ) (n k : ℕ) → k < n → f k ≤ largest f n
unfolding largest
largest_over f zero k h = absurd (omega arith)
largest_over f (suc n) k h =
    ⊎_elim
    (λ (low : k < n). omega (arith, largest_over f n k low))
    (λ (high : n ≤ k). let same : k ≡ n = omega arith in omega (arith, ap f same))
    (cases_lt k n)

-- tests of a list's elements in turn, whose answer is r: they pass where each of f 0 to f (n - 1) does
pub all_of : {X : Type 0} (xs : List X) (n : ℕ) (h : X → Bool) (f : ℕ → Bool) (d : X) (r : Bool) → length xs ≡ n → ((k : ℕ) → k < n → h (get_or xs k d) ≡ f k)
    → MatchBool r (AllWithin (λ x. h x ≡ true) xs 0 (length xs)) ((k : ℕ) × (k < length xs) × HoldsAt (λ x. h x ≡ false) xs k) → r ≡ all_below f n
all_of xs n h f d true long each ran =
    sym ((all_decides f n).1 (λ k below. sym (each k below) ∙ ran k d (omega arith) (omega (arith, long))))
all_of xs n h f d false long each ran =
    let k = ran.0 in
    let below : k < n = omega (arith, long, ran.1) in
    all_fails f k n below (sym (each k below) ∙ ran.2 d)

pub largest_same : (f g : ℕ → ℕ) (n : ℕ) → ((k : ℕ) → k < n → f k ≡ g k) → largest f n ≡ largest g n
unfolding largest
largest_same f g zero same = refl
largest_same f g (suc n) same = ap₂ max (same n (omega arith)) (largest_same f g n (λ k h. same k (omega arith)))

-- the largest of the values below b, and then of those from b on
largest_from : (f : ℕ → ℕ) (b n : ℕ) → fold max (largest f b) (map f (range_with_len b n)) ≡ largest f (b + n)
largest_from f b zero = ap (largest f) (omega arith)
largest_from f b (suc n) =
    let e : b + 1 + n ≡ b + suc n = omega arith in
    ap (λ x. fold max x (map f (range_with_len (b + 1) n))) (max_comm (largest f b) (f b) ∙ sym (largest_more f b))
    ∙ largest_from f (b + 1) n
    ∙ ap (largest f) e

pub largest_of : (f : ℕ → ℕ) (n : ℕ) → unwrap_or (reduce max (map f (range_with_len 0 n))) 0 ≡ largest f n
largest_of f zero = sym (largest_none f)
largest_of f (suc n) =
    let one : largest f 1 ≡ max (f 0) 0 = largest_more f 0 ∙ ap (max (f 0)) (largest_none f) in
    ap (λ x. fold max x (map f (range_with_len 1 n))) (omega (arith, one)) ∙ largest_from f 1 n ∙ ap (largest f) (omega arith)
