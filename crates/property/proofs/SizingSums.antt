-- Sizes as they are kept, added and multiplied.
use Rattle.std.proofs.Common.{cond, fold, zip, [], ◌∷◌, length, ◌≡◌, ℕ, zero, suc, ◌+◌, ◌*◌, ◌<◌, ◌≤◌, max, Bool, true, false, List, get_or, sym, refl, ap, ◌∙◌, ap₂, inl, inr, mul_comm, mul-zero, zero-mul, mul-suc, arith}
use Rattle.property.specs.declared.node.Node.{Node}
use Rattle.property.specs.declared.node.Node.TheVariants.{Nothing}
use Rattle.property.specs.Sized.{most_size, cut, counted, marked_sum}
use Rattle.property.specs.Sizes.{total}
use Rattle.property.proofs.Numbering.{lt_or_ge}

pub cut_again : (a : ℕ) → cut (cut a) ≡ cut a
cut_again a = omega arith

pub cut_sum : (a b : ℕ) → cut (cut a + cut b) ≡ cut (a + b)
cut_sum a b = omega arith

pub cut_sum_left : (a b : ℕ) → cut (cut a + b) ≡ cut (a + b)
cut_sum_left a b = omega arith

pub cut_lap : (a : ℕ) → max (cut a) 1 ≡ cut (max 1 a)
cut_lap a = omega arith

large : (x y : ℕ) → most_size + 1 ≤ x → 1 ≤ y → cut (x * y) ≡ most_size + 1
large x zero h k = absurd (omega arith)
large x (suc y) h k = omega (arith, mul-suc x y)

large_right : (x y : ℕ) → 1 ≤ x → most_size + 1 ≤ y → cut (x * y) ≡ most_size + 1
large_right x y h k = ap cut (mul_comm x y) ∙ large y x k h

pub cut_product : (a b : ℕ) → cut (cut a * cut b) ≡ cut (a * b)
cut_product a zero = ap cut (mul-zero (cut a) ∙ sym (mul-zero a))
cut_product zero (suc b) = ap cut (zero-mul (cut (suc b)) ∙ sym (zero-mul (suc b)))
cut_product (suc a) (suc b) = elim (lt_or_ge (most_size + 1) (suc a)) [
  | inl h ↦ large (cut (suc a)) (cut (suc b)) (omega arith) (omega arith) ∙ sym (large (suc a) (suc b) (omega arith) (omega arith))
  | inr h ↦ elim (lt_or_ge (most_size + 1) (suc b)) [
    | inl k ↦ large_right (cut (suc a)) (cut (suc b)) (omega arith) (omega arith) ∙ sym (large_right (suc a) (suc b) (omega arith) (omega arith))
    | inr k ↦ let p : cut (suc a) ≡ suc a = omega arith in let q : cut (suc b) ≡ suc b = omega arith in ap₂ (λ x y. cut (x * y)) p q
  ]
]

pub total_cut : (f g : ℕ → ℕ) (n : ℕ) → ((m : ℕ) → m < n → cut (f m) ≡ cut (g m)) → cut (total f n) ≡ cut (total g n)
unfolding total
total_cut f g zero h = refl
total_cut f g (suc n) h = sym (cut_sum (total f n) (f n)) ∙ ap₂ (λ x y. cut (x + y)) (total_cut f g n (λ m l. h m (omega arith))) (h n (omega arith)) ∙ cut_sum (total g n) (g n)

-- a sum from the front
total_front : (f : ℕ → ℕ) (n : ℕ) → total f (suc n) ≡ f 0 + total (λ k. f (suc k)) n
unfolding total
total_front f zero = omega arith
total_front f (suc n) = omega (arith, total_front f n)

-- what a node of a number counts, if it is marked
abbrev pub marked_weight : List Node → List ℕ → List Bool → ℕ → ℕ
marked_weight nodes sizes marked m = cond (get_or marked m false) (counted (get_or nodes m Nothing) (get_or sizes m 0)) 0

abbrev summed : ℕ → List ((Node × ℕ) × Bool) → ℕ
summed a xs = fold (λ (total : ℕ) (x : (Node × ℕ) × Bool). cond x.1 (cut (total + counted x.0.0 x.0.1)) total) a xs

sum_from : (a : ℕ) (nodes : List Node) (sizes : List ℕ) (marked : List Bool) → length sizes ≤ length nodes → length sizes ≤ length marked
    → summed (cut a) (zip (zip nodes sizes) marked) ≡ cut (a + total (marked_weight nodes sizes marked) (length sizes))
unfolding total
sum_from a [] [] marked h k = omega arith
sum_from a [] (s ∷ ss) marked h k = absurd (omega arith)
sum_from a (n ∷ ns) [] marked h k = omega arith
sum_from a (n ∷ ns) (s ∷ ss) [] h k = absurd (omega arith)
sum_from a (n ∷ ns) (s ∷ ss) (true ∷ ms) h k =
    ap (λ b. summed b (zip (zip ns ss) ms)) (cut_sum_left a (counted n s))
    ∙ sum_from (a + counted n s) ns ss ms (omega arith) (omega arith)
    ∙ ap cut (omega (arith, total_front (marked_weight (n ∷ ns) (s ∷ ss) (true ∷ ms)) (length ss)))
sum_from a (n ∷ ns) (s ∷ ss) (false ∷ ms) h k =
    sum_from a ns ss ms (omega arith) (omega arith)
    ∙ ap cut (omega (arith, total_front (marked_weight (n ∷ ns) (s ∷ ss) (false ∷ ms)) (length ss)))

-- the marked nodes count together what those of them count that have a size
pub marked_sum_is : (nodes : List Node) (sizes : List ℕ) (marked : List Bool) → length sizes ≤ length nodes → length sizes ≤ length marked
    → marked_sum (zip (zip nodes sizes) marked) ≡ cut (total (marked_weight nodes sizes marked) (length sizes))
marked_sum_is nodes sizes marked h k = sum_from 0 nodes sizes marked h k ∙ ap cut (omega arith)
