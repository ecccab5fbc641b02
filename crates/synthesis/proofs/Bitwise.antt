-- The bits of a number.
use Rattle.std.proofs.Common.{◌≡◌, ℕ, ◌+◌, ◌*◌, ◌^◌, ◌%◌, ◌<◌, min, Bool, true, false, ◌&&◌, eqb, ◌⊎◌, sym, ap, ◌∙◌, ap₂, inl, inr, subst, arith}
use lib.Bits.{bit_and}
use mir.Syntax.{w32}
use Rattle.std.specs.Int.{bit_at}
use Rattle.std.specs.Int.RustNames.{bit_or}
use Rattle.std.proofs.lemmas.Bool.{cases_eq, cases_lt}
use Rattle.std.proofs.lemmas.Nat.{or_lt, pow_below}
use Rattle.std.proofs.lemmas.Nat.Bits.{bit_at-zero, bit_at_above, bit_at_and, bit_at-lt, bit_at_set_same, bit_at_set_other}
use Rattle.synthesis.specs.Kept.{bit}

pub bit_zero : (j : ℕ) → bit 0 j ≡ false
bit_zero j = ap (λ x. eqb x 1) (bit_at-zero j)

digit : (x : ℕ) → x < 2 → (x ≡ 0) ⊎ (x ≡ 1)
digit x h = elim (cases_eq x 0) [ inl e ↦ inl e | inr e ↦ inr (omega (arith, e)) ]

digit_and : (x y : ℕ) → x < 2 → y < 2 → eqb (min x y) 1 ≡ (eqb x 1 && eqb y 1)
digit_and x y h k = elim (digit x h) [
  | inl p ↦ elim (digit y k) [
    | inl q ↦ ap₂ (λ x y. eqb (min x y) 1) p q ∙ sym (ap₂ (λ x y. eqb x 1 && eqb y 1) p q)
    | inr q ↦ ap₂ (λ x y. eqb (min x y) 1) p q ∙ sym (ap₂ (λ x y. eqb x 1 && eqb y 1) p q)
  ]
  | inr p ↦ elim (digit y k) [
    | inl q ↦ ap₂ (λ x y. eqb (min x y) 1) p q ∙ sym (ap₂ (λ x y. eqb x 1 && eqb y 1) p q)
    | inr q ↦ ap₂ (λ x y. eqb (min x y) 1) p q ∙ sym (ap₂ (λ x y. eqb x 1 && eqb y 1) p q)
  ]
]

pub and_bit : (a b j : ℕ) → bit (bit_and a b) j ≡ (bit a j && bit b j)
and_bit a b j = ap (λ x. eqb x 1) (bit_at_and a b j) ∙ digit_and (bit_at a j) (bit_at b j) (bit_at-lt a j) (bit_at-lt b j)

-- the bits before j are as P says, and none from j on is set, since the number is below 2 ^ j
pub record Told (P : ℕ → Bool) (w j : ℕ) : Type 0 where
  pub told : (k : ℕ) → k < j → bit w k ≡ P k
  pub below : w < 2 ^ j

module _ (P : ℕ → Bool) where
  module _ (w j : ℕ) (so : Told P w j) where
    higher : 2 ^ j < 2 ^ (j + 1)
    higher = pow_below j (j + 1) (omega arith)

    wider : w < 2 ^ (j + 1)
    wider = omega (arith, so.below, higher)

    pub told_skip : P j ≡ false → Told P w (j + 1)
    told_skip e = record {
      told = λ k h. elim (cases_lt k j) [
        | inl l ↦ so.told k l
        | inr l ↦ let at : j ≡ k = omega arith in subst (λ i. bit w i ≡ P i) at (ap (λ x. eqb x 1) (bit_at_above w j j so.below (omega arith)) ∙ sym e)
      ];
      below = wider;
    }

    pub told_set : j < 32 → P j ≡ true → Told P (bit_or w (1 * 2 ^ j % 2 ^ 32)) (j + 1)
    told_set i e = record {
      told = λ k h. elim (cases_lt k j) [
        | inl l ↦ ap (λ x. eqb x 1) (bit_at_set_other w32 w j i k (λ q. omega arith)) ∙ so.told k l
        | inr l ↦
            let at : j ≡ k = omega arith in
            subst (λ x. bit (bit_or w (1 * 2 ^ j % 2 ^ 32)) x ≡ P x) at (ap (λ x. eqb x 1) (bit_at_set_same w32 w j i) ∙ sym e)
      ];
      below = or_lt (j + 1) w (1 * 2 ^ j % 2 ^ 32) wider (omega (arith, higher));
    }
