-- The value of a node is worked out from the values of the earlier nodes: the one law of recursion on node numbers.
use Rattle.std.proofs.Common.{◌≡◌, ℕ, zero, suc, ◌<◌, ◌≤◌, Bool, true, false, cond, ltb, ◌⊎◌, sym, refl, ap, ◌∙◌, inl, inr, arith, ltb-false, ltb-true, le-ltb, lt-ltb}
use mathlib.Core.Path.{fun_ext}
use Rattle.property.specs.Numbered.{before, up_to, by_number}

pub before_lt : {A : Type 0} (d : A) (n : ℕ) (f : ℕ → A) (m : ℕ) → m < n → before d n f m ≡ f m
before_lt d n f m h = ap (λ b. cond b (f m) d) (lt-ltb m n h)

pub before_ge : {A : Type 0} (d : A) (n : ℕ) (f : ℕ → A) (m : ℕ) → n ≤ m → before d n f m ≡ d
before_ge d n f m h = ap (λ b. cond b (f m) d) (le-ltb m n h)

by_order : (m n : ℕ) (b : Bool) → ltb m n ≡ b → (m < n) ⊎ (n ≤ m)
by_order m n true e = inl (ltb-true m n e)
by_order m n false e = inr (ltb-false m n e)

pub lt_or_ge : (m n : ℕ) → (m < n) ⊎ (n ≤ m)
lt_or_ge m n = by_order m n (ltb m n) refl

pub before_same : {A : Type 0} (d : A) (f g : ℕ → A) (n : ℕ) → ((m : ℕ) → m < n → f m ≡ g m) → before d n f ≡ before d n g
before_same d f g n h =
    fun_ext (λ m. elim (lt_or_ge m n) [
      | inl l ↦ before_lt d n f m l ∙ h m l ∙ sym (before_lt d n g m l)
      | inr l ↦ before_ge d n f m l ∙ sym (before_ge d n g m l)
    ])

module _ {A : Type 0} (d : A) (F : (ℕ → A) → ℕ → A) where
  up_to_same : (f g n : ℕ) → n < f → n < g → up_to d F f n ≡ up_to d F g n
  up_to_same zero g n h k = absurd (omega arith)
  up_to_same (suc f) zero n h k = absurd (omega arith)
  up_to_same (suc f) (suc g) n h k = ap (λ e. F e n) (before_same d (λ m. up_to d F f m) (λ m. up_to d F g m) n (λ m l. up_to_same f g m (omega arith) (omega arith)))

  pub by_number_is : (n : ℕ) → by_number d F n ≡ F (before d n (λ m. by_number d F m)) n
  unfolding by_number
  by_number_is n = ap (λ e. F e n) (before_same d (λ m. up_to d F n m) (λ m. by_number d F m) n (λ m l. up_to_same n (suc m) m l (omega arith)))

-- strong induction on the number
pub from_earlier : (P : ℕ → Type 0) → ((n : ℕ) → ((m : ℕ) → m < n → P m) → P n) → (n : ℕ) → P n
from_earlier P step n = go (suc n) n (omega arith)
  where
    go : (bound m : ℕ) → m < bound → P m
    go zero m h = absurd (omega arith)
    go (suc bound) m h = step m (λ k l. go bound k (omega arith))
