-- A value for each node, worked out from the values of the earlier nodes alone.
use Rattle.std.specs.Prelude.{ℕ, zero, suc, cond, nat_lt}

-- f at a number before n, and d at any other
abbrev pub before : {A : Type 0} → A → ℕ → (ℕ → A) → ℕ → A
before d n f m = cond (nat_lt m n) (f m) d

abbrev pub up_to : {A : Type 0} → A → ((ℕ → A) → ℕ → A) → ℕ → ℕ → A
up_to d F zero n = d
up_to d F (suc turns) n = F (before d n (λ m. up_to d F turns m)) n

-- the value of n by F, where F takes the values of the numbers before; `by_number_is` is its equation
unfoldable pub by_number : {A : Type 0} → A → ((ℕ → A) → ℕ → A) → ℕ → A
by_number d F n = up_to d F (suc n) n
