-- The cap over a rule: at most k letters in a cycle, end left out.
use Rattle.std.specs.Prelude.{◌≡◌, ℕ, ◌+◌, ◌-◌, ◌*◌, ◌/◌, ◌%◌, min, Bool, cond, ◌&&◌, Some, None, Option, ◌==◌, nat_le, nat_lt}
use Rattle.letters.specs.Letters.{end}
use Rattle.rules.specs.Meaning.{Meaning}

-- what is owed below fits the letters left
abbrev pub cap_live : Meaning → ℕ → ℕ → Bool
cap_live m q left = m.live q && nat_le (m.owed q) left

-- a letter other than end that leads to a place below: one is left, and owed after it is at most the letters then left
abbrev pub cap_act : (ℕ → ℕ → ℕ) → Meaning → ℕ → Option ℕ → Option ℕ
cap_act place m left None = None
cap_act place m left (Some after) = cond (nat_lt 0 left && nat_le (m.owed after) (left - 1)) (Some (place after (left - 1))) None

-- end sets the letters left to k
abbrev pub cap_end : (ℕ → ℕ → ℕ) → ℕ → Option ℕ → Option ℕ
cap_end place k None = None
cap_end place k (Some after) = Some (place after k)

abbrev pub cap_next : (ℕ → ℕ → ℕ) → Meaning → ℕ → ℕ → ℕ → ℕ → Option ℕ
cap_next place m k q left a =
    cond (cap_live m q left)
    (cond (a == end) (cap_end place k (m.next q a)) (cap_act place m left (m.next q a)))
    None

-- a place is the place below times (k + 1), plus the letters left; `cut` is what is kept of the number
abbrev pub capped_with : (ℕ → ℕ) → Meaning → ℕ → Meaning
capped_with cut m k = record {
  count = cut (m.count * (k + 1));
  start = cut (m.start * (k + 1) + k);
  most = m.most;
  live = λ p. cap_live m (p / (k + 1)) (p % (k + 1));
  next = λ p a. cap_next (λ q left. cut (q * (k + 1) + left)) m k (p / (k + 1)) (p % (k + 1)) a;
  owed = λ p. cond (cap_live m (p / (k + 1)) (p % (k + 1))) (m.owed (p / (k + 1))) 0;
  span = λ p. cond (cap_live m (p / (k + 1)) (p % (k + 1))) (min (m.span (p / (k + 1))) (p % (k + 1))) 0;
  lead = λ p. cond (cap_live m (p / (k + 1)) (p % (k + 1))) (m.lead (p / (k + 1))) None;
}

-- the cap of k over a rule
abbrev pub capped : Meaning → ℕ → Meaning
capped m k = capped_with (λ n. n) m k

-- two meanings that agree at every place and letter
pub record Same (m n : Meaning) : Type 0 where
  pub count : m.count ≡ n.count
  pub start : m.start ≡ n.start
  pub most : m.most ≡ n.most
  pub live : (p : ℕ) → m.live p ≡ n.live p
  pub next : (p a : ℕ) → m.next p a ≡ n.next p a
  pub owed : (p : ℕ) → m.owed p ≡ n.owed p
  pub span : (p : ℕ) → m.span p ≡ n.span p
  pub lead : (p : ℕ) → m.lead p ≡ n.lead p
