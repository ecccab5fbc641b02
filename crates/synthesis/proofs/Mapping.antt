-- Outcomes that are changed one after the other, each from what it was.
use Rattle.std.proofs.Common.{◌≡◌, ℕ, ◌+◌, ◌<◌, ◌≤◌, List, length, get_or, set, sym, ◌∙◌, subst, inl, inr, arith, length-set, get_or-set_other, get_or-set_same}
use Rattle.std.proofs.lemmas.Bool.{cases_lt}
use Rattle.letters.specs.Alphabets.{most_letters}
use Rattle.places.specs.declared.outcome.Outcome.{Outcome}
use Rattle.places.specs.declared.outcome.Outcome.TheVariants.{Dead}

-- those before i are changed as R says, the others are as they were
pub record Mapped (R : ℕ → Outcome → Outcome → Type 0) (was out : List Outcome) (i : ℕ) : Type 0 where
  pub changed : (k : ℕ) → k < i → R k (get_or was k Dead) (get_or out k Dead)
  pub left : (k : ℕ) → i ≤ k → get_or out k Dead ≡ get_or was k Dead
  pub long : length out ≡ most_letters

module _ (R : ℕ → Outcome → Outcome → Type 0) (was : List Outcome) where
  pub mapped_more : (out : List Outcome) (i : ℕ) (y : Outcome) → i < most_letters → R i (get_or out i Dead) y → Mapped R was out i → Mapped R was (set out i y) (i + 1)
  mapped_more out i y h e m = record {
    changed = changed;
    left = λ k l. get_or-set_other out i k y Dead (λ q. omega arith) ∙ m.left k (omega arith);
    long = length-set out i y ∙ m.long;
  }
    where
      here : R i (get_or was i Dead) (get_or (set out i y) i Dead)
      here =
          subst (λ v. R i (get_or was i Dead) v) (sym (get_or-set_same out i y Dead (omega (arith, m.long))))
          (subst (λ v. R i v y) (m.left i (omega arith)) e)

      changed : (k : ℕ) → k < i + 1 → R k (get_or was k Dead) (get_or (set out i y) k Dead)
      changed k l = elim (cases_lt k i) [
        | inl below ↦ subst (λ v. R k (get_or was k Dead) v) (sym (get_or-set_other out i k y Dead (λ q. omega arith))) (m.changed k below)
        | inr above ↦ let at : i ≡ k = omega arith in subst (λ x. R x (get_or was x Dead) (get_or (set out i y) x Dead)) at here
      ]

  pub mapped_all : (out : List Outcome) (i : ℕ) → most_letters ≤ i → Mapped R was out i → (k : ℕ) → k < length out → R k (get_or was k Dead) (get_or out k Dead)
  mapped_all out i h m k l = m.changed k (omega (arith, m.long))
