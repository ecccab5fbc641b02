-- The place that a list leads to: parts of lists, single letters, and what the laws say of it.
use Rattle.std.proofs.Common.{◌≡◌, ℕ, true, List, [], ◌∷◌, ◌++◌, is_some as option_is_some, Some, None, Option, sym, refl, ap, ◌∙◌, arith}
use Rattle.std.proofs.lemmas.Bool.{eq-eqb, eqb-true, false≢true}
use Rattle.letters.specs.Letters.{end, insertable}
use Rattle.rules.specs.Meaning.{Meaning, Laws}
use Rattle.rules.specs.Lists.{and_then, follow_by, follow, Admitted}

pub none_some : {T : Type 0} {x : T} → None ≡ Some x → ⊥
none_some h = let z : ◌≡◌ {A = ℕ} 0 1 = cc in omega arith

-- the end is not insertable
pub not_end : (a : ℕ) → insertable a ≡ true → a ≡ end → ⊥
not_end a can e = false≢true (sym (ap insertable e) ∙ can)

pub is_some : (o : Option ℕ) → option_is_some o ≡ true → (q : ℕ) × (o ≡ Some q)
is_some None h = let z : ◌≡◌ {A = ℕ} 0 1 = cc in absurd (omega arith)
is_some (Some q) h = (q, refl)

pub then_some : (o : Option ℕ) (on : ℕ → Option ℕ) (r : ℕ) → and_then o on ≡ Some r → (q : ℕ) × (o ≡ Some q) × (on q ≡ Some r)
then_some None on r h = absurd (none_some h)
then_some (Some q) on r h = (q, refl, h)

pub by_join : (next : ℕ → ℕ → Option ℕ) (p : ℕ) (xs ys : List ℕ) (q : ℕ) → follow_by next p xs ≡ Some q → follow_by next p (xs ++ ys) ≡ follow_by next q ys
by_join next p [] ys q h = let e : p ≡ q = cc in ap (λ x. follow_by next x ys) e
by_join next p (a ∷ xs) ys q h =
    let t = then_some (next p a) (λ x. follow_by next x xs) q h in
    ap (λ o. and_then o (λ x. follow_by next x (xs ++ ys))) t.1 ∙ by_join next t.0 xs ys q t.2

pub by_split : (next : ℕ → ℕ → Option ℕ) (p : ℕ) (xs ys : List ℕ) (r : ℕ) → follow_by next p (xs ++ ys) ≡ Some r → (q : ℕ) × (follow_by next p xs ≡ Some q) × (follow_by next q ys ≡ Some r)
by_split next p [] ys r h = (p, refl, h)
by_split next p (a ∷ xs) ys r h =
    let t = then_some (next p a) (λ x. follow_by next x (xs ++ ys)) r h in
    let u = by_split next t.0 xs ys r t.2 in
    (u.0, ap (λ o. and_then o (λ x. follow_by next x xs)) t.1 ∙ u.1, u.2)

pub follow_join : (m : Meaning) (p : ℕ) (xs ys : List ℕ) (q : ℕ) → follow m p xs ≡ Some q → follow m p (xs ++ ys) ≡ follow m q ys
follow_join m = by_join m.next

pub follow_split : (m : Meaning) (p : ℕ) (xs ys : List ℕ) (r : ℕ) → follow m p (xs ++ ys) ≡ Some r → (q : ℕ) × (follow m p xs ≡ Some q) × (follow m q ys ≡ Some r)
follow_split m = by_split m.next

pub follow_one : (m : Meaning) (p a q : ℕ) → m.next p a ≡ Some q → follow m p (a ∷ []) ≡ Some q
follow_one m p a q h = ap (λ o. and_then o (λ x. Some x)) h

pub one_follow : (m : Meaning) (p a q : ℕ) → follow m p (a ∷ []) ≡ Some q → m.next p a ≡ Some q
one_follow m p a q h = let t = then_some (m.next p a) (λ x. Some x) q h in t.1 ∙ t.2

pub admitted_front : (m : Meaning) (p : ℕ) (xs ys : List ℕ) → Admitted m p (xs ++ ys) → Admitted m p xs
admitted_front m p xs ys h =
    let t = is_some (follow m p (xs ++ ys)) h in
    ap option_is_some (follow_split m p xs ys t.0 t.1).1

module _ (m : Meaning) (laws : Laws m) where
  pub follow_live : (p : ℕ) (xs : List ℕ) (q : ℕ) → m.live p ≡ true → follow m p xs ≡ Some q → m.live q ≡ true
  follow_live p [] q live h = let e : p ≡ q = cc in ap m.live (sym e) ∙ live
  follow_live p (a ∷ xs) q live h =
      let t = then_some (m.next p a) (λ x. follow m x xs) q h in
      follow_live t.0 xs q (laws.stays p a t.0 live t.1) t.2

  -- end is admitted where nothing is owed
  pub closes : (p : ℕ) → m.live p ≡ true → m.owed p ≡ 0 → option_is_some (m.next p end) ≡ true
  closes p live e = laws.ends p live ∙ eq-eqb (m.owed p) 0 e

  pub closed : (p : ℕ) → m.live p ≡ true → option_is_some (m.next p end) ≡ true → m.owed p ≡ 0
  closed p live h = eqb-true (m.owed p) 0 (sym (laws.ends p live) ∙ h)
