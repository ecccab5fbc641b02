-- The span of a place bounds every list of letters that it admits with no end.
use Rattle.std.proofs.Common.{◌≡◌, ℕ, ◌≤◌, true, List, [], ◌∷◌, length, Some, arith}
use Rattle.rules.specs.Meaning.{Meaning, Laws}
use Rattle.rules.specs.Lists.{follow, Endless, SpanBoundsACycle}
use Rattle.rules.proofs.Follows.{is_some, then_some}

module _ (m : Meaning) (laws : Laws m) where
  pub span_bounds : (p : ℕ) (xs : List ℕ) (r : ℕ) → m.live p ≡ true → Endless xs → follow m p xs ≡ Some r → length xs ≤ m.span p
  span_bounds p [] r live e h = omega arith
  span_bounds p (a ∷ xs) r live e h =
      let t = then_some (m.next p a) (λ x. follow m x xs) r h in
      let q = t.0 in
      let less = laws.shorter p a q live e.0 t.1 in
      let later = span_bounds q xs r (laws.stays p a q live t.1) e.1 t.2 in
      omega (arith, less, later)

pub spans : SpanBoundsACycle
spans m lawful p live xs e h =
    let t = is_some (follow m p xs) h in
    span_bounds m lawful.laws p xs t.0 live e t.1
