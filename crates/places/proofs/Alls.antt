-- The loop of an All goes round two loops at once.
use Rattle.std.proofs.Common.{◌≡◌, ℕ, ◌+◌, ◌*◌, ◌/◌, ◌%◌, ◌<◌, List, [], ◌∷◌, Some, None, Option, sym, refl, ap, ◌∙◌, ap₂}
use lib.Arith.{digits_lt, digits_div, digits_mod}
use Rattle.property.specs.Nodes.{Node, All, node}
use Rattle.property.specs.Traces.{Trace, all}
use Rattle.rules.specs.Lists.{follow_by}
use Rattle.rules.proofs.Follows.{none_some}
use Rattle.places.specs.Laps.{pair, all_loop}
use Rattle.places.specs.Loops.{Loop}
use Rattle.places.proofs.Boths.{div_below}
use Rattle.places.proofs.ByKind.{means}
use Rattle.places.proofs.Laps.{follow_from, Returns, LoopTells, stays_below}

pair_none : (k : ℕ) (o : Option ℕ) → pair k o None ≡ None
pair_none k None = refl
pair_none k (Some p) = refl

pub pair_some : (k : ℕ) (o r : Option ℕ) (q : ℕ) → pair k o r ≡ Some q → (x : ℕ) × (y : ℕ) × (o ≡ Some x) × (r ≡ Some y) × (x * k + y ≡ q)
pair_some k None r q e = absurd (none_some e)
pair_some k (Some x) None q e = absurd (none_some e)
pair_some k (Some x) (Some y) q e = (x, y, refl, refl, (cc))

module _ (a b : Loop) where
  pub next_pair : (p q l : ℕ) → q < b.size → (all_loop a b).next (p * b.size + q) l ≡ pair b.size (a.next p l) (b.next q l)
  next_pair p q l h = ap₂ (λ x y. pair b.size (a.next x l) (b.next y l)) (digits_div p h) (digits_mod p h)

  module _ (stays : (p l q : ℕ) → p < b.size → b.next p l ≡ Some q → q < b.size) where
    from_pair : (o r : Option ℕ) (t : List ℕ) → ((q : ℕ) → r ≡ Some q → q < b.size)
        → follow_from (all_loop a b).next (pair b.size o r) t ≡ pair b.size (follow_from a.next o t) (follow_from b.next r t)
    from_pair None r t h = refl
    from_pair (Some p) None t h = sym (pair_none b.size _)
    from_pair (Some p) (Some q) [] h = refl
    from_pair (Some p) (Some q) (l ∷ t) h =
        ap (λ o. follow_from (all_loop a b).next o t) (next_pair p q l (h q refl))
        ∙ from_pair (a.next p l) (b.next q l) t (λ x e. stays q l x (h q refl) e)

    pub follow_pair : (p q : ℕ) (t : List ℕ) → q < b.size
        → follow_by (all_loop a b).next (p * b.size + q) t ≡ pair b.size (follow_by a.next p t) (follow_by b.next q t)
    follow_pair p q t h = from_pair (Some p) (Some q) t (λ x e. let z : q ≡ x = cc in rw z at h)

module _ (nodes : List Node) (n i j : ℕ) (e : node nodes n ≡ All i j) (a b : Loop) (la : LoopTells nodes a i) (lb : LoopTells nodes b j) where
  all_stays : (p l q : ℕ) → p < a.size * b.size → (all_loop a b).next p l ≡ Some q → q < a.size * b.size
  all_stays p l q h g =
      let d = div_below p a.size b.size h in
      let r = pair_some b.size _ _ q g in
      let x = la.stays (p / b.size) l r.0 d.0 r.2 in
      let y = lb.stays (p % b.size) l r.1 d.1 r.3 in
      let z : r.0 * b.size + r.1 < a.size * b.size = digits_lt x y in
      rw r.4 at z

  all_returns : (t : List ℕ) → Trace nodes n t → Returns (all_loop a b) t
  all_returns t h =
      let m = means nodes h (All i j) e in
      follow_pair a b lb.stays a.boundary b.boundary t lb.bounded ∙ ap₂ (λ x y. pair b.size x y) (la.returns t m.0) (lb.returns t m.1)

  all_trace : (t : List ℕ) → Returns (all_loop a b) t → Trace nodes n t
  all_trace t h =
      let g = pair_some b.size _ _ _ (sym (follow_pair a b lb.stays a.boundary b.boundary t lb.bounded) ∙ h) in
      let y_in : g.1 < b.size = stays_below b lb.stays t b.boundary g.1 lb.bounded g.3 in
      let x_is : g.0 ≡ a.boundary = sym (digits_div g.0 y_in) ∙ ap (λ v. v / b.size) g.4 ∙ digits_div a.boundary lb.bounded in
      let y_is : g.1 ≡ b.boundary = sym (digits_mod g.0 y_in) ∙ ap (λ v. v % b.size) g.4 ∙ digits_mod a.boundary lb.bounded in
      all e (la.trace t (g.2 ∙ ap Some x_is)) (lb.trace t (g.3 ∙ ap Some y_is))

  pub all_tells : LoopTells nodes (all_loop a b) n
  all_tells = record { bounded = digits_lt la.bounded lb.bounded; stays = all_stays; returns = all_returns; trace = all_trace }
