-- A list is a trace of a Lap exactly where it leads the Lap's loop from the boundary back to it.
use Rattle.std.proofs.Common.{◌≡◌, ℕ, zero, suc, ◌<◌, ◌≤◌, max, List, [], ◌∷◌, ◌++◌, length, Some, None, Option, sym, refl, ap, ◌∙◌, le_refl, arith, length-append}
use Rattle.property.specs.Nodes.{Node, Lap, node}
use Rattle.property.specs.Traces.{Trace, nothing, choice, sequence, both, all, no_lap, lap}
use Rattle.rules.specs.Lists.{and_then, follow_by}
use Rattle.rules.proofs.Follows.{none_some, then_some, by_join}
use Rattle.places.specs.Laps.{again, lap_from, lap_loop}
use Rattle.places.specs.Loops.{Loop}
use Rattle.places.specs.Walks.{Outcome, Dead, Done, At, Walk, run}
use Rattle.places.proofs.Falling.{Below, Falls, below_more, dead≢done, at≢done, run_dead}
use Rattle.places.proofs.Traces.{Tells}

-- where a list leads from a place, if there is one
abbrev pub follow_from : (ℕ → ℕ → Option ℕ) → Option ℕ → List ℕ → Option ℕ
follow_from next o t = and_then o (λ p. follow_by next p t)

abbrev pub Returns : Loop → List ℕ → Type 0
Returns r t = follow_by r.next r.boundary t ≡ Some r.boundary

-- the loop r tells the traces of the node n
pub record LoopTells (nodes : List Node) (r : Loop) (n : ℕ) : Type 0 where
  pub bounded : r.boundary < r.size
  pub stays : (p l q : ℕ) → p < r.size → r.next p l ≡ Some q → q < r.size
  pub returns : (t : List ℕ) → Trace nodes n t → Returns r t
  pub trace : (t : List ℕ) → Returns r t → Trace nodes n t

-- a list from a place below the size leads to one below it
pub stays_below : (r : Loop) → ((p l q : ℕ) → p < r.size → r.next p l ≡ Some q → q < r.size)
    → (t : List ℕ) (p q : ℕ) → p < r.size → follow_by r.next p t ≡ Some q → q < r.size
stays_below r stays [] p q h e = let z : p ≡ q = cc in omega arith
stays_below r stays (l ∷ t) p q h e =
    let k = then_some (r.next p l) (λ x. follow_by r.next x t) q e in
    stays_below r stays t k.0 q (stays p l k.0 h k.1) k.2

-- laps of the walk w, from s
module _ (w : Walk) (s : ℕ) where
  abbrev pub lap_next : ℕ → ℕ → Option ℕ
  lap_next p l = again s (w.step p l)

  -- the rest of a lap
  lap_done : (o : Outcome) (t : List ℕ) → run w.step o t ≡ Done → follow_from lap_next (again s o) t ≡ Some s
  lap_done Dead t e = absurd (dead≢done (sym (run_dead _ t) ∙ e))
  lap_done Done [] e = refl
  lap_done Done (l ∷ t) e = absurd (dead≢done e)
  lap_done (At p) [] e = absurd (at≢done _ e)
  lap_done (At p) (l ∷ t) e = lap_done (w.step p l) t e

  -- a list that leads to the boundary ends the lap, and goes on from the boundary
  abbrev LapEnds : Outcome → List ℕ → Type 0
  LapEnds o t = (u : List ℕ) × (v : List ℕ) × (t ≡ u ++ v) × (run w.step o u ≡ Done) × (follow_by lap_next s v ≡ Some s)

  lap_ended : Falls w → s ≤ w.size → (o : Outcome) (t : List ℕ) → Below s o → follow_from lap_next (again s o) t ≡ Some s → LapEnds o t
  lap_ended fw z Dead t b e = absurd (none_some e)
  lap_ended fw z Done t b e = ([], t, refl, refl, e)
  lap_ended fw z (At p) [] b e = let q : p ≡ s = cc in absurd (omega arith)
  lap_ended fw z (At p) (l ∷ t) b e =
      let r = lap_ended fw z (w.step p l) t (below_more p s _ (omega arith) (fw.falls p l (omega arith))) e in
      (l ∷ r.0, r.1, ap {B = List ℕ} (λ x. l ∷ x) r.2, r.3, r.4)

-- the traces of a Lap are made of those of its node
by_laps : (nodes : List Node) (n a : ℕ) → node nodes n ≡ Lap a → (P : List ℕ → Type 0) → P []
    → ((s t : List ℕ) → Trace nodes a s → P t → P (s ++ t)) → {t : List ℕ} → Trace nodes n t → P t
by_laps nodes n a e P none more h = go h e
  where
    go : {m : ℕ} {t : List ℕ} → Trace nodes m t → node nodes m ≡ Lap a → P t
    go (nothing i q) g = none
    go (choice q b r) g = absurd (let z : ◌≡◌ {A = ℕ} 0 1 = cc in omega arith)
    go (sequence q r r') g = absurd (let z : ◌≡◌ {A = ℕ} 0 1 = cc in omega arith)
    go (both q r r') g = absurd (let z : ◌≡◌ {A = ℕ} 0 1 = cc in omega arith)
    go (all q r r') g = absurd (let z : ◌≡◌ {A = ℕ} 0 1 = cc in omega arith)
    go (no_lap q) g = none
    go (lap {a = c} {s = u} {t = v} q r r') g = let same : c ≡ a = cc in more u v (rw same at r) (go r' g)

module _ (nodes : List Node) (n a : ℕ) (e : node nodes n ≡ Lap a) (w : Walk) (tells : Tells nodes w a) where
  module _ (s : ℕ) (at_s : w.start ≡ At s) where
    lap_returns : {t : List ℕ} → Trace nodes n t → follow_by (lap_next w s) s t ≡ Some s
    lap_returns h = by_laps nodes n a e (λ t. follow_by (lap_next w s) s t ≡ Some s) refl more h
      where
        more : (u v : List ℕ) → Trace nodes a u → follow_by (lap_next w s) s v ≡ Some s → follow_by (lap_next w s) s (u ++ v) ≡ Some s
        more u v r g =
            let d : run w.step (At s) u ≡ Done = rw at_s at (tells.ends u r) in
            by_join (lap_next w s) s u v s (lap_done w s (At s) u d) ∙ g

    lap_trace : (bound : ℕ) (t : List ℕ) → length t < bound → follow_by (lap_next w s) s t ≡ Some s → Trace nodes n t
    lap_trace zero t h r = absurd (omega arith)
    lap_trace (suc bound) [] h r = no_lap e
    lap_trace (suc bound) (l ∷ t) h r =
        let z : s < w.size = rw at_s at tells.falling.starts in
        let g = lap_ended w s tells.falling (omega arith) (w.step s l) t (tells.falling.falls s l z) r in
        let d : run w.step w.start (l ∷ g.0) ≡ Done = ap (λ o. run w.step o (l ∷ g.0)) at_s ∙ g.3 in
        let q : l ∷ t ≡ (l ∷ g.0) ++ g.1 = ap {B = List ℕ} (λ x. l ∷ x) g.2 in
        rw q (lap e (tells.trace (l ∷ g.0) d) (lap_trace bound g.1 (omega (arith, ap length g.2, length-append g.0 g.1)) g.4))

  -- where the walk starts at no place, the empty list is the Lap's only trace
  module _ (o : Outcome) (at_o : w.start ≡ o) (never : (l : ℕ) (t : List ℕ) → run w.step o (l ∷ t) ≡ Done → ⊥) where
    only_empty : (u : List ℕ) → Trace nodes a u → u ≡ []
    only_empty [] h = refl
    only_empty (l ∷ u) h = absurd (never l u (ap (λ x. run w.step x (l ∷ u)) (sym at_o) ∙ tells.ends (l ∷ u) h))

    lap_empty : {t : List ℕ} → Trace nodes n t → t ≡ []
    lap_empty h = by_laps nodes n a e (λ t. t ≡ []) refl (λ u v r g. ap (λ x. x ++ v) (only_empty u r) ∙ g) h

    still_trace : (t : List ℕ) → follow_by (λ p l. None) 0 t ≡ Some 0 → Trace nodes n t
    still_trace [] h = no_lap e
    still_trace (l ∷ t) h = absurd (none_some h)

    still_tells : (k : ℕ) → LoopTells nodes (record { size = max 1 k; boundary = 0; next = λ p l. None }) n
    still_tells k = record {
      bounded = omega arith;
      stays = λ p l r h g. absurd (none_some g);
      returns = λ t h. ap (λ x. follow_by (λ p l. None) 0 x) (lap_empty h);
      trace = still_trace;
    }

  lap_from_tells : (o : Outcome) → w.start ≡ o → LoopTells nodes (lap_from w o) n
  lap_from_tells Dead q = still_tells Dead q (λ l t. dead≢done) w.size
  lap_from_tells Done q = still_tells Done q (λ l t. dead≢done) w.size
  lap_from_tells (At s) q =
      let z : s < w.size = rw q at tells.falling.starts in
      record {
        bounded = omega arith;
        stays = λ p l r h g. again_below s (max 1 w.size) r (w.step p l) (omega arith) (below_more p _ (w.step p l) (omega arith) (tells.falling.falls p l (omega arith))) g;
        returns = λ t h. lap_returns s q h;
        trace = λ t h. lap_trace s q (suc (length t)) t (le_refl _) h;
      }
    where
      again_below : (s k q : ℕ) (o : Outcome) → s < k → Below k o → again s o ≡ Some q → q < k
      again_below s k q Dead h b e = absurd (none_some e)
      again_below s k q Done h b e = let z : s ≡ q = cc in omega arith
      again_below s k q (At p) h b e = let z : p ≡ q = cc in omega arith

  pub lap_tells : LoopTells nodes (lap_loop w) n
  lap_tells = lap_from_tells w.start refl
