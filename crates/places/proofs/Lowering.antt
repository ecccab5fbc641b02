-- Between two ends a loop goes from place to lower place.
use Rattle.std.proofs.Common.{◌≡◌, ℕ, suc, ◌*◌, ◌<◌, ◌≤◌, max, true, List, [], length, Some, sym, refl, ap, ◌∙◌, subst, mul-le-mul_right, arith}
use Rattle.std.proofs.lemmas.Bool.{false≢true}
use Rattle.letters.specs.Letters.{end}
use Rattle.property.specs.Closing.{closes}
use Rattle.property.specs.Nodes.{Node, Nothing, Choice, Sequence, Both, Lap, All, node, is_loop}
use Rattle.property.specs.Numbered.{before}
use Rattle.property.specs.Sound.{SoundNode, Sound}
use Rattle.property.proofs.Numbering.{before_lt, from_earlier}
use Rattle.rules.proofs.Follows.{none_some}
use Rattle.places.specs.Laps.{lap_from, all_loop, still, loop, loop_by}
use Rattle.places.specs.Loops.{Loop, Reached}
use Rattle.places.specs.Walks.{Outcome, Dead, Done, At, Walk}
use Rattle.places.proofs.Alls.{pair_some, next_pair, follow_pair}
use Rattle.places.proofs.Beginnings.{loop_told}
use Rattle.places.proofs.Branches.{sound_at}
use Rattle.places.proofs.Closings.{stays_inside, lower}
use Rattle.places.proofs.Equations.{loop_is}
use Rattle.places.proofs.Laps.{LoopTells, lap_tells, stays_below}
use Rattle.places.proofs.Traces.{Tells, walk_told}

abbrev pub Lowers : Loop → Type 0
Lowers r = (p l q : ℕ) → Reached r p → (l ≡ end → ⊥) → r.next p l ≡ Some q → q < p

module _ (nodes : List Node) where
  pub reached_below : (r : Loop) (n : ℕ) → LoopTells nodes r n → (p : ℕ) → Reached r p → p < r.size
  reached_below r n tells p t = stays_below r tells.stays t.0 r.boundary p tells.bounded t.1

  lap_lowers : (w : Walk) (n a : ℕ) → Tells nodes w a → closes nodes a ≡ true → (o : Outcome) → w.start ≡ o → LoopTells nodes (lap_from w o) n → Lowers (lap_from w o)
  lap_lowers w n a tells closing Dead e r p l q h f g = absurd (none_some g)
  lap_lowers w n a tells closing Done e r p l q h f g = absurd (none_some g)
  lap_lowers w n a tells closing (At s) e r p l q h f g =
      let z : s < w.size = rw e at tells.falling.starts in
      let below : p < max 1 w.size = reached_below (lap_from w (At s)) n r p h in
      lower nodes w a tells closing s e p l q (omega arith) (stays_inside nodes w a tells closing s e h.0 s ([], refl) p h.1) f (w.step p l) refl g

  -- both places of an All are lowered
  all_lowers : (a b : Loop) (i j : ℕ) → LoopTells nodes a i → LoopTells nodes b j → Lowers a → Lowers b → Lowers (all_loop a b)
  all_lowers a b i j la lb fa fb p l q h f g =
      let c = pair_some b.size _ _ p (sym (follow_pair a b lb.stays a.boundary b.boundary h.0 lb.bounded) ∙ h.1) in
      let y_in : c.1 < b.size = reached_below b j lb c.1 (h.0, c.3) in
      let d = pair_some b.size _ _ q (sym (next_pair a b c.0 c.1 l y_in) ∙ ap (λ x. (all_loop a b).next x l) c.4 ∙ g) in
      let x_falls : d.0 < c.0 = fa c.0 l d.0 (h.0, c.2) f d.2 in
      let y_falls : d.1 < c.1 = fb c.1 l d.1 (h.0, c.3) f d.3 in
      let m : suc d.0 * b.size ≤ c.0 * b.size = mul-le-mul_right b.size x_falls in
      omega (arith, c.4, d.4)

module _ (alphabet : List ℕ) (nodes : List Node) (sound : Sound alphabet nodes) where
  abbrev Told : Loop → ℕ → Type 0
  Told r n = LoopTells nodes r n × Lowers r

  lowers_by : (loops : ℕ → Loop) (n : ℕ) → n < length nodes → ((m : ℕ) → m < n → is_loop (node nodes m) ≡ true → Told (loops m) m)
      → (x : Node) → node nodes n ≡ x → SoundNode alphabet nodes n x → is_loop x ≡ true → Lowers (loop_by nodes loops x)
  lowers_by loops n h earlier Nothing e s p = absurd (false≢true p)
  lowers_by loops n h earlier (Choice bs) e s p = absurd (false≢true p)
  lowers_by loops n h earlier (Sequence a b) e s p = absurd (false≢true p)
  lowers_by loops n h earlier (Both a b) e s p = absurd (false≢true p)
  lowers_by loops n h earlier (Lap a) e s p =
      let tells = walk_told alphabet nodes sound a (omega (arith, s.0.0)) s.0.1 in
      lap_lowers nodes _ n a tells s.1 _ refl (lap_tells nodes n a e _ tells)
  lowers_by loops n h earlier (All a b) e s p =
      let x = earlier a s.0.0 s.0.1 in
      let y = earlier b s.1.0 s.1.1 in
      all_lowers nodes _ _ a b x.0 y.0 x.1 y.1

  pub loop_lowers : (n : ℕ) → n < length nodes → is_loop (node nodes n) ≡ true → Lowers (loop nodes n)
  loop_lowers = from_earlier (λ n. n < length nodes → is_loop (node nodes n) ≡ true → Lowers (loop nodes n)) step
    where
      step : (n : ℕ) → ((m : ℕ) → m < n → m < length nodes → is_loop (node nodes m) ≡ true → Lowers (loop nodes m)) → n < length nodes → is_loop (node nodes n) ≡ true → Lowers (loop nodes n)
      step n ih h p =
          subst (λ r. Lowers r) (sym (loop_is nodes n))
          (lowers_by (before still n (λ m. loop nodes m)) n h
          (λ m l q. subst (λ r. Told r m) (sym (before_lt still n (λ m. loop nodes m) m l)) (loop_told alphabet nodes sound m (omega arith) q, ih m l (omega arith) q))
          (node nodes n) refl (sound_at alphabet nodes sound n) p)
