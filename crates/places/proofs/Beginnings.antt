-- A list is a trace of a node of kind 6 or 7 exactly where it leads the node's loop back to the boundary, and a beginning exactly
-- where it leads to a place from which the boundary can be reached.
use Rattle.std.proofs.Common.{◌≡◌, ℕ, ◌<◌, true, List, ◌++◌, length, sym, refl, ◌∙◌, subst, arith}
use Rattle.std.proofs.lemmas.Bool.{false≢true}
use Rattle.property.specs.Nodes.{Node, Nothing, Choice, Sequence, Both, Lap, All, node, is_loop}
use Rattle.property.specs.Numbered.{before}
use Rattle.property.specs.Sound.{SoundNode, Sound}
use Rattle.property.specs.Traces.{Beginning}
use Rattle.property.proofs.Numbering.{before_lt, from_earlier}
use Rattle.rules.proofs.Follows.{by_join, by_split}
use Rattle.places.specs.Laps.{still, loop, loop_by}
use Rattle.places.specs.Loops.{Loop, LeadsToLive}
use Rattle.places.proofs.Alls.{all_tells}
use Rattle.places.proofs.Branches.{sound_at}
use Rattle.places.proofs.Equations.{loop_is}
use Rattle.places.proofs.Laps.{LoopTells, lap_tells}
use Rattle.places.proofs.Traces.{walk_told}

module _ (alphabet : List ℕ) (nodes : List Node) (sound : Sound alphabet nodes) where
  loop_tells_by : (loops : ℕ → Loop) (n : ℕ) → n < length nodes → ((m : ℕ) → m < n → is_loop (node nodes m) ≡ true → LoopTells nodes (loops m) m)
      → (x : Node) → node nodes n ≡ x → SoundNode alphabet nodes n x → is_loop x ≡ true → LoopTells nodes (loop_by nodes loops x) n
  loop_tells_by loops n h earlier Nothing e s p = absurd (false≢true p)
  loop_tells_by loops n h earlier (Choice bs) e s p = absurd (false≢true p)
  loop_tells_by loops n h earlier (Sequence a b) e s p = absurd (false≢true p)
  loop_tells_by loops n h earlier (Both a b) e s p = absurd (false≢true p)
  loop_tells_by loops n h earlier (Lap a) e s p = lap_tells nodes n a e _ (walk_told alphabet nodes sound a (omega (arith, s.0.0)) s.0.1)
  loop_tells_by loops n h earlier (All a b) e s p = all_tells nodes n a b e _ _ (earlier a s.0.0 s.0.1) (earlier b s.1.0 s.1.1)

  pub loop_told : (n : ℕ) → n < length nodes → is_loop (node nodes n) ≡ true → LoopTells nodes (loop nodes n) n
  loop_told = from_earlier (λ n. n < length nodes → is_loop (node nodes n) ≡ true → LoopTells nodes (loop nodes n) n) step
    where
      step : (n : ℕ) → ((m : ℕ) → m < n → m < length nodes → is_loop (node nodes m) ≡ true → LoopTells nodes (loop nodes m) m)
          → n < length nodes → is_loop (node nodes n) ≡ true → LoopTells nodes (loop nodes n) n
      step n ih h p =
          subst (λ r. LoopTells nodes r n) (sym (loop_is nodes n))
          (loop_tells_by (before still n (λ m. loop nodes m)) n h
          (λ m l q. subst (λ r. LoopTells nodes r m) (sym (before_lt still n (λ m. loop nodes m) m l)) (ih m l (omega arith) q))
          (node nodes n) refl (sound_at alphabet nodes sound n) p)

  pub beginning_live : (n : ℕ) → n < length nodes → is_loop (node nodes n) ≡ true → (t : List ℕ) → Beginning nodes n t → LeadsToLive (loop nodes n) t
  beginning_live n h k t b =
      let g = by_split (loop nodes n).next (loop nodes n).boundary t b.0 (loop nodes n).boundary ((loop_told n h k).returns (t ++ b.0) b.1) in
      (g.0, g.1, (b.0, g.2))

  pub live_beginning : (n : ℕ) → n < length nodes → is_loop (node nodes n) ≡ true → (t : List ℕ) → LeadsToLive (loop nodes n) t → Beginning nodes n t
  live_beginning n h k t v = let u = v.2.0 in (u, (loop_told n h k).trace (t ++ u) (by_join (loop nodes n).next (loop nodes n).boundary t u v.0 v.1 ∙ v.2.1))
