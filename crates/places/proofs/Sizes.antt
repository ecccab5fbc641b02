-- A walk and a loop have as many places as their node's size says.
use Rattle.std.proofs.Common.{◌≡◌, ℕ, zero, suc, ◌+◌, ◌*◌, ◌<◌, max, Bool, true, false, cond, List, sym, refl, ap, ◌∙◌, ap₂, arith}
use Rattle.std.proofs.lemmas.Bool.{true≢false, false≢true}
use Rattle.property.specs.Nodes.{Node, Nothing, Choice, Sequence, Both, Lap, All, node, is_loop}
use Rattle.property.specs.Numbered.{before}
use Rattle.property.specs.Sizes.{in_family, total, weight, size, size_by}
use Rattle.property.specs.Sound.{SoundNode, Sound}
use Rattle.property.proofs.Numbering.{before_lt, from_earlier}
use Rattle.places.specs.Laps.{lap_from, still, loop, loop_by}
use Rattle.places.specs.Loops.{Loop}
use Rattle.places.specs.Walks.{Outcome, Dead, Done, At, Walk, places, member_of, nothing_walk, walk, walk_by}
use Rattle.places.proofs.Branches.{sound_at}
use Rattle.places.proofs.Equations.{walk_is, loop_is, size_is}
use Rattle.places.proofs.Families.{member_plain, member_earlier}

total_same : (f g : ℕ → ℕ) (k : ℕ) → ((m : ℕ) → m < k → f m ≡ g m) → total f k ≡ total g k
unfolding total
total_same f g zero h = refl
total_same f g (suc k) h = ap₂ (λ x y. x + y) (total_same f g k (λ m l. h m (omega arith))) (h k (omega arith))

-- what a member counts, where its walk has as many places as `sizes` says
pub places_weight : (w : Walk) (sizes : ℕ → ℕ) (m : ℕ) (x : Node) → (((bs : List (ℕ × ℕ)) → x ≡ Choice bs → ⊥) → w.size ≡ sizes m) → places (member_of w x) ≡ weight sizes m x
places_weight w sizes m Nothing h = h (λ bs e. let z : ◌≡◌ {A = ℕ} 0 1 = cc in omega arith)
places_weight w sizes m (Choice bs) h = refl
places_weight w sizes m (Sequence a b) h = h (λ bs e. let z : ◌≡◌ {A = ℕ} 0 1 = cc in omega arith)
places_weight w sizes m (Both a b) h = h (λ bs e. let z : ◌≡◌ {A = ℕ} 0 1 = cc in omega arith)
places_weight w sizes m (Lap a) h = h (λ bs e. let z : ◌≡◌ {A = ℕ} 0 1 = cc in omega arith)
places_weight w sizes m (All a b) h = h (λ bs e. let z : ◌≡◌ {A = ℕ} 0 1 = cc in omega arith)

lap_size : (w : Walk) (o : Outcome) → (lap_from w o).size ≡ max 1 w.size
lap_size w Dead = refl
lap_size w Done = refl
lap_size w (At s) = refl

module _ (alphabet : List ℕ) (nodes : List Node) (sound : Sound alphabet nodes) where
  walk_size_by : (walks : ℕ → Walk) (sizes : ℕ → ℕ) (n : ℕ) → ((m : ℕ) → m < n → is_loop (node nodes m) ≡ false → (walks m).size ≡ sizes m)
      → (x : Node) → node nodes n ≡ x → SoundNode alphabet nodes n x → is_loop x ≡ false → (walk_by nodes walks n x).size ≡ size_by nodes sizes n x
  walk_size_by walks sizes n earlier Nothing e s p = refl
  walk_size_by walks sizes n earlier (Choice bs) e s p = total_same _ _ (suc n) (λ m h. counted m (in_family nodes n m) refl)
    where
      counted : (m : ℕ) (b : Bool) → in_family nodes n m ≡ b → cond (in_family nodes n m) (places (member_of (walks m) (node nodes m))) 0 ≡ cond (in_family nodes n m) (weight sizes m (node nodes m)) 0
      counted m true i =
          ap (λ v. cond (in_family nodes n m) v 0)
          (places_weight (walks m) sizes m (node nodes m) (λ other. earlier m (member_earlier nodes alphabet sound n bs e m i other) (member_plain nodes alphabet sound n bs e m i)))
      counted m false i = rw i
  walk_size_by walks sizes n earlier (Sequence a b) e s p = ap₂ (λ x y. x + y) (earlier a s.0.0 s.0.1) (earlier b s.1.0 s.1.1)
  walk_size_by walks sizes n earlier (Both a b) e s p = ap₂ (λ x y. x * y) (earlier a s.0.0 s.0.1) (earlier b s.1.0 s.1.1)
  walk_size_by walks sizes n earlier (Lap a) e s p = absurd (true≢false p)
  walk_size_by walks sizes n earlier (All a b) e s p = absurd (true≢false p)

  pub walk_size : (n : ℕ) → is_loop (node nodes n) ≡ false → (walk nodes n).size ≡ size nodes n
  walk_size = from_earlier (λ n. is_loop (node nodes n) ≡ false → (walk nodes n).size ≡ size nodes n) step
    where
      step : (n : ℕ) → ((m : ℕ) → m < n → is_loop (node nodes m) ≡ false → (walk nodes m).size ≡ size nodes m) → is_loop (node nodes n) ≡ false → (walk nodes n).size ≡ size nodes n
      step n ih p =
          ap (λ w. w.size) (walk_is nodes n)
          ∙ walk_size_by (before nothing_walk n (λ m. walk nodes m)) (before 0 n (λ m. size nodes m)) n
          (λ m h q. ap (λ w. w.size) (before_lt nothing_walk n (λ m. walk nodes m) m h) ∙ ih m h q ∙ sym (before_lt 0 n (λ m. size nodes m) m h))
          (node nodes n) refl (sound_at alphabet nodes sound n) p
          ∙ sym (size_is nodes n)

  loop_size_by : (loops : ℕ → Loop) (sizes : ℕ → ℕ) (n : ℕ) → ((m : ℕ) → m < n → is_loop (node nodes m) ≡ true → (loops m).size ≡ sizes m)
      → ((m : ℕ) → m < n → is_loop (node nodes m) ≡ false → (walk nodes m).size ≡ sizes m)
      → (x : Node) → SoundNode alphabet nodes n x → is_loop x ≡ true → (loop_by nodes loops x).size ≡ size_by nodes sizes n x
  loop_size_by loops sizes n earlier walks Nothing s p = absurd (false≢true p)
  loop_size_by loops sizes n earlier walks (Choice bs) s p = absurd (false≢true p)
  loop_size_by loops sizes n earlier walks (Sequence a b) s p = absurd (false≢true p)
  loop_size_by loops sizes n earlier walks (Both a b) s p = absurd (false≢true p)
  loop_size_by loops sizes n earlier walks (Lap a) s p = lap_size (walk nodes a) (walk nodes a).start ∙ ap (λ v. max 1 v) (walks a s.0.0 s.0.1)
  loop_size_by loops sizes n earlier walks (All a b) s p = ap₂ (λ x y. x * y) (earlier a s.0.0 s.0.1) (earlier b s.1.0 s.1.1)

  pub loop_size : (n : ℕ) → is_loop (node nodes n) ≡ true → (loop nodes n).size ≡ size nodes n
  loop_size = from_earlier (λ n. is_loop (node nodes n) ≡ true → (loop nodes n).size ≡ size nodes n) step
    where
      step : (n : ℕ) → ((m : ℕ) → m < n → is_loop (node nodes m) ≡ true → (loop nodes m).size ≡ size nodes m) → is_loop (node nodes n) ≡ true → (loop nodes n).size ≡ size nodes n
      step n ih p =
          ap (λ r. r.size) (loop_is nodes n)
          ∙ loop_size_by (before still n (λ m. loop nodes m)) (before 0 n (λ m. size nodes m)) n
          (λ m h q. ap (λ r. r.size) (before_lt still n (λ m. loop nodes m) m h) ∙ ih m h q ∙ sym (before_lt 0 n (λ m. size nodes m) m h))
          (λ m h q. walk_size m q ∙ sym (before_lt 0 n (λ m. size nodes m) m h))
          (node nodes n) (sound_at alphabet nodes sound n) p
          ∙ sym (size_is nodes n)
