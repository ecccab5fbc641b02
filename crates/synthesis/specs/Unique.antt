-- Each fact that is kept of the walks of a file's nodes has one proof at most, so it may be a ghost field.
use Rattle.std.specs.Prelude.{◌≡◌, ℕ, zero, suc, ◌≤◌, true, false, List, [], ◌∷◌}
use Rattle.std.specs.Coded.{Coded-set, coded_ℕ, code_by, ×_prop, Π_prop, Unit-prop, le_prop}
use native.Mathlib.Nat.{ℕ_set}
use mathlib.Core.Bool.{Bool-set}
use mathlib.Core.HLevel.{is_prop→PathP}
use mathlib.Core.List.{is_set as List-set}
use mathlib.Core.Path.{ap, sym, ◌∙◌, refl}
use Rattle.letters.specs.Alphabets.{among}
use Rattle.property.specs.Closing.{closes}
use Rattle.property.specs.Nodes.{Node, Nothing, Choice, Sequence, Both, Lap, All, node, is_loop}
use Rattle.property.specs.declared.place.Nodes.{Nodes}
use Rattle.property.specs.Placed.{nodes_in}
use Rattle.property.specs.Sized.{most_size}
use Rattle.property.specs.Sound.{Sound, LoopEarlier, PlainEarlier, SoundBranches, SoundNode}
use Rattle.places.specs.Loops.{Fair, Loop}
use Rattle.places.specs.declared.outcome.Outcome.{Outcome}
use Rattle.places.specs.declared.outcome.Outcome.TheVariants.{Dead, Done, At}
use Rattle.synthesis.specs.Fillable.{Fillable}
use Rattle.synthesis.specs.Kept.{Grounds, StartsKept, OnesKept, loop_in}
use Rattle.synthesis.specs.Outcomes.{Like}

both : {A B : Type 0} → IsProp A → IsProp B → IsProp (A × B)
both a b = ×_prop a b

plain_prop : (nodes : List Node) (n m : ℕ) → IsProp (PlainEarlier nodes n m)
plain_prop nodes n m = both le_prop (Bool-set (is_loop (node nodes m)) false)

loop_prop : (nodes : List Node) (n m : ℕ) → IsProp (LoopEarlier nodes n m)
loop_prop nodes n m = both le_prop (Bool-set (is_loop (node nodes m)) true)

branches_prop : (alphabet : List ℕ) (nodes : List Node) (n k : ℕ) (bs : List (ℕ × ℕ)) → IsProp (SoundBranches alphabet nodes n k bs)
branches_prop alphabet nodes n k [] = Unit-prop
branches_prop alphabet nodes n k (b ∷ bs) = λ x y i. (
  le_prop x.0 y.0 i,
  Bool-set (among b.0 alphabet) true x.1 y.1 i,
  plain_prop nodes n b.1 x.2 y.2 i,
  branches_prop alphabet nodes n (suc b.0) bs x.3 y.3 i,
)

node_prop : (alphabet : List ℕ) (nodes : List Node) (n : ℕ) (x : Node) → IsProp (SoundNode alphabet nodes n x)
node_prop alphabet nodes n Nothing = Unit-prop
node_prop alphabet nodes n (Choice bs) = branches_prop alphabet nodes n 0 bs
node_prop alphabet nodes n (Sequence a b) = both (plain_prop nodes n a) (plain_prop nodes n b)
node_prop alphabet nodes n (Both a b) = both (plain_prop nodes n a) (plain_prop nodes n b)
node_prop alphabet nodes n (Lap a) = both (plain_prop nodes n a) (Bool-set (closes nodes a) true)
node_prop alphabet nodes n (All a b) = both (loop_prop nodes n a) (loop_prop nodes n b)

sound_prop : (alphabet : List ℕ) (nodes : List Node) → IsProp (Sound alphabet nodes)
sound_prop alphabet nodes a b = λ i. record {
  each = Π_prop (λ n. Π_prop (λ h. node_prop alphabet nodes n (node nodes n))) a.each b.each i;
  some = le_prop a.some b.some i;
  property = Bool-set _ _ a.property b.property i;
}

fair_prop : (r : Loop) (letters : List ℕ) → IsProp (Fair r letters)
fair_prop r letters a b = λ i. record {
  starts = le_prop a.starts b.starts i;
  stays = Π_prop (λ p. Π_prop (λ l. Π_prop (λ q. Π_prop (λ h. Π_prop (λ e. le_prop))))) a.stays b.stays i;
  lettered = Π_prop (λ p. Π_prop (λ l. Π_prop (λ q. Π_prop (λ h. Π_prop (λ e. Bool-set _ _))))) a.lettered b.lettered i;
  falls = Π_prop (λ p. Π_prop (λ l. Π_prop (λ q. Π_prop (λ h. Π_prop (λ d. Π_prop (λ e. le_prop)))))) a.falls b.falls i;
}

fillable_prop : (r : Loop) (letters : List ℕ) → IsProp (Fillable r letters)
fillable_prop r letters a b = λ i. record {
  fair = fair_prop r letters a.fair b.fair i;
  small = le_prop a.small b.small i;
  ascending = Bool-set _ _ a.ascending b.ascending i;
}

pub Grounds-prop : (file : List ℕ) (place : Nodes) (letters : List ℕ) → IsProp (Grounds file place letters)
Grounds-prop file place letters a b = λ i. record {
  sound = sound_prop letters (nodes_in file place) a.sound b.sound i;
  sizes = List-set ℕ_set _ _ a.sizes b.sizes i;
  few_letters = le_prop a.few_letters b.few_letters i;
  fillable = fillable_prop (loop_in file place) letters a.fillable b.fillable i;
}

-- an outcome as a number
number : Outcome → ℕ
number Dead = 0
number Done = 1
number (At p) = suc (suc p)

numbered : ℕ → Outcome
numbered zero = Dead
numbered (suc zero) = Done
numbered (suc (suc p)) = At p

back : (o : Outcome) → numbered (number o) ≡ o
unfolding number numbered
back Dead = refl
back Done = refl
back (At p) = refl

outcome_set : IsSet Outcome
outcome_set = Coded-set (code_by ℕ coded_ℕ number numbered back)

place_of : Outcome → ℕ
place_of Dead = 0
place_of Done = 0
place_of (At p) = p

at_prop : (k p : ℕ) (r : Outcome) → IsProp (Like k (At p) r)
unfolding place_of
at_prop k p r x y =
    let q : x.0 ≡ y.0 = ap place_of (sym x.1 ∙ y.1) in
    λ i. (
      q i,
      is_prop→PathP (λ j. r ≡ At (q j)) (λ j. outcome_set r (At (q j))) x.1 y.1 i,
      is_prop→PathP (λ j. q j ≤ most_size) (λ j. le_prop) x.2 y.2 i,
      is_prop→PathP (λ j. k ≤ most_size → q j ≡ p) (λ j. Π_prop (λ h. ℕ_set (q j) p)) x.3 y.3 i,
    )

like_prop : (k : ℕ) (o r : Outcome) → IsProp (Like k o r)
like_prop k Dead r = outcome_set _ _
like_prop k Done r = outcome_set _ _
like_prop k (At p) r = at_prop k p r

pub StartsKept-prop : (nodes : List Node) (starts : List Outcome) → IsProp (StartsKept nodes starts)
StartsKept-prop nodes starts = Π_prop (λ m. Π_prop (λ h. like_prop _ _ _))

pub OnesKept-prop : (nodes : List Node) (letters ones : List ℕ) → IsProp (OnesKept nodes letters ones)
OnesKept-prop nodes letters ones = Π_prop (λ m. Π_prop (λ h. Π_prop (λ one. Π_prop (λ j. Π_prop (λ l. Bool-set _ _)))))
