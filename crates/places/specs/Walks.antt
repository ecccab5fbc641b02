-- The walk of a node of kinds 2 to 5: the places that lists of letters lead through, one letter after the other.
use Rattle.std.specs.Prelude.{◌≡◌, ℕ, zero, suc, ◌+◌, ◌-◌, ◌*◌, ◌/◌, ◌%◌, Bool, cond, List, [], ◌∷◌, Some, None, Option, ◌==◌, nat_le, nat_lt}
-- a list was no beginning of a trace; it was a trace; or it led to a place
pub use Rattle.places.specs.declared.outcome.Outcome.{Outcome}
pub use Rattle.places.specs.declared.outcome.Outcome.TheVariants.{Dead, Done, At}
use Rattle.property.specs.Nodes.{Node, Nothing, Choice, Sequence, Both, Lap, All, node}
use Rattle.property.specs.Numbered.{by_number}
use Rattle.property.specs.Sizes.{total, in_family}

pub record Walk : Type 0 where
  -- how many places there are, numbered from 0
  pub size : ℕ
  -- where the empty list leads
  pub start : Outcome
  -- where a letter leads from a place
  pub step : ℕ → ℕ → Outcome

-- where a list leads on from an outcome; nothing follows a trace
abbrev pub run : (ℕ → ℕ → Outcome) → Outcome → List ℕ → Outcome
run step o [] = o
run step Dead (l ∷ t) = Dead
run step Done (l ∷ t) = Dead
run step (At p) (l ∷ t) = run step (step p l) t

abbrev pub Ends : Walk → List ℕ → Type 0
Ends w t = run w.step w.start t ≡ Done

abbrev pub nothing_walk : Walk
nothing_walk = record { size = 0; start = Done; step = λ p l. Dead }

-- A Sequence: the second's places come first, so that each letter leads to a lower place.
abbrev pub then_second : Walk → Outcome → Outcome
then_second b Dead = Dead
then_second b Done = b.start
then_second b (At p) = At (b.size + p)

abbrev pub sequence_walk : Walk → Walk → Walk
sequence_walk a b = record {
  size = a.size + b.size;
  start = then_second b a.start;
  step = λ p l. cond (nat_lt p b.size) (b.step p l) (then_second b (a.step (p - b.size) l));
}

-- A Both: a place p of the first and q of the second, of k places, are the place p * k + q.
abbrev pub meet : ℕ → Outcome → Outcome → Outcome
meet k Dead o = Dead
meet k Done Dead = Dead
meet k Done Done = Done
meet k Done (At q) = Dead
meet k (At p) Dead = Dead
meet k (At p) Done = Dead
meet k (At p) (At q) = At (p * k + q)

abbrev pub both_walk : Walk → Walk → Walk
both_walk a b = record {
  size = a.size * b.size;
  start = meet b.size a.start b.start;
  step = λ p l. meet b.size (a.step (p / b.size) l) (b.step (p % b.size) l);
}

-- A member of a Choice's family: a Choice, of one place, or another node, with its walk.
pub data Member : Type 0 where
  Branches : List (ℕ × ℕ) → Member
  Whole : Walk → Member

abbrev pub places : Member → ℕ
places (Branches bs) = 1
places (Whole w) = w.size

abbrev pub shift : ℕ → Outcome → Outcome
shift k Dead = Dead
shift k Done = Done
shift k (At p) = At (k + p)

-- the node of the branch with the letter l
unfoldable pub target : List (ℕ × ℕ) → ℕ → Option ℕ
target [] l = None
target (b ∷ bs) l = cond (b.0 == l) (Some b.1) (target bs l)

-- A Choice: the places of the members of its family stand one after the other, by rising node number.
module _ (is_member : ℕ → Bool) (member : ℕ → Member) where
  -- the first place of a member
  abbrev pub offset : ℕ → ℕ
  offset = total (λ m. cond (is_member m) (places (member m)) 0)

  -- the member, below n, that the place p belongs to
  unfoldable pub locate : ℕ → ℕ → ℕ
  locate zero p = 0
  locate (suc n) p = cond (nat_le (offset n) p) n (locate n p)

  abbrev pub enter_member : ℕ → Member → Outcome
  enter_member m (Branches bs) = At (offset m)
  enter_member m (Whole w) = shift (offset m) w.start

  abbrev pub enter : ℕ → Outcome
  enter m = enter_member m (member m)

  abbrev pub enter_target : Option ℕ → Outcome
  enter_target None = Dead
  enter_target (Some m) = enter m

  -- the letter l at the place p of the member m
  abbrev pub step_member : ℕ → ℕ → ℕ → Member → Outcome
  step_member m p l (Branches bs) = enter_target (target bs l)
  step_member m p l (Whole w) = shift (offset m) (w.step (p - offset m) l)

  abbrev pub step_at : ℕ → ℕ → ℕ → Outcome
  step_at m p l = step_member m p l (member m)

  abbrev pub choice_walk : ℕ → Walk
  choice_walk n = record { size = offset (suc n); start = enter n; step = λ p l. step_at (locate (suc n) p) p l }

abbrev pub member_of : Walk → Node → Member
member_of w Nothing = Whole w
member_of w (Choice bs) = Branches bs
member_of w (Sequence a b) = Whole w
member_of w (Both a b) = Whole w
member_of w (Lap a) = Whole w
member_of w (All a b) = Whole w

-- where `walks` has the walks of the earlier nodes; a node of kinds 6 and 7 has none
abbrev pub walk_by : List Node → (ℕ → Walk) → ℕ → Node → Walk
walk_by nodes walks n Nothing = nothing_walk
walk_by nodes walks n (Choice bs) = choice_walk (λ m. in_family nodes n m) (λ m. member_of (walks m) (node nodes m)) n
walk_by nodes walks n (Sequence a b) = sequence_walk (walks a) (walks b)
walk_by nodes walks n (Both a b) = both_walk (walks a) (walks b)
walk_by nodes walks n (Lap a) = nothing_walk
walk_by nodes walks n (All a b) = nothing_walk

-- the walk of a node; `walk_is` is its equation
unfoldable pub walk : List Node → ℕ → Walk
walk nodes = by_number nothing_walk (λ walks n. walk_by nodes walks n (node nodes n))
