-- Lists of letters that a rule admits, and the shortest way to a place where the end is admitted.
use Rattle.std.specs.Prelude.{◌≡◌, ℕ, ◌<◌, ◌≤◌, true, List, [], ◌∷◌, ◌++◌, length, is_some, Some, None, Option, ◌≢◌}
use Rattle.letters.specs.Letters.{end, insertable}
use Rattle.rules.specs.Meaning.{Meaning, Lawful}

abbrev pub and_then : Option ℕ → (ℕ → Option ℕ) → Option ℕ
and_then None on = None
and_then (Some q) on = on q

-- the place that a list leads to from a place, letter by letter
abbrev pub follow_by : (ℕ → ℕ → Option ℕ) → ℕ → List ℕ → Option ℕ
follow_by next p [] = Some p
follow_by next p (a ∷ xs) = and_then (next p a) (λ q. follow_by next q xs)

-- the same under a rule: each of the letters is admitted in turn
abbrev pub follow : Meaning → ℕ → List ℕ → Option ℕ
follow m p xs = follow_by m.next p xs

abbrev pub Admitted : Meaning → ℕ → List ℕ → Type 0
Admitted m p xs = is_some (follow m p xs) ≡ true

-- the rule admits the list: from its start
abbrev pub Admits : Meaning → List ℕ → Type 0
Admits m xs = Admitted m m.start xs

-- each letter is insertable
abbrev pub Insertable : List ℕ → Type 0
Insertable [] = Unit {0}
Insertable (a ∷ xs) = (insertable a ≡ true) × Insertable xs

-- no letter is the end
abbrev pub Endless : List ℕ → Type 0
Endless [] = Unit {0}
Endless (a ∷ xs) = (a ≢ end) × Endless xs

-- an insertable way: insertable letters, admitted in turn, after which end is admitted
pub record Way (m : Meaning) (p : ℕ) (xs : List ℕ) : Type 0 where
  pub inserts : Insertable xs
  pub ends : Admitted m p (xs ++ end ∷ [])

-- the leads from p, until owed is 0, are xs, and lead to r
pub data Led (m : Meaning) : ℕ → List ℕ → ℕ → Type 0 where
  done : {p : ℕ} → m.owed p ≡ 0 → Led m p [] p
  more : {p a q r : ℕ} {xs : List ℕ} → 0 < m.owed p → m.lead p ≡ Some a → m.next p a ≡ Some q → Led m q xs r → Led m p (a ∷ xs) r

-- the leads from p are an insertable way with as many letters as are owed, and none is shorter
pub record Shortest (m : Meaning) (p : ℕ) : Type 0 where
  pub way : List ℕ
  pub last : ℕ
  pub led : Led m p way last
  pub is_way : Way m p way
  pub long : length way ≡ m.owed p
  pub least : (ys : List ℕ) → Way m p ys → length way ≤ length ys

abbrev pub LeadsGiveAShortestWay : Type 0
LeadsGiveAShortestWay = (m : Meaning) → Lawful m → (p : ℕ) → m.live p ≡ true → Shortest m p

abbrev pub SpanBoundsACycle : Type 0
SpanBoundsACycle = (m : Meaning) → Lawful m → (p : ℕ) → m.live p ≡ true → (xs : List ℕ) → Endless xs → Admitted m p xs → length xs ≤ m.span p
