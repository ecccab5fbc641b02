-- Edit automata, after Lanotte, Merro and Munteanu: an edit allows a letter, suppresses it, or inserts another before it.
use Rattle.std.specs.Prelude.{◌≡◌, ℕ, true, List, [], ◌∷◌, ◌++◌, Some, None, Option, ◌≢◌}
use Rattle.letters.specs.Letters.{end, insertable}

pub data Edit : Type 0 where
  allow : ℕ → Edit
  suppress : ℕ → Edit
  insert_before : ℕ → ℕ → Edit

-- the controller's letter that triggers an edit
abbrev pub trigger : Edit → ℕ
trigger (allow a) = a
trigger (suppress a) = a
trigger (insert_before a b) = b

-- the letter that an edit puts out; none stands for the silent action
abbrev pub out : Edit → Option ℕ
out (allow a) = Some a
out (suppress a) = None
out (insert_before a b) = Some a

abbrev put : Option ℕ → List ℕ → List ℕ
put None ls = ls
put (Some a) ls = a ∷ ls

-- what edits put out, the silent actions left out
abbrev pub outputs : List Edit → List ℕ
outputs [] = []
outputs (e ∷ es) = put (out e) (outputs es)

abbrev taken : Edit → Option ℕ
taken (allow a) = Some (trigger (allow a))
taken (suppress a) = Some (trigger (suppress a))
taken (insert_before a b) = None

-- what edits take from the controller: their triggers, those of insertions left out, since such a letter waits
abbrev pub triggers : List Edit → List ℕ
triggers [] = []
triggers (e ∷ es) = put (taken e) (triggers es)

-- The execution of the automaton that lets through what may follow the line so far: it allows a letter that may follow,
-- suppresses a letter other than the end that may not, and while the end waits and may not follow inserts insertable
-- letters that may. The lists are the line so far, the letters that the controller has yet to offer, and the edits.
pub data Execution (MayFollow : List ℕ → ℕ → Type 0) : List ℕ → List ℕ → List Edit → Type 0 where
  over : {line : List ℕ} → Execution MayFollow line [] []
  allows : {line offers : List ℕ} {es : List Edit} {a : ℕ} → MayFollow line a
      → Execution MayFollow (line ++ a ∷ []) offers es → Execution MayFollow line (a ∷ offers) (allow a ∷ es)
  suppresses : {line offers : List ℕ} {es : List Edit} {a : ℕ} → (a ≢ end) → (MayFollow line a → ⊥)
      → Execution MayFollow line offers es → Execution MayFollow line (a ∷ offers) (suppress a ∷ es)
  inserts : {line offers : List ℕ} {es : List Edit} {a : ℕ} → (MayFollow line end → ⊥) → insertable a ≡ true → MayFollow line a
      → Execution MayFollow (line ++ a ∷ []) (end ∷ offers) es → Execution MayFollow line (end ∷ offers) (insert_before a end ∷ es)
