-- A checked property in its place, and what the tests before its table is filled tell of it.
use Rattle.std.proofs.Common.{◌≡◌, ℕ, ◌+◌, ◌-◌, ◌*◌, ◌<◌, ◌≤◌, true, leb, List, length, get_or, Ok, Err, Result, sym, refl, ap, ◌∙◌, subst, inl, inr, arith}
use Rattle.std.proofs.lemmas.List.FromFn.{length-map-range_with_len, get_or-map-range_with_len}
use Rattle.std.proofs.lemmas.Bool.{and_parts, leb-true, lt-ltb, le-ltb, cases_lt, cond-true, cond-false}
use Rattle.letters.specs.Alphabets.{ascending_from, each_a_letter, most_letters}
use Rattle.letters.specs.Declarations.{letters_of}
use Rattle.letters.specs.declared.alphabet.Alphabet.{Alphabet}
use Rattle.property.specs.Checks.{alphabet_of}
use Rattle.property.specs.Nodes.{Node}
use Rattle.property.specs.Placed.{nodes_in, sizes_in, sizes_of}
use Rattle.property.specs.Sized.{cut, most_size}
use Rattle.property.specs.Sizes.{size}
use Rattle.property.specs.Sound.{Sound}
use Rattle.property.specs.Traces.{last_node}
use Rattle.property.specs.declared.place.Nodes.{Nodes}
use Rattle.rules.proofs.Counting as counting
use Rattle.rules.proofs.Positions as positions
use Rattle.synthesis.specs.declared.fault.SynthesisFault.{SynthesisFault}
use Rattle.synthesis.specs.declared.fault.SynthesisFault.TheVariants.{Property, TooLarge, TableMemory, WorkingMemory, Stuck}
use Rattle.synthesis.specs.Fillable.{Fillable}
use Rattle.synthesis.specs.Kept.{Grounds, loop_in}
use Rattle.synthesis.specs.Fitting.{Read, fitting}
use Rattle.synthesis.specs.Synthesis.{property_size, Checked, Fits, Refused, Left, Lent}

module _ (alphabet : Alphabet) where
  pub ascends : ascending_from 0 (letters_of alphabet) ≡ true
  ascends = positions.ascends (letters_of alphabet) alphabet.ok

  pub each_letter : each_a_letter (letters_of alphabet) ≡ true
  each_letter = counting.each_letter (letters_of alphabet) alphabet.ok

  pub few : length (letters_of alphabet) ≤ most_letters
  few =
      let ls = letters_of alphabet in
      let first = (and_parts _ _ alphabet.ok).0 in
      leb-true (length ls) most_letters (and_parts (leb (length ls) most_letters) (ascending_from 0 ls) first).0

-- the sizes as they are kept
length_sizes : (nodes : List Node) → length (sizes_of nodes) ≡ length nodes
unfolding sizes_of
length_sizes nodes = length-map-range_with_len (λ n. cut (size nodes n)) 0 (length nodes)

size_at : (nodes : List Node) (n : ℕ) → n < length nodes → get_or (sizes_of nodes) n 0 ≡ cut (size nodes n)
unfolding sizes_of
size_at nodes n h = get_or-map-range_with_len (λ k. cut (size nodes k)) 0 (length nodes) n n 0 h (omega arith)

-- what the tests tell of a size that was cut
module _ (s letters table work at : ℕ) where
  abbrev ToldOf : SynthesisFault → Type 0
  ToldOf (Property fault) = ⊥
  ToldOf (TooLarge a) = (a ≡ at) × (most_size < s)
  ToldOf (TableMemory a) = (a ≡ at) × (s ≤ most_size) × (table < s * (letters + 3))
  ToldOf (WorkingMemory a) = (a ≡ at) × (s ≤ most_size) × (s * (letters + 3) ≤ table) × (work < 4 * s)
  ToldOf (Stuck a) = ⊥

  abbrev Told : Result (Unit {0}) SynthesisFault → Type 0
  Told (Ok done) = (s ≤ most_size) × (s * (letters + 3) ≤ table) × (4 * s ≤ work)
  Told (Err fault) = ToldOf fault

  told_few : s ≤ most_size → Told (fitting s letters table work at)
  told_few few_places =
      subst Told (sym (cond-false _ _ _ (le-ltb most_size s few_places)))
      (elim (cases_lt table (s * (letters + 3))) [
        | inl h ↦ subst Told (sym (cond-true _ _ _ (lt-ltb table (s * (letters + 3)) h))) (refl, few_places, h)
        | inr room ↦ subst Told (sym (cond-false _ _ _ (le-ltb table (s * (letters + 3)) room)))
            (elim (cases_lt work (4 * s)) [
              | inl h ↦ subst Told (sym (cond-true _ _ _ (lt-ltb work (4 * s) h))) (refl, few_places, room, h)
              | inr h ↦ subst Told (sym (cond-false _ _ _ (le-ltb work (4 * s) h))) (few_places, room, h)
            ])
      ])

  told : Told (fitting (cut s) letters table work at)
  told = elim (cases_lt most_size s) [
    | inl h ↦ subst Told (sym (cond-true _ _ _ (lt-ltb most_size (cut s) (omega arith)))) (refl, h)
    | inr h ↦ let e : s ≡ cut s = omega arith in subst (λ k. Told (fitting k letters table work at)) e (told_few h)
  ]

module _ (file : List ℕ) (place : Nodes) (alphabet : Alphabet) (rd : Read file place alphabet) where
  sound_in : Sound (letters_of alphabet) (nodes_in file place)
  sound_in =
      subst (λ ls. Sound ls (nodes_in file place)) (sym rd.letters)
      (subst (λ ns. Sound (alphabet_of rd.parts) ns) (sym rd.holds.nodes) rd.holds.sound)

  sizes_are : sizes_in place ≡ sizes_of (nodes_in file place)
  sizes_are = rd.holds.sizes ∙ ap sizes_of (sym rd.holds.nodes)

  pub grounds : Fillable (loop_in file place) (letters_of alphabet) → (letters : List ℕ) → letters ≡ letters_of alphabet → Grounds file place letters
  grounds fillable letters e =
      subst (λ ls. Grounds file place ls) (sym e) (record { sound = sound_in; sizes = sizes_are; few_letters = few alphabet; fillable = fillable })

  -- the size of the property, as it is kept
  kept_size : get_or (sizes_in place) (length (sizes_in place) - 1) 0 ≡ cut (property_size rd.parts)
  kept_size =
      let nodes = rd.parts.nodes in
      ap (λ xs. get_or xs (length xs - 1) 0) rd.holds.sizes
      ∙ ap (λ k. get_or (sizes_of nodes) (k - 1) 0) (length_sizes nodes)
      ∙ size_at nodes (last_node nodes) (omega (arith, rd.holds.sound.some))

  -- the tests of a kept size, for so many letters and memories of these lengths
  module _ (kept letters table work at : ℕ) (is_kept : kept ≡ get_or (sizes_in place) (length (sizes_in place) - 1) 0)
      (is_letters : letters ≡ length (letters_of alphabet)) (is_last : at ≡ place.last) where
    checks : Checked file rd.parts at
    checks = record { passes = rd.passes; last = is_last ∙ rd.holds.last }

    tested : Told (property_size rd.parts) (length (alphabet_of rd.parts)) table work at (fitting kept letters table work at)
    tested =
        let s = property_size rd.parts in
        let k = length (alphabet_of rd.parts) in
        subst (λ x. Told s k table work at (fitting x letters table work at)) (sym (is_kept ∙ kept_size))
        (subst (λ x. Told s k table work at (fitting (cut s) x table work at)) (sym (is_letters ∙ ap length rd.letters)) (told s k table work at))

    pub fits_in : Ok tt ≡ fitting kept letters table work at → Fits file table work rd.parts at
    fits_in e =
        let s = property_size rd.parts in
        let t = subst (Told s (length (alphabet_of rd.parts)) table work at) (sym e) tested in
        record { passes = checks; small = t.0; table_fits = t.1; work_fits = t.2 }

    refused_by : (fault : SynthesisFault) → ToldOf (property_size rd.parts) (length (alphabet_of rd.parts)) table work at fault
        → (lent : Lent) → Refused file table work fault × Left fault lent lent
    refused_by (Property fault) t lent = absurd t
    refused_by (TooLarge a) t lent = ((rd.parts, subst (Checked file rd.parts) (sym t.0) checks, t.1), refl)
    refused_by (TableMemory a) t lent = ((rd.parts, subst (Checked file rd.parts) (sym t.0) checks, t.1, t.2), refl)
    refused_by (WorkingMemory a) t lent =
        ((rd.parts, subst (Checked file rd.parts) (sym t.0) checks, t.1, t.2, t.3), refl)
    refused_by (Stuck a) t lent = absurd t

    pub refuses : (fault : SynthesisFault) → Err fault ≡ fitting kept letters table work at
        → (lent : Lent) → Refused file table work fault × Left fault lent lent
    refuses fault e lent =
        refused_by fault (subst (Told (property_size rd.parts) (length (alphabet_of rd.parts)) table work at) (sym e) tested) lent
