-- What is made over the course of a checked property: the table of the property, or a stranded beginning.
use Rattle.std.proofs.Common.{◌≡◌, ℕ, ◌*◌, ◌<◌, ◌≤◌, true, ◌↔◌, List, [], ◌∷◌, ◌++◌, length, is_some as option_is_some, Option, sym, ap, ◌∙◌, subst, arith}
use Rattle.letters.specs.Alphabets.{ascending_from, each_a_letter}
use Rattle.letters.specs.Declarations as declarations
use Rattle.letters.specs.Letters.{end}
use Rattle.letters.specs.declared.alphabet.Alphabet.{Alphabet}
use Rattle.property.specs.Checks.{alphabet_of}
use Rattle.property.specs.Nodes.{Node}
use Rattle.property.specs.Placed.{nodes_in}
use Rattle.property.specs.Traces.{PropertyBeginning, last_node}
use Rattle.property.specs.declared.place.Nodes.{Nodes}
use Rattle.rules.specs.Lists.{follow, Admits}
use Rattle.rules.specs.Tabled.{width, tabled}
use Rattle.rules.proofs.Follows.{is_some, follow_join, follow_live}
use Rattle.rules.proofs.Leads.{leads_shortest}
use Rattle.places.specs.Laps.{loop}
use Rattle.places.specs.Loops.{Loop, LeadsToLive}
use Rattle.places.proofs.Shown.{beginnings_lead, places_fair, places_sized}
use Rattle.synthesis.specs.declared.course.Course.{Course}
use Rattle.synthesis.specs.Courses.{letters_of, loop_in, loop_of}
use Rattle.synthesis.specs.Fillable.{Fillable}
use Rattle.synthesis.specs.Made.{Made, MadeTable, StuckAt}
use Rattle.synthesis.specs.Fitting.{Read}
use Rattle.synthesis.specs.Synthesis.{property_size, Fits, Strands, TableOf}
use Rattle.synthesis.proofs.Fitted.{ascends, each_letter}

module _ (file : List ℕ) (place : Nodes) (alphabet : Alphabet) (rd : Read file place alphabet) where
  abbrev nodes : List Node
  nodes = rd.parts.nodes

  abbrev letters : List ℕ
  letters = alphabet_of rd.parts

  -- the loop of the property
  abbrev own_loop : Loop
  own_loop = loop nodes (last_node nodes)

  last_within : last_node nodes < length nodes
  last_within = omega (arith, rd.holds.sound.some)

  loop_sized : own_loop.size ≡ property_size rd.parts
  loop_sized = places_sized letters nodes rd.holds.sound (last_node nodes) last_within rd.holds.sound.property

  begins : (t : List ℕ) → PropertyBeginning nodes t ↔ LeadsToLive own_loop t
  begins = beginnings_lead letters nodes rd.holds.sound (last_node nodes) last_within rd.holds.sound.property

  fillable : (room work at : ℕ) → Fits file room work rd.parts at → Fillable own_loop letters
  fillable room work at fits = record {
    fair = places_fair letters nodes rd.holds.sound (last_node nodes) last_within rd.holds.sound.property;
    small = omega (arith, loop_sized, fits.small);
    ascending = subst (λ ls. ascending_from 0 ls ≡ true) rd.letters (ascends alphabet);
  }

  -- the same of the place that holds the nodes
  pub fillable_in : (room work at : ℕ) → Fits file room work rd.parts at → Fillable (loop_in file place) (declarations.letters_of alphabet)
  fillable_in room work at fits =
      subst (λ ns. Fillable (loop ns (last_node ns)) (declarations.letters_of alphabet)) (sym rd.holds.nodes)
      (subst (λ ls. Fillable own_loop ls) (sym rd.letters) (fillable room work at fits))

  -- a place that is stuck is a stranded beginning
  pub stranded : StuckAt own_loop → Strands nodes
  stranded s = (s.0, (begins s.0).1 s.1, λ u i b. s.2 u i ((begins (s.0 ++ (u ++ end ∷ []))).0 b))

  module _ (table : List ℕ) (count : ℕ) (made : MadeTable own_loop letters table count) where
    admits : (t : List ℕ) → Admits (tabled letters table count) t ↔ PropertyBeginning nodes t
    admits t = (λ a. (begins t).1 ((made.ruled.admits t).0 a), λ b. (made.ruled.admits t).1 ((begins t).0 b))

    pub table_of : TableOf rd.parts table count
    table_of = record {
      lawful = made.ruled.lawful;
      admits = admits;
      some_row = made.ruled.some_row;
      few = omega (arith, made.ruled.few, loop_sized);
      room = made.ruled.room;
      own = made.own;
      rest = made.rest;
    }

    -- the leads from the row that a beginning reaches extend it up to the end
    pub unstranded : Strands nodes → ⊥
    unstranded s =
        let m = tabled letters table count in
        let lawful = made.ruled.lawful in
        let t = s.0 in
        let reached = is_some (follow m m.start t) ((admits t).1 s.1) in
        let live = follow_live m lawful.laws m.start t reached.0 lawful.meant.starts reached.1 in
        let shortest = leads_shortest m lawful reached.0 live in
        let way = shortest.way in
        let goes : Admits m (t ++ (way ++ end ∷ [])) = ap option_is_some (follow_join m m.start t (way ++ end ∷ []) reached.0 reached.1) ∙ shortest.is_way.ends in
        s.2 way shortest.is_way.inserts ((admits (t ++ (way ++ end ∷ []))).0 goes)

  -- the course over the property
  module _ (course : Course) (same_file : course.checked.file.now ≡ file) (same_place : course.checked.nodes.now ≡ place)
      (same_letters : letters_of course ≡ declarations.letters_of alphabet) where
    course_letters : letters_of course ≡ letters
    course_letters = same_letters ∙ rd.letters

    course_loop : loop_of course ≡ own_loop
    course_loop =
        ap (λ ns. loop ns (last_node ns))
        (ap (λ f. nodes_in f course.checked.nodes.now) same_file ∙ ap (λ p. nodes_in file p) same_place ∙ rd.holds.nodes)

    pub course_lettered : each_a_letter (letters_of course) ≡ true
    course_lettered = subst (λ ls. each_a_letter ls ≡ true) (sym same_letters) (each_letter alphabet)

    course_size : (loop_of course).size ≡ property_size rd.parts
    course_size = ap (λ r. r.size) course_loop ∙ loop_sized

    pub course_room : (room work at : ℕ) → Fits file room work rd.parts at → (loop_of course).size * width (letters_of course) ≤ room
    course_room room work at fits =
        subst (λ k. k * width (letters_of course) ≤ room) (sym course_size)
        (subst (λ ls. property_size rd.parts * width ls ≤ room) (sym course_letters) fits.table_fits)

    pub course_work : (room work at : ℕ) → Fits file room work rd.parts at → 4 * (loop_of course).size ≤ work
    course_work room work at fits = subst (λ k. 4 * k ≤ work) (sym course_size) fits.work_fits

    pub course_made : (table : List ℕ) (r : Option ℕ) → Made (loop_of course) (letters_of course) table r → Made own_loop letters table r
    course_made table r made =
        subst (λ ls. Made own_loop ls table r) course_letters (subst (λ l. Made l (letters_of course) table r) course_loop made)
