use Rattle.std.proofs.Common.{◌≡◌, ℕ, ◌<◌, length, get_or}
use Rattle.letters.specs.Alphabets.{most_letters}
use Rattle.places.specs.declared.outcome.Outcome.TheVariants.{Dead}
use Rattle.synthesis.specs.Courses.{course, letters_of, nodes_of}
use Rattle.synthesis.proofs.course.Course.row_of_choice.Given as goal

abbrev pub invariant-loop-j : goal.invariant-loop-j
invariant-loop-j l =
    ((i : ℕ) → i < l.j → get_or l.out i Dead ≡ (course (nodes_of l.self) l.n).step l.place (get_or (letters_of l.self) i 0))
    × (length l.out ≡ most_letters)
