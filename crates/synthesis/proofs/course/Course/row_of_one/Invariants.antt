use Rattle.std.proofs.Common.{◌≡◌, ℕ, ◌<◌, cond, length, get_or}
use Rattle.letters.specs.Alphabets.{most_letters}
use Rattle.property.specs.Nodes.{node, is_loop}
use Rattle.places.specs.declared.outcome.Outcome.TheVariants.{Dead, Done, At}
use Rattle.synthesis.specs.Courses.{course, letters_of, nodes_of}
use Rattle.synthesis.proofs.course.Course.row_of_one.Given as goal

abbrev pub invariant-loop-j : goal.invariant-loop-j
invariant-loop-j l =
    (l.on ≡ cond (is_loop (node (nodes_of l.self) l.n)) (At 0) Done)
    × ((k : ℕ) → k < l.j → k < length (letters_of l.self) → get_or l.out k Dead ≡ (course (nodes_of l.self) l.n).step 0 (get_or (letters_of l.self) k 0))
    × (length l.out ≡ most_letters)
