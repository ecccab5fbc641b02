use Rattle.std.proofs.Common.{◌≡◌, true, false, get_or}
use Rattle.std.specs.Slice.Iter.{chunks_exact_rest, chunks_exact_size}
use Rattle.records.specs.Records.{branch_bytes}
use Rattle.property.proofs.FamilyMarks.{Marking}
use Rattle.property.proofs.family.mark_branches_before.Given as goal

abbrev pub invariant-loop-branch : goal.invariant-loop-branch
invariant-loop-branch l =
    (goal.iterator-loop-branch).can_next l.branch-iterator
    × (goal.iterator-loop-branch).is_finite l.branch-iterator
    × (chunks_exact_size l.branch-iterator ≡ branch_bytes)
    × (get_or l.marked l.end false ≡ true)
    × Marking l.body (chunks_exact_rest l.branch-iterator) l.end l.initial.marked l.marked
