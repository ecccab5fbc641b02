use Rattle.std.proofs.Common.{◌≡◌, ◌++◌}
use Rattle.std.specs.Slice.Iter.{chunks_exact_rest, chunks_exact_size}
use Rattle.std.specs.Iterator.Adapters.{enumerate_source, enumerate_count}
use Rattle.letters.specs.Alphabets.{bare}
use Rattle.records.specs.Records.{branch_bytes}
use Rattle.property.specs.Checks.{branch_letters}
use Rattle.property.specs.Drafts.{first_out}
use Rattle.property.specs.Nodes.{branches, Choice}
use Rattle.property.proofs.branches.first_out.Given as goal

abbrev pub invariant-loop-index : goal.invariant-loop-index
invariant-loop-index l =
    (goal.iterator-loop-index).can_next l.index-iterator
    × (goal.iterator-loop-index).is_finite l.index-iterator
    × (chunks_exact_size (enumerate_source l.index-iterator) ≡ branch_bytes)
    × (first_out (l.declared ++ bare) 0 0 (branch_letters (Choice (branches l.body)))
    ≡ first_out (l.declared ++ bare) l.least (enumerate_count l.index-iterator) (branch_letters (Choice (branches (chunks_exact_rest (enumerate_source l.index-iterator))))))
