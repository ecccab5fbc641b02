-- What stands in a record's body: the numbers of nodes, and the branches of a Choice.
use Rattle.std.specs.Prelude.{ℕ, ◌+◌, ◌*◌, ◌/◌, cond, List, length, Some, None, Option, nat_lt, slice_index}
use Rattle.records.specs.declared.body.Branch.{Branch}
use Rattle.records.specs.Records.{two_bytes, branch_bytes}

-- the number in the two bytes at an index
abbrev pub number_at : List ℕ → ℕ → Option ℕ
number_at bytes at = cond (nat_lt (at + 1) (length bytes)) (Some (two_bytes bytes at)) None

abbrev pub branches_in : List ℕ → ℕ
branches_in body = length body / branch_bytes

abbrev pub branch_of : List ℕ → ℕ → Branch
branch_of body i = record { letter = slice_index body (branch_bytes * i); node = two_bytes body (branch_bytes * i + 1) }

-- the branch with an index
abbrev pub branch_at : List ℕ → ℕ → Option Branch
branch_at body i = cond (nat_lt i (branches_in body)) (Some (branch_of body i)) None
