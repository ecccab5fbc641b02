-- Records: the body's length in two bytes, the kind in two bytes, then the body; every number has its lower byte first.
use Rattle.std.specs.Prelude.{ℕ, ◌+◌, ◌*◌, ◌%◌, Bool, cond, ◌&&◌, List, ◌==◌, codes, nat_le, nat_lt, slice_index}
use Rattle.records.specs.declared.record.Record.{Record}
use Rattle.records.specs.declared.record.Record.TheVariants.{Letter, Nothing, Choice, Sequence, Both, Lap, All}

abbrev pub most_bytes : ℕ
most_bytes = 16384

abbrev pub header_bytes : ℕ
header_bytes = 4

abbrev pub most_branches : ℕ
most_branches = 32

-- a branch: a letter, and a node's number in two bytes
abbrev pub branch_bytes : ℕ
branch_bytes = 3

abbrev pub two_bytes : List ℕ → ℕ → ℕ
two_bytes bytes i = slice_index bytes i + 256 * slice_index bytes (i + 1)

-- the number of a record's kind
abbrev pub kind_of : Record → ℕ
kind_of (Letter b) = 1
kind_of (Nothing b) = 2
kind_of (Choice b) = 3
kind_of (Sequence b) = 4
kind_of (Both b) = 5
kind_of (Lap b) = 6
kind_of (All b) = 7

-- what a record prints as: the name of its kind
abbrev pub record_text : Record → List ℕ
record_text (Letter b) = codes "Letter"
record_text (Nothing b) = codes "Nothing"
record_text (Choice b) = codes "Choice"
record_text (Sequence b) = codes "Sequence"
record_text (Both b) = codes "Both"
record_text (Lap b) = codes "Lap"
record_text (All b) = codes "All"

abbrev pub body_of : Record → List ℕ
body_of (Letter b) = b.now
body_of (Nothing b) = b.now
body_of (Choice b) = b.now
body_of (Sequence b) = b.now
body_of (Both b) = b.now
body_of (Lap b) = b.now
body_of (All b) = b.now

abbrev pub is_kind : ℕ → Bool
is_kind kind = nat_le 1 kind && nat_le kind 7

-- a Choice has 1 to 32 branches
abbrev pub suits_choice : ℕ → Bool
suits_choice n = nat_lt 0 n && (nat_le n (most_branches * branch_bytes) && n % branch_bytes == 0)

-- whether a body of n bytes suits the kind
abbrev pub suits : ℕ → ℕ → Bool
suits kind n =
    cond (kind == 1) (n == 1)
    (cond (kind == 2) (n == 0)
    (cond (kind == 3) (suits_choice n)
    (cond (kind == 6) (n == 2)
    (n == 4))))
