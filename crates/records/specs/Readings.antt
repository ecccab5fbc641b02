-- What reading a file comes to: its records in order, and the fault that it meets, if any.
use Rattle.std.specs.Prelude.{◌≡◌, ℕ, zero, suc, ◌+◌, cond, List, [], ◌∷◌, length, take, drop, Some, None, Option, ◌==◌, nat_lt}
use Rattle.records.specs.declared.fault.ReadFault.{ReadFault}
use Rattle.records.specs.declared.fault.ReadFault.TheVariants.{TooLong, CutOff, UnknownKind, WrongLength}
use Rattle.records.specs.Faults.{read_report}
use Rattle.records.specs.Records.{most_bytes, header_bytes, two_bytes, is_kind, suits}

-- a record as it was read: the number of its kind, its body, and its offset in the file
pub record Item : Type 0 where
  pub kind : ℕ
  pub body : List ℕ
  pub offset : ℕ

abbrev pub item : ℕ → List ℕ → ℕ → Item
item kind body offset = record { kind = kind; body = body; offset = offset }

-- how many bytes of the file a record takes
abbrev pub bytes_of : Item → ℕ
bytes_of i = header_bytes + length i.body

-- what the bytes from an offset on begin with: nothing more, a record, or a fault
pub data Found : Type 0 where
  Over : Found
  Holds : Item → Found
  Refused : ReadFault → Found

abbrev pub judged : ℕ → List ℕ → ℕ → Found
judged kind body at =
    cond (is_kind kind) (cond (suits kind (length body)) (Holds (item kind body at)) (Refused (WrongLength at))) (Refused (UnknownKind at))

-- cut off where header or body pass the end; then the kind, then the length
unfoldable pub found_in : List ℕ → ℕ → Found
found_in rest at =
    cond (length rest == 0) Over
    (cond (nat_lt (length rest) (header_bytes + two_bytes rest 0)) (Refused (CutOff at))
    (judged (two_bytes rest 2) (take (two_bytes rest 0) (drop header_bytes rest)) at))

unfoldable pub found_at : List ℕ → ℕ → Found
found_at file at = found_in (drop at file) at

pub record Reading : Type 0 where
  pub items : List Item
  pub fault : Option ReadFault

abbrev pub ended : Option ReadFault → Reading
ended fault = record { items = []; fault = fault }

abbrev pub with_item : Item → Reading → Reading
with_item i r = record { items = i ∷ r.items; fault = r.fault }

-- reading goes on past a record, by as many bytes as it takes, and stops at a fault
abbrev pub on_found : (ℕ → Reading) → Found → Reading
on_found past_bytes Over = ended None
on_found past_bytes (Refused fault) = ended (Some fault)
on_found past_bytes (Holds i) = with_item i (past_bytes (bytes_of i))

-- at most n records
unfoldable pub read_most : ℕ → List ℕ → ℕ → Reading
read_most zero rest at = ended None
read_most (suc n) rest at = on_found (λ k. read_most n (drop k rest) (at + k)) (found_in rest at)

-- reading from an offset on; there are no more records than bytes
unfoldable pub reading_at : List ℕ → ℕ → Reading
reading_at file at = read_most (length (drop at file)) (drop at file) at

-- reading a whole file: its length first, then its records in order
abbrev pub reading : List ℕ → Reading
reading file = cond (nat_lt most_bytes (length file)) (ended (Some TooLong)) (reading_at file 0)

-- the records stand in the file one after the other, from an offset on up to another
abbrev pub Lie : List ℕ → ℕ → List Item → ℕ → Type 0
Lie file at [] stop = at ≡ stop
Lie file at (i ∷ is) stop =
    (i.offset ≡ at)
    × (i.kind ≡ two_bytes file (at + 2))
    × (length i.body ≡ two_bytes file at)
    × (i.body ≡ take (two_bytes file at) (drop (at + header_bytes) file))
    × Lie file (at + bytes_of i) is stop

-- where reading stops: at the file's end, or at the record with the fault
abbrev pub stop_of : List ℕ → Option ReadFault → ℕ
stop_of file None = length file
stop_of file (Some fault) = (read_report fault).offset

-- the records that are read, in order, are the whole file, up to the fault if there is one
abbrev pub Whole : List ℕ → Type 0
Whole file = Lie file 0 (reading file).items (stop_of file (reading file).fault)
