-- What a reader answers, of the file that it holds and the offset that it has come to.
use Rattle.std.specs.Prelude.{◌≡◌, ℕ, ◌+◌, ◌≤◌, true, List, length, take, drop, Some, None, Ok, Err, Option, Result}
use Rattle.records.specs.declared.fault.ReadFault.{ReadFault}
use Rattle.records.specs.declared.record.Record.{Record}
use Rattle.records.specs.declared.reader.Reader.{Reader}
use Rattle.records.specs.Records.{kind_of, body_of, header_bytes, suits}
use Rattle.records.specs.Readings.{Item, item, bytes_of, Found, Over, Holds, Refused, reading, reading_at, ended, with_item}

-- a record that was handed out, with its offset, as an item
abbrev pub item_of : Record × ℕ → Item
item_of r = item (kind_of r.0) (body_of r.0) r.1

abbrev pub told_record : ℕ → Result Record ReadFault → Found
told_record at (Ok r) = Holds (item_of (r, at))
told_record at (Err e) = Refused e

abbrev told_next : Option (Record × ℕ) → Found
told_next None = Over
told_next (Some r) = Holds (item_of r)

-- what an answer of `next` says that it found
abbrev pub told : Result (Option (Record × ℕ)) ReadFault → Found
told (Ok o) = told_next o
told (Err e) = Refused e

-- the reader's offset after what it found
abbrev pub past : ℕ → Found → ℕ
past at Over = at
past at (Holds i) = at + bytes_of i
past at (Refused e) = at

-- a reader at the start of a file, with the whole reading before it, or the fault that is the whole reading
abbrev pub Opened : Result Reader ReadFault → List ℕ → Type 0
Opened (Ok r) file = (r.file.now ≡ file) × (r.at ≡ 0) × (reading_at file 0 ≡ reading file)
Opened (Err e) file = reading file ≡ ended (Some e)

-- a record handed out is the next of the reading, a part of the file at the reader's offset, and suits its kind
pub record HandsRecord (file : List ℕ) (at : ℕ) (r : Record × ℕ) (after : ℕ) : Type 0 where
  pub next : reading_at file at ≡ with_item (item_of r) (reading_at file after)
  pub offset : r.1 ≡ at
  pub part : body_of r.0 ≡ take (length (body_of r.0)) (drop (at + header_bytes) file)
  pub suited : suits (kind_of r.0) (length (body_of r.0)) ≡ true
  pub moved : after ≡ at + bytes_of (item_of r)
  pub within : after ≤ length file

abbrev hands_next : List ℕ → ℕ → Option (Record × ℕ) → ℕ → Type 0
hands_next file at None after = (reading_at file at ≡ ended None) × (after ≡ at)
hands_next file at (Some r) after = HandsRecord file at r after

-- what is left of the reading after an answer
abbrev pub Hands : List ℕ → ℕ → Result (Option (Record × ℕ)) ReadFault → ℕ → Type 0
Hands file at (Ok o) after = hands_next file at o after
Hands file at (Err e) after = (reading_at file at ≡ ended (Some e)) × (after ≡ at)
