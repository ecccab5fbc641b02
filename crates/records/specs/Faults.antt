-- What a fault of the reader carries: layer 1, its number, and the offset of the record; 0 for a file that is too long. And
-- what it prints as.
use Rattle.std.specs.Prelude.{ℕ, List, ◌++◌, codes, decimal}
use Rattle.letters.specs.declared.refusal.Report.{Report}
use Rattle.records.specs.declared.fault.ReadFault.{ReadFault}
use Rattle.records.specs.declared.fault.ReadFault.TheVariants.{TooLong, CutOff, UnknownKind, WrongLength}
use Rattle.records.specs.Records.{most_bytes}

abbrev in_layer_1 : ℕ → ℕ → Report
in_layer_1 number offset = record { layer = 1; number = number; offset = offset }

abbrev pub read_report : ReadFault → Report
read_report TooLong = in_layer_1 1 0
read_report (CutOff at) = in_layer_1 2 at
read_report (UnknownKind at) = in_layer_1 3 at
read_report (WrongLength at) = in_layer_1 4 at

abbrev pub read_text : ReadFault → List ℕ
read_text TooLong = codes "the file is over " ++ (decimal most_bytes ++ codes " bytes")
read_text (CutOff at) = codes "the record is cut off"
read_text (UnknownKind at) = codes "there is no such kind of record"
read_text (WrongLength at) = codes "the length is wrong for the kind"
