-- What a fault of the second layer carries: the reader's fault whole, or layer 2, its number and an offset. And
-- what it prints as.
use Rattle.std.specs.Prelude.{ℕ, List, ◌++◌, codes, decimal}
use Rattle.letters.specs.declared.refusal.Report.{Report}
use Rattle.records.specs.Faults.{read_report, read_text}
use Rattle.property.specs.Checks.{most_nodes}
use Rattle.property.specs.declared.fault.PropertyFault.{PropertyFault}
use Rattle.property.specs.declared.fault.PropertyFault.TheVariants.{Read, Declaration, TooManyNodes, NotEarlier, WrongKind, BranchLetter, OpenLap, NoProperty}

abbrev in_layer_2 : ℕ → ℕ → Report
in_layer_2 number offset = record { layer = 2; number = number; offset = offset }

abbrev pub property_report : PropertyFault → Report
property_report (Read fault) = read_report fault
property_report (Declaration at) = in_layer_2 5 at
property_report (TooManyNodes at) = in_layer_2 6 at
property_report (NotEarlier at) = in_layer_2 7 at
property_report (WrongKind at) = in_layer_2 8 at
property_report (BranchLetter at) = in_layer_2 9 at
property_report (OpenLap at) = in_layer_2 10 at
property_report (NoProperty at) = in_layer_2 11 at

abbrev pub property_text : PropertyFault → List ℕ
property_text (Read fault) = read_text fault
property_text (Declaration at) = codes "the letter may not be declared here"
property_text (TooManyNodes at) = codes "there are over " ++ (decimal most_nodes ++ codes " nodes")
property_text (NotEarlier at) = codes "a node that it names is not earlier"
property_text (WrongKind at) = codes "a node that it names is of the wrong kind"
property_text (BranchLetter at) = codes "branch letters do not ascend, or are not in the alphabet"
property_text (OpenLap at) = codes "the lap is over a node that does not close"
property_text (NoProperty at) = codes "there is no node, or the last is neither a lap nor an all"
