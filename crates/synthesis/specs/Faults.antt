-- What a fault of the third layer carries: the property's fault whole, or layer 3, its number and an offset.
use Rattle.std.specs.Prelude.{ℕ}
use Rattle.letters.specs.declared.refusal.Report.{Report}
use Rattle.property.specs.Faults.{property_report}
use Rattle.synthesis.specs.declared.fault.SynthesisFault.{SynthesisFault}
use Rattle.synthesis.specs.declared.fault.SynthesisFault.TheVariants.{Property, TooLarge, TableMemory, WorkingMemory, Stuck}

abbrev in_layer_3 : ℕ → ℕ → Report
in_layer_3 number offset = record { layer = 3; number = number; offset = offset }

abbrev pub synthesis_report : SynthesisFault → Report
synthesis_report (Property fault) = property_report fault
synthesis_report (TooLarge at) = in_layer_3 12 at
synthesis_report (TableMemory at) = in_layer_3 13 at
synthesis_report (WorkingMemory at) = in_layer_3 14 at
synthesis_report (Stuck at) = in_layer_3 15 at
