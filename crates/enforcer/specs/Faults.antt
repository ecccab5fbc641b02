-- The number of a refusal of file or limit.
use Rattle.std.specs.Prelude.{ℕ, Some, None, Option}
use Rattle.rules.specs.Faults.{rule_number}
use Rattle.synthesis.specs.Faults.{synthesis_report}
use Rattle.enforcer.specs.declared.fault.EnforcerFault.{EnforcerFault}
use Rattle.enforcer.specs.declared.fault.EnforcerFault.TheVariants.{File, Limit, Memory}

abbrev pub fault_number : EnforcerFault → Option ℕ
fault_number (File fault) = Some (synthesis_report fault).number
fault_number (Limit fault) = Some (rule_number fault)
fault_number Memory = None
