-- What calls come to under a rule with a limit.
use Rattle.std.specs.Prelude.{List, Ok, Err, Result}
use Rattle.rules.specs.Caps.{default_cap}
use Rattle.rules.specs.Meaning.{Meaning}
use Rattle.guard.specs.declared.runs.Call.{Call}
use Rattle.guard.specs.declared.runs.Run.{Run}
use Rattle.enforcer.specs.Enforcement.{RunsUnder, RunsCapped, LimitRefused}
use Rattle.enforcer.specs.declared.enforce.Limit.{Limit}
use Rattle.enforcer.specs.declared.enforce.Limit.TheVariants.{Unlimited, Standard, Letters}
use Rattle.enforcer.specs.declared.fault.EnforcerFault.{EnforcerFault}
use Rattle.enforcer.specs.declared.fault.EnforcerFault.TheVariants as Fault

-- the run under the rule itself, or under the cap over it
abbrev pub RunsLimited : Meaning → Limit → List Call → Run → Type 0
RunsLimited m Unlimited calls x = RunsUnder m calls x
RunsLimited m Standard calls x = RunsCapped m default_cap calls x
RunsLimited m (Letters k) calls x = RunsCapped m k calls x

-- the answer under the rule: the run, a limit that has no cap, or no memory
abbrev pub UnderLimit : Meaning → Limit → List Call → Result Run EnforcerFault → Type 0
UnderLimit m limit calls (Ok x) = RunsLimited m limit calls x
UnderLimit m limit calls (Err (Fault.File fault)) = ⊥
UnderLimit m limit calls (Err (Fault.Limit fault)) = LimitRefused m limit fault
UnderLimit m limit calls (Err Fault.Memory) = Unit {0}
