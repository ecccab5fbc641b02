-- What is claimed of all runs holds of the runs of every guard under a lawful rule.
use Rattle.rules.specs.Meaning.{Meaning, Lawful}
use Rattle.guard.specs.Runs.{Guarded}
use Rattle.guard.specs.Histories.{run_of}
use Rattle.guard.proofs.Invariant.{lines}
use Rattle.guard.proofs.Taken.{answered}
use Rattle.guard.proofs.Closes.{closes}
use Rattle.guard.proofs.Cycles.{cycles}
use Rattle.guard.proofs.Alikes.{alike}
use Rattle.guard.proofs.Automaton.{edits}

pub guarded : (m : Meaning) → Lawful m → Guarded m (run_of m)
guarded m lawful =
    record {
      answers = answered m;
      lines = lines m lawful;
      closes = closes m lawful;
      cycles = cycles m lawful;
      alike = alike m lawful;
      edits = edits m lawful;
    }
