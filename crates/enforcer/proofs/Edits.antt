-- Executions over what a rule admits, as executions over the property that it stands for.
use Rattle.std.proofs.Common.{ℕ, ◌↔◌, List, [], ◌∷◌, ◌++◌}
use Rattle.letters.specs.Letters.{end}
use Rattle.rules.specs.Lists.{Admits}
use Rattle.rules.specs.Meaning.{Meaning}
use Rattle.guard.specs.Edits.{Edit, Execution, over, allows, suppresses, inserts}
use Rattle.guard.specs.Histories.{run_of}
use Rattle.guard.specs.Runs.{Event, line, offers, LineIsAdmitted, EditsAsAutomaton}
use Rattle.property.specs.Nodes.{Node}
use Rattle.property.specs.Traces.{PropertyBeginning}
use Rattle.enforcer.specs.Enforcement.{LineBegins, EditsProperty, RunsUnder, RunsFree}
use Rattle.guard.specs.declared.runs.Call.{Call}
use Rattle.guard.specs.declared.runs.Run.{Run}

-- an execution goes by what may follow, whichever way that is said
execution_as : {P Q : List ℕ → ℕ → Type 0} {l os : List ℕ} {es : List Edit} → ((l : List ℕ) (a : ℕ) → P l a → Q l a) → ((l : List ℕ) (a : ℕ) → Q l a → P l a) → Execution P l os es → Execution Q l os es
execution_as to from over = over
execution_as {l} to from (allows {a} may e) = allows (to l a may) (execution_as to from e)
execution_as {l} to from (suppresses {a} other not e) = suppresses other (λ q. not (from l a q)) (execution_as to from e)
execution_as {l} to from (inserts {a} not can may e) = inserts (λ q. not (from l end q)) can (to l a may) (execution_as to from e)

module _ (nodes : List Node) (m : Meaning) (same : (t : List ℕ) → Admits m t ↔ PropertyBeginning nodes t) where
  line_begins : (es : List Event) → LineIsAdmitted m es → LineBegins nodes es
  line_begins es x =
      record { begins = (same (line es)).0 x.admitted; unchanged = λ b. x.unchanged ((same (offers es)).1 b); only = λ e. (same (offers es)).0 (x.only e) }

  edits_property : (es : List Event) → EditsAsAutomaton m es → EditsProperty nodes es
  edits_property es x =
      record {
        edits = x.edits;
        executes = execution_as (λ l a. (same (l ++ a ∷ [])).0) (λ l a. (same (l ++ a ∷ [])).1) x.executes;
        puts_out = x.puts_out;
        takes = x.takes;
      }

  -- under a rule that admits exactly the beginnings of the property
  pub runs_free : (calls : List Call) (x : Run) → RunsUnder m calls x → RunsFree nodes m calls x
  runs_free calls x runs =
      record {
        runs = runs;
        lines = λ others. line_begins (run_of m others) (runs.guarded.lines others);
        edits = λ others. edits_property (run_of m others) (runs.guarded.edits others);
      }
