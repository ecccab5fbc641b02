-- The rows of the table of small property files hold: each is decided, and the decisions come out as the rows say.
use Rattle.std.proofs.Common.{◌≡◌, Bool, true, ◌&&◌, List, [], ◌∷◌, All, refl}
use Rattle.std.proofs.lemmas.Bool.{and_parts}
use Rattle.std.proofs.lemmas.List.Elements.{All-nil, All-cons}
use Rattle.records.specs.Readings.{found_in, read_most, reading_at}
use Rattle.property.specs.Checks.{checked, judge, judge_all}
use Rattle.property.specs.Closing.{each_closes}
use Rattle.property.specs.Nodes.{branches}
use Rattle.property.specs.Numbered.{by_number}
use Rattle.property.specs.Sizes.{some_branch, total}
use Rattle.places.specs.Laps.{loop}
use Rattle.places.specs.Walks.{walk, locate, target}
use Rattle.cases.specs.Claims.{Row, Holds}
use Rattle.cases.specs.PlateCases.{plate_cases, PlateCasesHold}
use Rattle.cases.proofs.Claims.{decides, decided}

abbrev all_decided : List Row → Bool
all_decided [] = true
all_decided (row ∷ rows) = decides (checked row.file) row.claim && all_decided rows

all_hold : (rows : List Row) → all_decided rows ≡ true → All Holds rows
all_hold [] e = All-nil Holds
all_hold (row ∷ rows) e =
    let parts = and_parts (decides (checked row.file) row.claim) (all_decided rows) e in
    All-cons Holds row rows (decided row.file row.claim (checked row.file) refl parts.0) (all_hold rows parts.1)

cases_decided : all_decided plate_cases ≡ true
unfolding checked judge judge_all each_closes by_number branches found_in read_most reading_at loop walk locate target some_branch total
cases_decided = refl

pub plate_cases_hold : PlateCasesHold
plate_cases_hold = all_hold plate_cases cases_decided
